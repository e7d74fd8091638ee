-- Distances of whole numbers and their squares, without negative numbers. Cited by the laws on which discounts are nearest.
-- Assumes nothing.
use mathlib.Core.Path.{◌≡◌, sym, ap, ap₂, ◌∙◌}
use mathlib.Core.Logic.{◌≢◌, inl, inr}
use Prim.Native.Nat.{ℕ, ◌+◌, ◌*◌, ◌-◌, ◌^◌, ◌≤◌}
use native.Mathlib.Nat.{pow-zero, pow-suc, one-mul, mul-sub, mul-le-mul, mul-add, eq-zero-or-pos}
use native.Mathlib.Omega.{arith}
use Rattle.pricing.specs.Certificate.{apart}

pub square_is : (n : ℕ) → n ^ 2 ≡ n * n
square_is n = pow-suc n 1 ∙ ap (λ (z : ℕ). z * n) (pow-suc n 0 ∙ ap (λ (z : ℕ). z * n) (pow-zero n) ∙ one-mul n)

-- a common factor
apart_mul : (c a b : ℕ) → apart (c * a) (c * b) ≡ c * apart a b
unfolding apart
apart_mul c a b = ap₂ (λ (m n : ℕ). m + n) (sym (mul-sub c a b)) (sym (mul-sub c b a)) ∙ sym (mul-add c (a - b) (b - a))

-- the squared distance of two numbers, as a product
unfoldable pub square_gap : ℕ → ℕ → ℕ
square_gap a b = apart a b * apart a b

pub square_gap_positive : (a b : ℕ) → a ≢ b → 1 ≤ square_gap a b
unfolding square_gap apart
square_gap_positive a b e = mul-le-mul far far
  where
    far : 1 ≤ (a - b) + (b - a)
    far = omega arith

square_split : (a b d : ℕ) → a ≡ b + d → d * d + 2 * (a * b) ≡ a * a + b * b
square_split a b d e = omega (arith, ap (λ (z : ℕ). z * z) e, ap (λ (z : ℕ). z * b) e)

-- (a - b) ^ 2 is a ^ 2 + b ^ 2 - 2 a b
pub square_gap_expand : (a b : ℕ) → square_gap a b + 2 * (a * b) ≡ a * a + b * b
unfolding square_gap apart
square_gap_expand a b =
    elim (eq-zero-or-pos (a - b)) [
      | inl e ↦ omega (arith, square_split b a ((a - b) + (b - a)) (omega arith))
      | inr l ↦ square_split a b ((a - b) + (b - a)) (omega arith)
    ]

pub square_gap_scaled : (c a b : ℕ) → c ^ 2 * apart a b ^ 2 ≡ square_gap (c * a) (c * b)
unfolding square_gap
square_gap_scaled c a b =
    ap₂ (λ (m n : ℕ). m * n) (square_is c) (square_is (apart a b)) ∙ omega arith
    ∙ sym (ap₂ (λ (m n : ℕ). m * n) (apart_mul c a b) (apart_mul c a b))
