-- Work with fractions by one relation: the fraction f is n / D. Each operation on fractions is that operation on the numbers over D, and
-- each comparison is one across the two denominators. Cited by the laws of discounts as fractions. Assumes nothing.
use mathlib.Core.Path.{◌≡◌, refl, sym, ap, ap₂, ◌∙◌}
use mathlib.Core.Bool.{Bool, true, false, cond}
use mathlib.Core.Logic.{◌↔◌}
use Prim.Native.Nat.{ℕ, zero, suc, ◌+◌, ◌*◌, ◌-◌, ◌^◌, ◌≤◌, ◌<◌}
use native.Mathlib.Nat.{le_refl, le_of_eq, le_antisymm, lt_of_not-le, not-le_of_lt}
use native.Mathlib.Nat.{mul_comm, mul-sub, one-le-mul, mul-le-mul_right, le_of_mul-le-mul_right}
use native.Mathlib.Omega.{arith}
use Rattle.sets.specs.Sums.{sum}
use Rattle.pricing.specs.Certificate.{apart}
use Rattle.pricing.specs.Fractions.{Fraction, over, whole, plus, minus, gap, square, AtMost, Less, Equal, total}
use Rattle.pricing.proofs.Squares.{square_is}

-- f is n / D
pub record Is (D : ℕ) (f : Fraction) (n : ℕ) : Type 0 where
  pub proper : 1 ≤ f.den
  pub equal : f.num * D ≡ n * f.den

-- THE OPERATIONS
pub over_is : (n D : ℕ) → 1 ≤ D → Is D (over n D) n
unfolding over
over_is n D l = record { proper = l; equal = refl }

pub whole_is : (D n : ℕ) → Is D (whole n) (D * n)
unfolding whole over
whole_is D n = record { proper = le_refl 1; equal = omega arith }

pub zero_is : (D : ℕ) → Is D (whole 0) 0
unfolding whole over
zero_is D = record { proper = le_refl 1; equal = omega arith }

pub plus_is : {D m n : ℕ} {f g : Fraction} → Is D f m → Is D g n → Is D (plus f g) (m + n)
unfolding plus over
plus_is {D} {m} {n} {f} {g} x y =
    record {
      proper = one-le-mul x.proper y.proper;
      equal = omega (arith, ap (λ (z : ℕ). z * g.den) x.equal, ap (λ (z : ℕ). z * f.den) y.equal);
    }

pub minus_is : {D m n : ℕ} {f g : Fraction} → Is D f m → Is D g n → Is D (minus f g) (m - n)
unfolding minus over
minus_is {D} {m} {n} {f} {g} x y =
    record {
      proper = one-le-mul x.proper y.proper;
      equal =
          mul_comm (f.num * g.den - g.num * f.den) D ∙ mul-sub D (f.num * g.den) (g.num * f.den)
          ∙ ap₂ (λ (a b : ℕ). a - b) left right
          ∙ sym (mul-sub (f.den * g.den) m n) ∙ mul_comm (f.den * g.den) (m - n);
    }
  where
    left : D * (f.num * g.den) ≡ f.den * g.den * m
    left = omega (arith, ap (λ (z : ℕ). z * g.den) x.equal)

    right : D * (g.num * f.den) ≡ f.den * g.den * n
    right = omega (arith, ap (λ (z : ℕ). z * f.den) y.equal)

pub gap_is : {D m n : ℕ} {f g : Fraction} → Is D f m → Is D g n → Is D (gap f g) (apart m n)
unfolding gap apart
gap_is x y = plus_is (minus_is x y) (minus_is y x)

pub square_of : {D n : ℕ} {f : Fraction} → Is D f n → Is (D ^ 2) (square f) (n ^ 2)
unfolding square over
square_of {D} {n} {f} x =
    record {
      proper = one-le-mul x.proper x.proper;
      equal =
          ap (λ (z : ℕ). f.num * f.num * z) (square_is D) ∙ squared ∙ ap (λ (z : ℕ). z * (f.den * f.den)) (sym (square_is n));
    }
  where
    squared : f.num * f.num * (D * D) ≡ n * n * (f.den * f.den)
    squared = omega (arith, ap (λ (z : ℕ). z * z) x.equal)

pub cond_is : {D m n : ℕ} {f g : Fraction} (b : Bool) → Is D f m → Is D g n → Is D (cond b f g) (cond b m n)
cond_is true x y = x
cond_is false x y = y

pub total_is : (w D : ℕ) (f : ℕ → Fraction) (n : ℕ → ℕ) → ((j : ℕ) → j < w → Is D (f j) (n j)) → Is D (total w f) (sum w n)
unfolding total sum
total_is zero D f n h = zero_is D
total_is (suc w) D f n h = plus_is (total_is w D f n (λ j l. h j (omega arith))) (h w (le_refl (suc w)))

-- COMPARISONS
-- x K ≡ u B and y K ≡ v B, with K positive: x is at most y where u is at most v
like_le : (K B : ℕ) {x y u v : ℕ} → 1 ≤ K → x * K ≡ u * B → y * K ≡ v * B → u ≤ v → x ≤ y
like_le K B k e f l = le_of_mul-le-mul_right {k = K} (omega (arith, e, f, mul-le-mul_right B l)) k

pub at_most : {D E m n : ℕ} {f g : Fraction} → 1 ≤ D → 1 ≤ E → Is D f m → Is E g n → AtMost f g ↔ m * E ≤ n * D
unfolding AtMost
at_most {D} {E} {m} {n} {f} {g} d e x y = (
  like_le (f.den * g.den) (D * E) (one-le-mul x.proper y.proper) (sym left) (sym right),
  like_le (D * E) (f.den * g.den) (one-le-mul d e) left right,
)
  where
    left : f.num * g.den * (D * E) ≡ m * E * (f.den * g.den)
    left = omega (arith, ap (λ (z : ℕ). z * (g.den * E)) x.equal)

    right : g.num * f.den * (D * E) ≡ n * D * (f.den * g.den)
    right = omega (arith, ap (λ (z : ℕ). z * (f.den * D)) y.equal)

pub less : {D E m n : ℕ} {f g : Fraction} → 1 ≤ D → 1 ≤ E → Is D f m → Is E g n → Less f g ↔ m * E < n * D
unfolding Less AtMost
less d e x y = (
  λ l. lt_of_not-le (λ h. not-le_of_lt l ((at_most e d y x).1 h)),
  λ l. lt_of_not-le (λ h. not-le_of_lt l ((at_most e d y x).0 h)),
)

pub equal : {D E m n : ℕ} {f g : Fraction} → 1 ≤ D → 1 ≤ E → Is D f m → Is E g n → Equal f g ↔ m * E ≡ n * D
unfolding Equal AtMost
equal d e x y = (
  λ p. le_antisymm ((at_most d e x y).0 (le_of_eq p)) ((at_most e d y x).0 (le_of_eq (sym p))),
  λ p. le_antisymm ((at_most d e x y).1 (le_of_eq p)) ((at_most e d y x).1 (le_of_eq (sym p))),
)
