-- Weak duality: multipliers that cover every winner bound the sum of any discounts within the bounds. Cited by the proof that certified
-- discounts are best, and by the proof that each winner meets a bound. Assumes nothing.
use mathlib.Core.Path.{◌≡◌, ap, ◌∙◌}
use Prim.Native.Nat.{ℕ, ◌+◌, ◌*◌, ◌≤◌}
use native.Mathlib.Nat.{mul-le-mul_left, mul-le-mul_right, le_of_mul-le-mul_left}
use native.Mathlib.Omega.{arith}
use Rattle.sets.specs.Sums.{sum}
use Rattle.sets.specs.Sets.{sum_in, over_sets, holding}
use Rattle.sets.proofs.Sums.{sum_ext, sum_le, sum_add, sum_mul}
use Rattle.sets.proofs.Sets.{over_ext, over_le, over_mul, exchange}
use Rattle.pricing.specs.Certificate.{Certificate, WithinReserve, WithinSets, Cover, Totals}

-- a total of multiples whose one factor is a multiple of q
pub sum_scaled : (n q : ℕ) (m b : ℕ → ℕ) → sum n (λ j. m j * (q * b j)) ≡ q * sum n (λ j. m j * b j)
sum_scaled n q m b = sum_ext n (λ j. m j * (q * b j)) (λ j. q * (m j * b j)) (λ j l. omega arith) ∙ sum_mul n q (λ j. m j * b j)

pub over_scaled : (w q : ℕ) (m b : ℕ → ℕ) → over_sets w (λ L. m L * (q * b L)) ≡ q * over_sets w (λ L. m L * b L)
over_scaled w q m b = over_ext w (λ L. m L * (q * b L)) (λ L. q * (m L * b L)) (λ L p l. omega arith) ∙ over_mul w q (λ L. m L * b L)

module _ (c : Certificate) (cover : Cover c) where
  -- s for each unit of discount is at most what the multipliers give for it
  pub cover_total : (y : ℕ → ℕ) → c.s * sum c.w y ≤ sum c.w (λ j. c.Z j * y j) + over_sets c.w (λ L. c.Y L * sum_in c.w L y)
  cover_total y =
      omega (
        arith,
        sum_mul c.w c.s y,
        sum_add c.w (λ j. c.Z j * y j) (λ j. y j * holding c.w j c.Y),
        exchange c.w y c.Y,
        sum_le c.w (λ j. c.s * y j) (λ j. c.Z j * y j + y j * holding c.w j c.Y)
            (λ j l. omega (arith, mul-le-mul_right (y j) (cover j l))),
      )

  -- and that is at most the dual value, for discounts y over r within the bounds
  pub dual_bound : (r : ℕ) (σ ρ y : ℕ → ℕ) → WithinReserve c.w r ρ y → WithinSets c.w r σ y →
      c.s * sum c.w y ≤ r * (over_sets c.w (λ L. c.Y L * σ L) + sum c.w (λ j. c.Z j * ρ j))
  unfolding WithinReserve WithinSets
  dual_bound r σ ρ y reserve sets =
      omega (
        arith,
        cover_total y,
        sum_scaled c.w r c.Z ρ,
        over_scaled c.w r c.Y σ,
        sum_le c.w (λ j. c.Z j * y j) (λ j. c.Z j * (r * ρ j)) (λ j l. mul-le-mul_left (c.Z j) (reserve j l)),
        over_le c.w (λ L. c.Y L * sum_in c.w L y) (λ L. c.Y L * (r * σ L)) (λ L p l. mul-le-mul_left (c.Y L) (sets L p l)),
      )

-- no discounts within the bounds have a greater sum than the certified ones
pub sum_greatest : (c : Certificate) (σ ρ : ℕ → ℕ) → 1 ≤ c.s → Cover c → Totals c σ ρ → (r : ℕ) (y : ℕ → ℕ) →
    WithinReserve c.w r ρ y → WithinSets c.w r σ y → sum c.w y * c.q ≤ sum c.w c.X * r
sum_greatest c σ ρ positive cover totals r y reserve sets =
    le_of_mul-le-mul_left {k = c.s}
    (omega (
      arith,
      mul-le-mul_left c.q (dual_bound c cover r σ ρ y reserve sets),
      ap (λ (z : ℕ). r * z) totals,
    ))
    positive
