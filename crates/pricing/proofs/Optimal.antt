-- Certified discounts are the best: any other discounts within the bounds have a lesser sum, or an equal sum and a greater distance.
-- That the certified discounts are themselves within the bounds (questions 10 and 11) is not used, nor that q and r are positive. Cited by
-- the theorems on discounts as fractions. Assumes nothing.
use mathlib.Core.Path.{◌≡◌, sym, ap, ◌∙◌}
use mathlib.Core.Logic.{inl, inr}
use Prim.Native.Nat.{ℕ, ◌+◌, ◌*◌, ◌^◌, ◌≤◌, ◌<◌}
use native.Mathlib.Nat.{mul_comm, mul_left_comm, mul-le-mul_left, eq-or-lt_of_le, eq-zero-or-pos}
use native.Mathlib.Omega.{arith}
use Rattle.sets.specs.Sums.{sum}
use Rattle.sets.specs.Sets.{sum_in, over_sets, holding, single}
use Rattle.sets.proofs.Sums.{sum_ext, sum_mul}
use Rattle.sets.proofs.Sets.{over_le, over_mul, exchange}
use Rattle.pricing.specs.Certificate.{Certificate, WithinReserve, WithinSets, Balances, apart, distance, Differs, Worse}
use Rattle.pricing.proofs.Squares.{square_gap, square_gap_scaled}
use Rattle.pricing.proofs.Balance.{above_zero, below_zero, balance}
use Rattle.pricing.proofs.Duality.{sum_greatest}
use Rattle.pricing.proofs.Nearest.{gain, nearest}

-- a distance over q ^ 2, with r ^ 2 more in the denominator
distance_scaled : (w q r : ℕ) (σ x : ℕ → ℕ) → distance w q σ x * r ^ 2 ≡ sum w (λ j. square_gap (r * (q * σ (single j))) (r * x j))
unfolding distance
distance_scaled w q r σ x =
    mul_comm (distance w q σ x) (r ^ 2) ∙ sym (sum_mul w (r ^ 2) (λ j. apart (q * σ (single j)) (x j) ^ 2))
    ∙ sum_ext w (λ j. r ^ 2 * apart (q * σ (single j)) (x j) ^ 2) (λ j. square_gap (r * (q * σ (single j))) (r * x j))
    (λ j l. square_gap_scaled r (q * σ (single j)) (x j))

-- the other distance, from the same points: q * (r * σ) is r * (q * σ)
distance_turned : (w q r : ℕ) (σ y : ℕ → ℕ) → distance w r σ y * q ^ 2 ≡ sum w (λ j. square_gap (r * (q * σ (single j))) (q * y j))
distance_turned w q r σ y =
    distance_scaled w r q σ y
    ∙ sum_ext w (λ j. square_gap (q * (r * σ (single j))) (q * y j)) (λ j. square_gap (r * (q * σ (single j))) (q * y j))
    (λ j l. ap (λ (z : ℕ). square_gap z (q * y j)) (mul_left_comm q r (σ (single j))))

-- the sum of products with the sets' multipliers, gathered by sets
weighed : (w r q : ℕ) (U y : ℕ → ℕ) →
    sum w (λ j. r * holding w j U * (q * y j)) ≡ r * (q * over_sets w (λ L. U L * sum_in w L y))
weighed w r q U y =
    sum_ext w (λ j. r * holding w j U * (q * y j)) (λ j. r * q * (y j * holding w j U)) (λ j l. omega arith)
    ∙ sum_mul w (r * q) (λ j. y j * holding w j U) ∙ omega (arith, ap (λ (z : ℕ). r * q * z) (exchange w y U))

module _ (c : Certificate) (σ ρ : ℕ → ℕ) (b : Balances c σ ρ) (r : ℕ) (y : ℕ → ℕ)
    (reserve : WithinReserve c.w r ρ y) (sets : WithinSets c.w r σ y) where
  -- where a set has a multiplier, the certified discounts meet its bound and the others stay within it
  at_set : (L : ℕ) → 1 ≤ L → L < 2 ^ c.w →
      c.q * (c.U L * sum_in c.w L y) ≤ r * (c.U L * sum_in c.w L c.X)
  unfolding WithinSets
  at_set L p l =
      elim (eq-zero-or-pos (c.U L)) [
        | inl e ↦ omega (arith, ap (λ (z : ℕ). c.q * (z * sum_in c.w L y)) e)
        | inr h ↦ omega (
          arith,
          ap (λ (z : ℕ). r * (c.U L * z)) (b.slack_sets L p l (omega arith)),
          mul-le-mul_left (c.q * c.U L) (sets L p l),
        )
      ]

  at_sets : sum c.w (λ j. r * holding c.w j c.U * (c.q * y j)) ≤ sum c.w (λ j. r * holding c.w j c.U * (r * c.X j))
  at_sets =
      omega (
        arith,
        weighed c.w r c.q c.U y,
        weighed c.w r r c.U c.X,
        mul-le-mul_left r (over_le c.w (λ L. c.q * (c.U L * sum_in c.w L y)) (λ L. r * (c.U L * sum_in c.w L c.X)) at_set),
        ap (λ (z : ℕ). r * z) (over_mul c.w c.q (λ L. c.U L * sum_in c.w L y)),
        ap (λ (z : ℕ). r * z) (over_mul c.w r (λ L. c.U L * sum_in c.w L c.X)),
      )

  at_zero : (j : ℕ) → j < c.w → r * c.T j * (r * c.X j) ≤ r * c.T j * (c.q * y j)
  at_zero j l =
      elim (eq-zero-or-pos (c.T j)) [
        | inl e ↦ omega (arith, ap (λ (z : ℕ). r * z * (r * c.X j)) e)
        | inr h ↦ omega (arith, ap (λ (z : ℕ). r * c.T j * (r * z)) (b.slack_zero j l (omega arith)))
      ]

  at_reserve : (j : ℕ) → j < c.w → r * c.R j * (c.q * y j) ≤ r * c.R j * (r * c.X j)
  unfolding WithinReserve
  at_reserve j l =
      elim (eq-zero-or-pos (c.R j)) [
        | inl e ↦ omega (arith, ap (λ (z : ℕ). r * z * (c.q * y j)) e)
        | inr h ↦ omega (
          arith,
          ap (λ (z : ℕ). r * c.R j * (r * z)) (b.slack_reserve j l (omega arith)),
          mul-le-mul_left (r * c.R j * c.q) (reserve j l),
        )
      ]

  stationary_scaled : (j : ℕ) → j < c.w →
      r * (c.q * σ (single j)) + r * c.T j + r * below_zero c.G
      ≡ r * above_zero c.G + r * holding c.w j c.U + r * c.R j + r * c.X j
  stationary_scaled j l =
      omega (
        arith,
        ap (λ (z : ℕ). r * z)
            (balance (c.q * σ (single j)) (c.X j) (holding c.w j c.U) (c.R j) (c.T j) c.G (b.stationary j l)),
      )

  -- with an equal sum, the others are farther
  nearer : sum c.w y * c.q ≡ sum c.w c.X * r → Differs c.w c.q c.X r y →
      distance c.w c.q σ c.X * r ^ 2 < distance c.w r σ y * c.q ^ 2
  unfolding Differs
  nearer e d =
      omega (
        arith,
        distance_scaled c.w c.q r σ c.X,
        distance_turned c.w c.q r σ y,
        nearest c.w (λ j. r * (c.q * σ (single j))) (λ j. r * c.X j) (λ j. c.q * y j) (λ j. r * holding c.w j c.U)
            (r * below_zero c.G) (r * above_zero c.G)
            (λ j l. gain (r * (c.q * σ (single j))) (r * c.X j) (c.q * y j) (r * below_zero c.G) (r * above_zero c.G)
            (r * holding c.w j c.U) (r * c.T j) (r * c.R j) (stationary_scaled j l) (at_zero j l) (at_reserve j l))
            (sum_mul c.w c.q y ∙ mul_comm c.q (sum c.w y) ∙ e ∙ mul_comm (sum c.w c.X) r ∙ sym (sum_mul c.w r c.X))
            at_sets d.0 d.1 (λ p. d.2 (omega (arith, p))),
      )

-- the certificate's theorem
pub certificate_optimal : (c : Certificate) (σ ρ : ℕ → ℕ) → 1 ≤ c.s → Balances c σ ρ → (r : ℕ) (y : ℕ → ℕ) →
    WithinReserve c.w r ρ y → WithinSets c.w r σ y → Differs c.w c.q c.X r y → Worse c.w σ c.q c.X r y
unfolding Worse
certificate_optimal c σ ρ positive b r y reserve sets d =
    elim (eq-or-lt_of_le (sum_greatest c σ ρ positive b.cover b.totals r y reserve sets)) [
      | inl e ↦ inr (e, nearer c σ ρ b r y reserve sets e d)
      | inr l ↦ inl l
    ]
