-- Complementary slackness of the sum: where the primal and the dual values are equal, a multiplier that is not zero stands at a bound that
-- is met, and so each winner meets its own bound or is in a set that meets its bound. Cited by what is said of accepted discounts.
-- Assumes nothing.
use mathlib.Core.Path.{◌≡◌}
use mathlib.Core.Logic.{◌⊎◌, inl, inr}
use Prim.Native.Nat.{ℕ, ◌+◌, ◌*◌, ◌^◌, ◌≤◌, ◌<◌}
use native.Mathlib.Nat.{mul-le-mul_left, eq_of_mul-eq-mul_left, eq-zero-or-pos}
use native.Mathlib.Omega.{arith}
use Rattle.sets.specs.Sums.{sum}
use Rattle.sets.specs.Sets.{sum_in, over_sets}
use Rattle.sets.proofs.Sums.{sum_le, sum_tight}
use Rattle.sets.proofs.Sets.{over_le, over_tight, holding_positive}
use Rattle.pricing.specs.Certificate.{Certificate, WithinReserve, WithinSets, Cover, Totals, InMetSet}
use Rattle.pricing.proofs.Duality.{sum_scaled, over_scaled, cover_total}

module _ (c : Certificate) (σ ρ : ℕ → ℕ) (reserve : WithinReserve c.w c.q ρ c.X) (sets : WithinSets c.w c.q σ c.X)
    (cover : Cover c) (totals : Totals c σ ρ) where
  -- what the multipliers give for the discounts, set by set and winner by winner, is at most what they give for the bounds
  of_set : (L : ℕ) → 1 ≤ L → L < 2 ^ c.w → c.Y L * sum_in c.w L c.X ≤ c.Y L * (c.q * σ L)
  unfolding WithinSets
  of_set L p l = mul-le-mul_left (c.Y L) (sets L p l)

  of_winner : (j : ℕ) → j < c.w → c.Z j * c.X j ≤ c.Z j * (c.q * ρ j)
  unfolding WithinReserve
  of_winner j l = mul-le-mul_left (c.Z j) (reserve j l)

  of_sets : over_sets c.w (λ L. c.Y L * sum_in c.w L c.X) ≤ over_sets c.w (λ L. c.Y L * (c.q * σ L))
  of_sets = over_le c.w (λ L. c.Y L * sum_in c.w L c.X) (λ L. c.Y L * (c.q * σ L)) of_set

  of_winners : sum c.w (λ j. c.Z j * c.X j) ≤ sum c.w (λ j. c.Z j * (c.q * ρ j))
  of_winners = sum_le c.w (λ j. c.Z j * c.X j) (λ j. c.Z j * (c.q * ρ j)) of_winner

  -- and in total, with equal values, not less
  values_meet : over_sets c.w (λ L. c.Y L * (c.q * σ L)) + sum c.w (λ j. c.Z j * (c.q * ρ j))
      ≤ over_sets c.w (λ L. c.Y L * sum_in c.w L c.X) + sum c.w (λ j. c.Z j * c.X j)
  values_meet =
      omega (
        arith,
        cover_total c cover c.X,
        totals,
        sum_scaled c.w c.q c.Z ρ,
        over_scaled c.w c.q c.Y σ,
      )

  pub set_met : (L : ℕ) → 1 ≤ L → L < 2 ^ c.w → 1 ≤ c.Y L → sum_in c.w L c.X ≡ c.q * σ L
  set_met L p l y =
      eq_of_mul-eq-mul_left (c.Y L) y (sum_in c.w L c.X) (c.q * σ L)
      (over_tight c.w (λ M. c.Y M * sum_in c.w M c.X) (λ M. c.Y M * (c.q * σ M)) of_set
      (omega (arith, values_meet, of_winners)) L p l)

  pub reserve_met : (j : ℕ) → j < c.w → 1 ≤ c.Z j → c.X j ≡ c.q * ρ j
  reserve_met j l z =
      eq_of_mul-eq-mul_left (c.Z j) z (c.X j) (c.q * ρ j)
      (sum_tight c.w (λ k. c.Z k * c.X k) (λ k. c.Z k * (c.q * ρ k)) of_winner (omega (arith, values_meet, of_sets)) j l)

  -- a winner with no multiplier of its own is in a set whose bound is met
  pub in_met_set : 1 ≤ c.s → (j : ℕ) → j < c.w → c.Z j ≡ 0 → InMetSet c.w c.q σ c.X j
  in_met_set positive j l z =
      let t = holding_positive c.w j c.Y (omega (arith, cover j l)) in
      record { set = t.0; positive = t.1; below = t.2; holds = t.3; met = set_met t.0 t.1 t.2 t.4 }

  pub each_meets : 1 ≤ c.s → (j : ℕ) → j < c.w → (c.X j ≡ c.q * ρ j) ⊎ InMetSet c.w c.q σ c.X j
  each_meets positive j l = elim (eq-zero-or-pos (c.Z j)) [ inl z ↦ inr (in_met_set positive j l z) | inr z ↦ inl (reserve_met j l z) ]
