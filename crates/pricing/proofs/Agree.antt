-- Questions 10 to 15 look at winners below w and at sets 1 to 2 ^ w - 1 alone: bounds that agree there are judged alike. Cited by the
-- judging, whose bounds stand in arrays. Assumes nothing.
use mathlib.Core.Path.{◌≡◌, refl, ap₂}
use mathlib.Core.Bool.{Bool, ◌&&◌}
use Prim.Native.Nat.{ℕ, zero, suc, ◌*◌, ◌-◌, ◌^◌, ◌≤◌, ◌<◌}
use native.Mathlib.Omega.{arith}
use Rattle.sets.specs.Sets.{single}
use Rattle.sets.proofs.Sums.{sum_ext}
use Rattle.sets.proofs.Sets.{over_ext}
use Rattle.sets.proofs.Members.{single_positive, single_lt}
use Rattle.pricing.specs.Certificate.{Certificate}
use Rattle.pricing.specs.Questions.{Question, within_reserve, within_sets, cover, totals, stationary}
use Rattle.pricing.specs.Questions.{slack_sets, slack_reserve, slack_zero}
use Rattle.pricing.specs.Questions.{every, every_set, test}

pub every_ext : (n : ℕ) (p r : ℕ → Bool) → ((k : ℕ) → k < n → p k ≡ r k) → every n p ≡ every n r
unfolding every
every_ext zero p r h = refl
every_ext (suc n) p r h = ap₂ ◌&&◌ (every_ext n p r (λ k l. h k (omega arith))) (h n (omega arith))

pub every_set_ext : (w : ℕ) (p r : ℕ → Bool) → ((L : ℕ) → 1 ≤ L → L < 2 ^ w → p L ≡ r L) → every_set w p ≡ every_set w r
unfolding every_set
every_set_ext w p r h = every_ext (2 ^ w - 1) _ _ (λ i l. h (suc i) (omega arith) (omega arith))

module _ (c : Certificate) (σ σ' ρ ρ' : ℕ → ℕ)
    (hσ : (L : ℕ) → 1 ≤ L → L < 2 ^ c.w → σ L ≡ σ' L) (hρ : (j : ℕ) → j < c.w → ρ j ≡ ρ' j) where
  -- what the tests read of winner j
  alone : (j : ℕ) → j < c.w → σ (single j) ≡ σ' (single j)
  alone j l = hσ (single j) (single_positive j) (single_lt c.w j l)

  pub test_agree : (question : Question) → test question c σ ρ ≡ test question c σ' ρ'
  unfolding test
  test_agree within_reserve = every_ext c.w _ _ (λ j l. simp (alone j l, hρ j l))
  test_agree within_sets = every_set_ext c.w _ _ (λ L o l. simp (hσ L o l))
  test_agree cover = refl
  test_agree totals =
      rw (
        over_ext c.w (λ L. c.Y L * σ L) (λ L. c.Y L * σ' L) (λ L o l. simp (hσ L o l)),
        sum_ext c.w (λ j. c.Z j * ρ j) (λ j. c.Z j * ρ' j) (λ j l. simp (hρ j l)),
      )
  test_agree stationary = every_ext c.w _ _ (λ j l. simp (alone j l, hρ j l))
  test_agree slack_sets = every_set_ext c.w _ _ (λ L o l. simp (hσ L o l))
  test_agree slack_reserve = every_ext c.w _ _ (λ j l. simp (alone j l, hρ j l))
  test_agree slack_zero = refl
