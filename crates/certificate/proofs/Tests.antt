-- The tests of questions 11, 12, 13 and 15 as what a loop over the winners or the sets computes. Cited by the attributes of the functions
-- that put these questions. Assumes nothing.
use mathlib.Core.Path.{◌≡◌, refl}
use Prim.Native.Nat.{ℕ, ◌+◌, ◌*◌}
use lib.Dec.{leb, eqb}
use Rattle.sets.specs.Sums.{sum}
use Rattle.sets.specs.Sets.{sum_in, over_sets, holding}
use Rattle.pricing.specs.Certificate.{Certificate}
use Rattle.pricing.specs.Questions.{every, every_set, slack, test}
use Rattle.pricing.specs.Questions.{within_sets, cover, totals, slack_sets, slack_reserve, slack_zero}
use Rattle.certificate.proofs.Steps.{steps}

module _ (c : Certificate) (σ ρ : ℕ → ℕ) where
  pub test_within_sets : test within_sets c σ ρ ≡ every_set c.w (λ L. leb (sum_in c.w L c.X) (c.q * σ L))
  unfolding test
  test_within_sets = refl

  pub test_cover : test cover c σ ρ ≡ every c.w (λ j. leb c.s (c.Z j + holding c.w j c.Y))
  unfolding test
  test_cover = refl

  pub test_totals : test totals c σ ρ
      ≡ eqb (c.q * (over_sets c.w (λ L. c.Y L * σ L) + sum c.w (λ j. c.Z j * ρ j))) (c.s * sum c.w c.X)
  unfolding test
  test_totals = refl

  pub test_slack_sets : test slack_sets c σ ρ ≡ every_set c.w (λ L. slack (c.U L) (sum_in c.w L c.X) (c.q * σ L))
  unfolding test
  test_slack_sets = refl

  pub test_slack_reserve : test slack_reserve c σ ρ ≡ every c.w (λ j. slack (c.R j) (c.X j) (c.q * ρ j))
  unfolding test
  test_slack_reserve = refl

  pub test_slack_zero : test slack_zero c σ ρ ≡ every c.w (λ j. slack (c.T j) (c.X j) 0)
  unfolding test
  test_slack_zero = refl

-- with the steps of the loops
pub ruleset question_steps = (steps, test_within_sets, test_cover, test_totals, test_slack_sets, test_slack_reserve, test_slack_zero)
