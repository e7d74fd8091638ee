-- What the numbers of questions 7 and 11 to 15 mean: 0 exactly where everything is in range and the questions hold, 7 exactly where
-- something is out of range. So `reserve` and `balances` both pass a certificate in range exactly where it is certified. Cited by whoever
-- rests on an answer. Assumes nothing.
use mathlib.Core.Path.{◌≡◌}
use mathlib.Core.Bool.{true, cond}
use mathlib.Core.Logic.{◌↔◌}
use Prim.Native.Nat.{ℕ, ◌≤◌}
use native.Mathlib.Omega.{arith}
use Rattle.pricing.specs.Certificate.{Certificate, WithinSets, Balances, Certified}
use Rattle.pricing.specs.Questions.{Asks, test, within_sets, cover, totals, stationary}
use Rattle.pricing.proofs.Questions.{test_iff}
use Rattle.pricing.specs.Ranges.{in_range}
use Rattle.certificate.specs.InRange.{Ranges}
use Rattle.certificate.proofs.InRange.{in_range_iff}
use Rattle.certificate.specs.DiscountRefusals.{reserve_number, slack_test}
use Rattle.certificate.specs.Readiness.{Ready}
use Rattle.certificate.proofs.DiscountRefusals.{reserve_number_zero, ready_iff, slack_test_iff}
use Rattle.certificate.specs.Refusals.{first_failed, balances_number}

-- QUESTION 7
pub range_number_zero : (c : Certificate) → (◌≡◌ {A = ℕ} (cond (in_range c) 0 7) 0) ↔ Ranges c
range_number_zero c = grind (arith, in_range_iff)

-- QUESTIONS 11 TO 15
module _ (c : Certificate) (σ ρ : ℕ → ℕ) where
  -- all five tests, in their order
  first_failed_tests : (first_failed c σ ρ ≡ 0) ↔ ((test within_sets c σ ρ ≡ true) × (test cover c σ ρ ≡ true)
      × (test totals c σ ρ ≡ true) × (test stationary c σ ρ ≡ true) × (slack_test c σ ρ ≡ true))
  unfolding first_failed
  first_failed_tests = grind arith

  pub first_failed_zero : (first_failed c σ ρ ≡ 0) ↔ (WithinSets c.w c.q σ c.X × Balances c σ ρ)
  unfolding Asks
  first_failed_zero = (
    λ e. let tests = first_failed_tests.0 e in grind (arith, test_iff, slack_test_iff),
    λ h. first_failed_tests.1 (grind (arith, test_iff, slack_test_iff)),
  )

  pub balances_number_zero : (balances_number c σ ρ ≡ 0) ↔ (Ready c σ ρ × (WithinSets c.w c.q σ c.X × Balances c σ ρ))
  unfolding balances_number
  balances_number_zero = grind (arith, ready_iff, first_failed_zero)

  pub balances_number_ready : Ready c σ ρ → (balances_number c σ ρ ≡ 0) ↔ (WithinSets c.w c.q σ c.X × Balances c σ ρ)
  balances_number_ready ready = grind (arith, balances_number_zero)

  pub balances_number_first : Ready c σ ρ → balances_number c σ ρ ≡ first_failed c σ ρ
  unfolding balances_number
  balances_number_first ready = grind (arith, ready_iff)

  pub balances_number_seven : (balances_number c σ ρ ≡ 7) ↔ (¬ Ready c σ ρ)
  unfolding balances_number first_failed
  balances_number_seven = grind (arith, ready_iff)

  pub balances_number_most : balances_number c σ ρ ≤ 15
  unfolding balances_number first_failed
  balances_number_most = grind arith

  -- BOTH OPERATIONS PASS A CERTIFICATE EXACTLY WHERE IT IS IN RANGE AND CERTIFIED
  pub certified_iff : ((reserve_number c.w c.q ρ c.X ≡ 0) × (balances_number c σ ρ ≡ 0)) ↔ (Ready c σ ρ × Certified c σ ρ)
  certified_iff = grind (arith, reserve_number_zero, balances_number_zero)
