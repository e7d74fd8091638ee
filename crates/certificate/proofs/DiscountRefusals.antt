-- What the numbers of questions 10, 11 and 15 mean: 0 exactly where everything is in range and the questions hold, 7 exactly where
-- something is out of range. Cited by the laws of the numbers of questions 11 to 15, and by whoever rests on an answer. Assumes nothing.
use mathlib.Core.Path.{◌≡◌, refl}
use mathlib.Core.Bool.{true, cond, ◌&&◌}
use mathlib.Core.Logic.{◌≢◌, ◌↔◌}
use Prim.Native.Nat.{ℕ, ◌*◌, ◌≤◌}
use native.Mathlib.Omega.{arith}
use Rattle.pricing.specs.Certificate.{Certificate, WithinReserve}
use Rattle.pricing.specs.Questions.{Asks, test, within_reserve, within_sets, slack_sets, slack_reserve, slack_zero}
use Rattle.pricing.proofs.Questions.{every_iff, test_iff, leb_iff}
use Rattle.pricing.specs.Ranges.{in_range}
use Rattle.certificate.specs.Bounds.{tables_fit}
use Rattle.certificate.specs.InRange.{Reserves}
use Rattle.certificate.proofs.InRange.{in_range_iff, tables_fit_iff, reserve_in_range_iff}
use Rattle.certificate.specs.DiscountRefusals.{reserve_kept, reserve_number, slack_test, bounded_number}
use Rattle.certificate.specs.Readiness.{Ready}

-- QUESTION 10. The test is that of a certificate's discounts
pub reserve_kept_test : (c : Certificate) (σ ρ : ℕ → ℕ) → reserve_kept c.w c.q ρ c.X ≡ test within_reserve c σ ρ
unfolding reserve_kept test
reserve_kept_test c σ ρ = refl

pub reserve_kept_iff : (w q : ℕ) (ρ x : ℕ → ℕ) → (reserve_kept w q ρ x ≡ true) ↔ WithinReserve w q ρ x
unfolding reserve_kept WithinReserve
reserve_kept_iff w q ρ x = every_iff w _ _ (λ j. leb_iff (x j) (q * ρ j))

pub reserve_number_zero : (w q : ℕ) (ρ x : ℕ → ℕ) → (reserve_number w q ρ x ≡ 0) ↔ (Reserves w q ρ × WithinReserve w q ρ x)
unfolding reserve_number
reserve_number_zero w q ρ x = grind (arith, reserve_in_range_iff, reserve_kept_iff)

pub reserve_number_ready : (w q : ℕ) (ρ x : ℕ → ℕ) → Reserves w q ρ → (reserve_number w q ρ x ≡ 0) ↔ WithinReserve w q ρ x
reserve_number_ready w q ρ x ready = grind (arith, reserve_number_zero)

pub reserve_number_seven : (w q : ℕ) (ρ x : ℕ → ℕ) → (reserve_number w q ρ x ≡ 7) ↔ (¬ Reserves w q ρ)
unfolding reserve_number
reserve_number_seven w q ρ x = grind (arith, reserve_in_range_iff)

pub reserve_number_most : (w q : ℕ) (ρ x : ℕ → ℕ) → reserve_number w q ρ x ≤ 10
unfolding reserve_number
reserve_number_most w q ρ x = grind arith

-- QUESTIONS 11 AND 15
module _ (c : Certificate) (σ ρ : ℕ → ℕ) where
  pub ready_iff : ((in_range c && tables_fit c.w σ ρ) ≡ true) ↔ Ready c σ ρ
  ready_iff = grind (arith, in_range_iff, tables_fit_iff)

  pub slack_test_iff : (slack_test c σ ρ ≡ true) ↔ ((Asks slack_sets c σ ρ × Asks slack_reserve c σ ρ) × Asks slack_zero c σ ρ)
  unfolding slack_test
  slack_test_iff = grind (arith, test_iff)

  pub bounded_number_zero : (bounded_number c σ ρ ≡ 0) ↔ (Ready c σ ρ × (Asks within_sets c σ ρ
      × ((Asks slack_sets c σ ρ × Asks slack_reserve c σ ρ) × Asks slack_zero c σ ρ)))
  unfolding bounded_number
  bounded_number_zero = grind (arith, ready_iff, test_iff, slack_test_iff)

  pub bounded_number_seven : (bounded_number c σ ρ ≡ 7) ↔ (¬ Ready c σ ρ)
  unfolding bounded_number
  bounded_number_seven = grind (arith, ready_iff)

  -- any other number is that of questions 11 and 15, put to what is in range
  pub bounded_number_ready : bounded_number c σ ρ ≢ 7 → Ready c σ ρ
  unfolding bounded_number
  bounded_number_ready other = grind (arith, ready_iff)

  pub bounded_number_first : Ready c σ ρ → bounded_number c σ ρ ≡ cond (test within_sets c σ ρ) (cond (slack_test c σ ρ) 0 15) 11
  unfolding bounded_number
  bounded_number_first ready = grind (arith, ready_iff)
