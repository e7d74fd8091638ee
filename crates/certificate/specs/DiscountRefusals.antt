-- The number of the first question that refuses a certificate's discounts: of question 10 alone, and of questions 11 and 15. It is 7 before
-- any other where one of the numbers read is out of range, the bounds σ and ρ included (Bounds.antt). Cited by the contracts. Assumes
-- nothing: these are definitions.
use Rattle.std.specs.Prelude.{Bool, cond, ◌&&◌, ℕ, ◌*◌, leb}
use Rattle.pricing.specs.Certificate.{Certificate}
use Rattle.pricing.specs.Ranges.{in_range}
use Rattle.pricing.specs.Questions.{every, test, within_sets, slack_sets, slack_reserve, slack_zero}
use Rattle.certificate.specs.Bounds.{tables_fit, reserve_in_range}

-- question 10, the test
unfoldable pub reserve_kept : (w q : ℕ) → (ρ x : ℕ → ℕ) → Bool
reserve_kept w q ρ x = every w (λ j. leb (x j) (q * ρ j))

-- question 10 alone: 0, 10, or 7 where w, q or a ρ is out of range
unfoldable pub reserve_number : (w q : ℕ) → (ρ x : ℕ → ℕ) → ℕ
reserve_number w q ρ x = cond (reserve_in_range w q ρ) (cond (reserve_kept w q ρ x) 0 10) 7

-- question 15, the test of its three parts
unfoldable pub slack_test : Certificate → (σ ρ : ℕ → ℕ) → Bool
slack_test c σ ρ = test slack_sets c σ ρ && test slack_reserve c σ ρ && test slack_zero c σ ρ

-- question 11 alone, which only a private contract cites: 0, 11, or 7 where a number of the certificate, a σ or a ρ is out of range
abbrev pub within_number : Certificate → (σ ρ : ℕ → ℕ) → ℕ
within_number c σ ρ = cond (in_range c && tables_fit c.w σ ρ) (cond (test within_sets c σ ρ) 0 11) 7

-- questions 11 and 15: 0, 11, 15, or 7 where a number of the certificate, a σ or a ρ is out of range
unfoldable pub bounded_number : Certificate → (σ ρ : ℕ → ℕ) → ℕ
bounded_number c σ ρ =
    cond (in_range c && tables_fit c.w σ ρ) (cond (test within_sets c σ ρ) (cond (slack_test c σ ρ) 0 15) 11) 7
