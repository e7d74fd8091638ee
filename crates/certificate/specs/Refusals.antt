-- The number of the first of questions 11 to 15 that refuses a certificate. It is 7 before any other where one of the certificate's numbers
-- is out of range, and also where some σ is above 6,000,000 or some ρ above 1,000,000 (Bounds.antt), though no question of FORMAT asks
-- for that: a book's bounds never are. Cited by the contract. Assumes nothing: these are definitions.
use Rattle.std.specs.Prelude.{cond, ◌&&◌, ℕ}
use Rattle.pricing.specs.Certificate.{Certificate}
use Rattle.pricing.specs.Ranges.{in_range}
use Rattle.pricing.specs.Questions.{test, within_sets, cover, totals, stationary}
use Rattle.certificate.specs.Bounds.{tables_fit}
use Rattle.certificate.specs.DiscountRefusals.{slack_test}

-- the first of questions 11 to 15 whose test fails, or 0
unfoldable pub first_failed : Certificate → (σ ρ : ℕ → ℕ) → ℕ
first_failed c σ ρ =
    cond (test within_sets c σ ρ)
    (cond (test cover c σ ρ)
    (cond (test totals c σ ρ)
    (cond (test stationary c σ ρ)
    (cond (slack_test c σ ρ)
    0
    15)
    14)
    13)
    12)
    11

-- questions 11 to 15: 0, 11 to 15, or 7 where a number of the certificate, a σ or a ρ is out of range
unfoldable pub balances_number : Certificate → (σ ρ : ℕ → ℕ) → ℕ
balances_number c σ ρ = cond (in_range c && tables_fit c.w σ ρ) (first_failed c σ ρ) 7
