-- The tables that a certificate is judged by, beside its own numbers (pricing/specs/Ranges.antt): σ by set and ρ by winner must be within
-- what any book can give. Where they are not, the checks answer 7, as for a certificate whose own numbers are out of range. Cited by the
-- contracts and by the numbers that they answer. Assumes nothing: these are definitions.
use Rattle.std.specs.Prelude.{Bool, ◌&&◌, ℕ, leb}
use Rattle.pricing.specs.Ranges.{most_winners, winners_at_most, sets_at_most, scale_in_range}

-- one winner's amount and so its ρ: 1,000,000 in document 01's question 4
abbrev pub most_rho : ℕ
most_rho = 1000000

-- six amounts, which no book's value exceeds, and so no σ
abbrev pub most_sigma : ℕ
most_sigma = 6000000

-- whether the bounds σ of sets and ρ of winners are within those of any book
unfoldable pub tables_fit : (w : ℕ) → (σ ρ : ℕ → ℕ) → Bool
tables_fit w σ ρ = leb w most_winners && sets_at_most w most_sigma σ && winners_at_most w most_rho ρ

-- whether what question 10 reads is in range
unfoldable pub reserve_in_range : (w q : ℕ) → (ρ : ℕ → ℕ) → Bool
reserve_in_range w q ρ = leb w most_winners && scale_in_range q && winners_at_most w most_rho ρ
