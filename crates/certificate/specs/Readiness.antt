-- Only private contracts and laws cite this: what questions 11 to 15 need in range, as plain facts. Assumes nothing: these are
-- definitions.
use Rattle.std.specs.Prelude.{ℕ, ◌≤◌, ◌<◌}
use Rattle.pricing.specs.Certificate.{Certificate}
use Rattle.pricing.specs.Ranges.{most_winners, most_scale, most_discount, most_multiplier}
use Rattle.certificate.specs.Bounds.{most_rho, most_sigma}
use Rattle.certificate.specs.InRange.{WinnersUnder, SetsUnder, Ranges, Tables}

-- all that questions 11 to 15 read is in range
pub record Ready (c : Certificate) (σ ρ : ℕ → ℕ) : Type 0 where
  pub ranges : Ranges c
  pub tables : Tables c.w σ ρ

-- WHAT THE PRIVATE FUNCTIONS ASK
-- a certificate and the bounds of sets
pub record SetsReady (c : Certificate) (σ : ℕ → ℕ) : Type 0 where
  pub ranges : Ranges c
  pub σ_most : SetsUnder c.w most_sigma σ

-- a certificate and the bounds of winners
pub record WinnersReady (c : Certificate) (ρ : ℕ → ℕ) : Type 0 where
  pub ranges : Ranges c
  pub ρ_most : WinnersUnder c.w most_rho ρ

-- numbers of at most six winners that can be added up
pub record WinnersAdd (w : ℕ) (f : ℕ → ℕ) : Type 0 where
  pub few : w ≤ most_winners
  pub most : WinnersUnder w most_discount f

-- numbers of the sets that hold k, which can be added up
pub record HoldingAdd (w k : ℕ) (f : ℕ → ℕ) : Type 0 where
  pub few : w ≤ most_winners
  pub inside : k < w
  pub most : SetsUnder w most_multiplier f

-- multipliers of sets whose products with σ can be added up
pub record SetsWeigh (w : ℕ) (Y σ : ℕ → ℕ) : Type 0 where
  pub few : w ≤ most_winners
  pub y_most : SetsUnder w most_scale Y
  pub σ_most : SetsUnder w most_sigma σ
