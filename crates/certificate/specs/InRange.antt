-- Only private contracts and laws cite this: question 7 and the bounds of tables as plain facts, which the tests of them decide. Whoever
-- rests on an answer has them by proofs/InRange. Assumes nothing: these are definitions.
use Rattle.std.specs.Prelude.{ℕ, ◌^◌, ◌≤◌, ◌<◌, nat_abs}
use Rattle.pricing.specs.Certificate.{Certificate}
use Rattle.pricing.specs.Ranges.{most_winners, most_scale, most_discount, most_multiplier}
use Rattle.certificate.specs.Bounds.{most_rho, most_sigma}

-- no winner's number is above b
abbrev pub WinnersUnder : (w b : ℕ) → (f : ℕ → ℕ) → Type 0
WinnersUnder w b f = (j : ℕ) → j < w → f j ≤ b

-- no non-empty set's number is above b
abbrev pub SetsUnder : (w b : ℕ) → (f : ℕ → ℕ) → Type 0
SetsUnder w b f = (L : ℕ) → 1 ≤ L → L < 2 ^ w → f L ≤ b

-- question 7 of a certificate
pub record Ranges (c : Certificate) : Type 0 where
  pub few : c.w ≤ most_winners
  pub q_least : 1 ≤ c.q
  pub q_most : c.q ≤ most_scale
  pub s_least : 1 ≤ c.s
  pub s_most : c.s ≤ most_scale
  pub x_most : WinnersUnder c.w most_discount c.X
  pub z_most : WinnersUnder c.w most_scale c.Z
  pub r_most : WinnersUnder c.w most_multiplier c.R
  pub t_most : WinnersUnder c.w most_multiplier c.T
  pub y_most : SetsUnder c.w most_scale c.Y
  pub u_most : SetsUnder c.w most_multiplier c.U
  pub g_most : nat_abs c.G ≤ most_multiplier

-- the bounds σ of sets and ρ of winners are within those of any book
pub record Tables (w : ℕ) (σ ρ : ℕ → ℕ) : Type 0 where
  pub few : w ≤ most_winners
  pub σ_most : SetsUnder w most_sigma σ
  pub ρ_most : WinnersUnder w most_rho ρ

-- what question 10 reads is in range
pub record Reserves (w q : ℕ) (ρ : ℕ → ℕ) : Type 0 where
  pub few : w ≤ most_winners
  pub q_least : 1 ≤ q
  pub q_most : q ≤ most_scale
  pub ρ_most : WinnersUnder w most_rho ρ
