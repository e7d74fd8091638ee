-- Question 14 as an equation of numbers without a sign at each winner, as the code puts it. Cited by the proof of its check.
-- Assumes nothing.
use mathlib.Core.Path.{◌≡◌}
use mathlib.Core.Bool.{true}
use mathlib.Core.Logic.{◌↔◌}
use Prim.Native.Nat.{ℕ, ◌+◌, ◌*◌, ◌%◌, ◌^◌, ◌≤◌, ◌<◌}
use native.Mathlib.Omega.{arith}
use lib.Pow.{pow_pos, pow-lt}
use Rattle.numbers.proofs.Shifts.{power_shift, power_most}
use Rattle.certificate.proofs.Steps.{steps}
use lib.Dec.{eqb}
use lib.IntN.{pos, ◌+ℤ◌, ◌-ℤ◌}
use Rattle.sets.specs.Sets.{single, holding}
use Rattle.pricing.specs.Questions.{Asks, every, test, stationary}
use Rattle.pricing.proofs.Questions.{every_iff, test_iff, eqb_iff}
use Rattle.pricing.proofs.Balance.{balance_iff}
use Rattle.certificate.specs.declared.ranges.Figures.{Figures}
use Rattle.pricing.specs.Ranges.{signed}
use Rattle.certificate.specs.Figures.{at, above, below, certificate}
use Rattle.certificate.proofs.Signed.{signed_magnitude, signed_parts}
use Rattle.std.proofs.lemmas.Bool.Decides.{same_from_decides}

-- the two sides of the equation at winner j, with what is taken away put on the other side
unfoldable pub claimed : Figures → (σ : ℕ → ℕ) → (winner : ℕ) → ℕ
claimed f σ j = f.q * σ (single j) + at f.t j + below f.g

unfoldable pub carried : Figures → (winner : ℕ) → ℕ
carried f j = above f.g + holding f.w j (at f.u) + at f.r j + at f.x j

-- question 14 is that equation at each winner
pub stationary_balance : (f : Figures) (σ ρ : ℕ → ℕ) →
    every f.w (λ j. eqb (claimed f σ j) (carried f j)) ≡ test stationary (certificate f) σ ρ
unfolding claimed carried Asks
stationary_balance f σ ρ =
    same_from_decides (every f.w (λ j. eqb (claimed f σ j) (carried f j))) (test stationary (certificate f) σ ρ)
    (every_iff f.w _ _ each) (test_iff stationary (certificate f) σ ρ)
  where
    each : (j : ℕ) → (eqb (claimed f σ j) (carried f j) ≡ true) ↔ (pos (f.q * σ (single j)) -ℤ pos (at f.x j)
        ≡ signed f.g +ℤ pos (holding f.w j (at f.u)) +ℤ pos (at f.r j) -ℤ pos (at f.t j))
    each j =
        let t = eqb_iff (claimed f σ j) (carried f j) in
        let b = balance_iff (signed f.g) (above f.g) (below f.g) (signed_parts f.g)
        (f.q * σ (single j)) (at f.x j) (holding f.w j (at f.u)) (at f.r j) (at f.t j) in
        (λ e. b.1 (t.0 e), λ e. t.1 (b.0 e))

-- the number of the winner's set is one of the sets
pub alone_among : (j w : ℕ) → j < w → w ≤ 6 → (1 * 2 ^ j % 2 ^ 64 ≡ 2 ^ j) × (1 ≤ 2 ^ j) × (2 ^ j < 2 ^ w) × (2 ^ w ≤ 64)
alone_among j w l few = (power_shift j (omega arith), pow_pos j, pow-lt l, power_most w few)

-- what the proof of the check cites
pub ruleset balance_steps = (steps, alone_among, signed_magnitude, stationary_balance)
