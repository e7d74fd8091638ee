-- A number with a sign, by its 64 bits, is its parts above and below zero. Cited by the proof of question 14. Assumes nothing.
use mathlib.Core.Path.{◌≡◌}
use Prim.Native.Nat.{ℕ, ◌+◌}
use native.Mathlib.Omega.{arith}
use lib.IntN.{pos, nat_abs, ◌+ℤ◌}
use Rattle.std.proofs.lemmas.Int.{ints}
use Rattle.pricing.specs.Ranges.{signed}
use Rattle.certificate.specs.Figures.{above, below}

pub signed_magnitude : (g : ℕ) → nat_abs (signed g) ≡ above g + below g
unfolding signed above below
signed_magnitude g = grind (arith, ints)

pub signed_parts : (g : ℕ) → signed g +ℤ pos (below g) ≡ pos (above g)
unfolding signed above below
signed_parts g = grind (arith, ints)
