-- The table of sheet lengths is the formula's, by one computation over the whole of it; and past it there is 0. Cited by the proof of
-- `sheet_length`. Assumes nothing.
use mathlib.Core.Path.{◌≡◌, refl}
use Prim.Native.Nat.{ℕ, ◌<◌}
use native.Mathlib.Omega.{arith}
use lib.ListN.{get_or-eq_default}
use Rattle.sets.specs.Tables.{tabulate}
use Rattle.sets.proofs.Tables.{tabulate_at}
use Rattle.numbers.specs.Lengths.{sheet_lengths, sheet_length, sheet_formula, LengthsByFormula}

-- the whole table at once
computed : sheet_lengths ≡ tabulate 7 sheet_formula
unfolding sheet_lengths sheet_formula tabulate
computed = refl

pub lengths_by_formula : LengthsByFormula
unfolding LengthsByFormula sheet_length
lengths_by_formula w l = rw computed (tabulate_at 7 sheet_formula w _ (omega arith))

pub length_past : (w : ℕ) → 6 < w → sheet_length w ≡ 0
unfolding sheet_length sheet_lengths
length_past w l = get_or-eq_default sheet_lengths 0 {n = w} l
