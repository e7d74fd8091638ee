-- `numbers::sets_end` meets its contract: up to six, the shift loses no bit. Assumes nothing.
use Prim.Native.Nat.{min}
use native.Mathlib.Nat.{min-le_right}
use Rattle.numbers.proofs.Shifts.{shifted}
use Rattle.numbers.proofs.sets_end.Goals as goal

pub returns : goal.returns
returns c =
    let w = c.args.w in
    rw c.min.ensures (shifted (min w 6) (min-le_right w 6))
