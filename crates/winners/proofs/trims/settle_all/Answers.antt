-- `trims::settle_all` meets its contract. The loop keeps the rows before its own settled, and the others as they were. Assumes nothing.
use Prim.Native.Nat.{◌<◌}
use native.Mathlib.Omega.{arith}
use lib.ListN.{length, length-set}
use Rattle.std.proofs.lemmas.List.{get_or_default}
use Rattle.winners.specs.Rows.{no_row}
use Rattle.winners.proofs.RowsSettled.{same_next, settled_next}
use Rattle.winners.proofs.trims.settle_all.Goals as goal

pub loop-c-preserved : goal.loop-c-preserved
loop-c-preserved c =
    let l = c.loop-c in
    let i = l.invariant in
    let more = c.loop-c-test.true in
    let rows : l.c < length l.rows = omega (arith, i.rows_long) in
    let leasts : l.c < length l.leasts = omega (arith, i.leasts_long) in
    let row = get_or_default l.rows l.c c.index-rows-c.result no_row rows in
    let s = rw row at c.settle.ensures in
    record {
      rows_long = simp length-set i.rows_long;
      leasts_long = simp length-set i.leasts_long;
      ahead = same_next l.c _ _ l.rows _ l.leasts rows leasts i.ahead s;
      done = λ m wt k n few held.
          settled_next l.c _ _ l.rows _ l.leasts rows leasts i.ahead s m wt k n few l.auto.c (omega arith) held (i.done m wt k n few held);
    }
