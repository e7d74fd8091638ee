-- `columns::column` meets its contract. Assumes nothing.
use native.Mathlib.Omega.{arith}
use Rattle.sets.proofs.Filled.{filled_next}
use Rattle.judge.proofs.ReadColumns.{at_place, column_none, column_full}
use Rattle.judge.proofs.columns.column.Goals as goal
use mathlib.Core.Path.{sym, ◌∙◌}

pub loop-i-init : goal.loop-i-init
loop-i-init g c f each = column_none _ _ f

pub loop-i-preserved : goal.loop-i-preserved
loop-i-preserved g c f each =
    let l = c.loop-i in
    filled_next _ _ _ _ _ (omega (arith, c.requires.room.1))
    (each l.i c.number.result l.auto.i c.loop-i-test.true c.number.ensures ∙ sym (at_place c.args.first f l.i l.auto.i))
    (l.invariant f each)

pub returns : goal.returns
returns g c f each =
    let l = c.loop-i in
    column_full _ _ _ f _ _ l.auto.i c.loop-i-test.false (l.auto.i-end c.requires.room.0) (l.invariant f each)
