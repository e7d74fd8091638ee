-- `values::sigma_by` meets its contract. The loop keeps the entries of the sets passed. Assumes nothing.
use mathlib.Core.Path.{◌≡◌, refl, ◌∙◌}
use Prim.Native.Nat.{◌<◌}
use native.Mathlib.Omega.{arith}
use lib.ListN.{get_or}
use Rattle.sets.proofs.Filled.{filled_zero}
use Rattle.numbers.proofs.Shifts.{few_sets}
use Rattle.winners.proofs.SetValues.{discards_few, table_done}
use Rattle.winners.proofs.values.sigma_by.Goals as goal
use Rattle.winners.proofs.values.sigma_by.Goals.{In-loop-set}

pub loop-set-init : goal.loop-set-init
loop-set-init c = filled_zero 64 _ refl

-- those whom the set picks are a set
picked : (c : In-loop-set) → get_or c.discards-discards.result c.loop-set.set 0 < 64
picked c =
    discards_few c.args.clients.now _ c.discards-discards.ensures c.loop-set.set
    (omega (arith, c.loop-set-test.true, few_sets c.requires.few c.sets_end-end.ensures.0))

pub overflow_sub-kept : goal.overflow_sub-kept
overflow_sub-kept c = omega (arith, c.from-kept.ensures, picked (goal.at.overflow_sub-kept c).In-loop-set)

pub returns : goal.returns
returns c b sound values =
    let l = c.loop-set in
    let done : l.set ≡ c.sets_end-end.result = omega (arith, c.sets_end-end.ensures) in
    let end = few_sets c.requires.few c.sets_end-end.ensures.0 in
    table_done b c.args.clients.now _ _ _ l.set sound c.discards-discards.ensures (done ∙ end) values l.invariant
