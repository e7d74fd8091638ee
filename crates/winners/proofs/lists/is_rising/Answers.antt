-- `lists::is_rising` meets its contract. The loop keeps the answer so far with that of the clients left. Assumes nothing.
use borrow.Author.Tests.{le-leb}
use mathlib.Core.Path.{sym, ◌∙◌}
use mathlib.Core.Bool.{and_assoc, and-true}
use Rattle.std.proofs.lemmas.List.{drop_more, drop_all}
use Rattle.winners.specs.Surpluses.{rising_to}
use Rattle.winners.proofs.lists.is_rising.Goals as goal

pub loop-client-preserved : goal.loop-client-preserved
unfolding rising_to
loop-client-preserved c =
    let l = c.loop-client in
    rw c.from-next.ensures
    (and_assoc l.ok _ _ ∙ (rw (drop_more c.args.clients.now l.client-index 0 c.loop-client-test.true) at l.invariant))

pub returns : goal.returns
unfolding rising_to
returns c =
    let l = c.loop-client in
    let xs = c.args.clients.now in
    rw (le-leb _ 6 c.if-clients-gt-CLIENTS.false)
    (sym (and-true l.ok) ∙ (rw (drop_all l.client-index xs c.loop-client-test.false) at l.invariant))
