-- What the loop of `lists::double` keeps. Assumes nothing.
use mathlib.Core.Path.{◌≡◌}
use lib.ListN.{length}
use Rattle.winners.specs.ClientLists.{Doubled}
use Rattle.winners.proofs.lists.double.Given as goal

abbrev pub invariant-loop-set : goal.invariant-loop-set
invariant-loop-set l = (length l.discards ≡ 64) × Doubled l.initial.discards l.end l.bit l.set l.discards
