-- What the loop of `lists::discards` keeps. Assumes nothing.
use mathlib.Core.Path.{◌≡◌}
use lib.ListN.{length}
use Rattle.winners.proofs.Doubling.{Bytes}
use Rattle.winners.proofs.lists.discards.Given as goal

abbrev pub invariant-loop-j : goal.invariant-loop-j
invariant-loop-j l = (length l.discards ≡ 64) × Bytes l.clients l.j l.discards
