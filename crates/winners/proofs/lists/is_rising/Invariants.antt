-- What the loop of `lists::is_rising` keeps. Assumes nothing.
use mathlib.Core.Path.{◌≡◌}
use mathlib.Core.Bool.{◌&&◌}
use lib.ListN.{drop}
use Rattle.winners.specs.Surpluses.{rising_to}
use Rattle.winners.proofs.lists.is_rising.Given as goal

abbrev pub invariant-loop-client : goal.invariant-loop-client
invariant-loop-client l = (l.ok && rising_to l.n l.last (drop l.client-index l.clients)) ≡ rising_to l.n 0 l.clients
