-- How `Search::full` ends, and what its loop keeps. Assumes nothing.
use Rattle.winners.specs.ClientSets.{First}
use Rattle.winners.proofs.Searching.{Found}
use Rattle.winners.proofs.full.Search.+full.Given as goal

-- the number of clients left
abbrev pub decreases-full : goal.decreases-full
decreases-full l = l.ahead

abbrev pub invariant-loop-offer : goal.invariant-loop-offer
invariant-loop-offer l =
    (hi : First l.set l.client) × Found l.set l.client l.used l.floor l.self.rows.now l.self.values.now hi l.top l.offer-index
