-- What the loop of `Search::last_bid` keeps. Assumes nothing.
use Rattle.winners.specs.ClientSets.{First}
use Rattle.winners.proofs.Searching.{Found}
use Rattle.winners.proofs.full.Search.last_bid.Given as goal

abbrev pub invariant-loop-offer : goal.invariant-loop-offer
invariant-loop-offer l =
    (hi : First l.set l.client) × Found l.set l.client l.used l.floor l.self.rows.now l.self.values.now hi l.floor l.offer-index
