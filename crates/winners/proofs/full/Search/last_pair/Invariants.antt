-- What the loop of `Search::last_pair` keeps. Assumes nothing.
use Rattle.winners.specs.ClientSets.{First}
use Rattle.winners.proofs.Searching.{Found}
use Rattle.winners.proofs.full.Search.last_pair.Given as goal

abbrev pub invariant-loop-d : goal.invariant-loop-d
invariant-loop-d l =
    (hi : First l.set l.client) × Found l.set l.client l.used l.floor l.self.rows.now l.self.values.now hi l.top l.d
