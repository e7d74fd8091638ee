-- What the loop of `values::sigma_by` keeps. Assumes nothing.
use Rattle.sets.proofs.Filled.{Filled}
use Rattle.winners.proofs.SetValues.{entry}
use Rattle.winners.proofs.values.sigma_by.Given as goal

abbrev pub invariant-loop-set : goal.invariant-loop-set
invariant-loop-set l = Filled 64 (entry l.values l.discards) l.set l.sigma
