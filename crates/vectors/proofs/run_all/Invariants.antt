-- Fewer lines are left. Assumes nothing.
use Rattle.std.proofs.Common.{length}
use Rattle.vectors.proofs.run_all.Given as goal

abbrev pub decreases-loop-lines : goal.decreases-loop-lines
decreases-loop-lines g l = length l.lines
