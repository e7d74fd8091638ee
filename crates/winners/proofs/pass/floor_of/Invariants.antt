-- What the loop of `pass::floor_of` keeps. Assumes nothing.
use Prim.Native.Nat.{◌<◌}
use Rattle.winners.specs.ClientSets.{Within}
use Rattle.winners.specs.Passes.{FloorPast}
use Rattle.winners.proofs.pass.floor_of.Given as goal

abbrev pub invariant-loop-left : goal.invariant-loop-left
invariant-loop-left l = record {
  few : l.left < 64;
  within : Within l.left l.set;
  past : FloorPast l.left l.set l.values l.floor;
}

abbrev pub decreases-loop-left : goal.decreases-loop-left
decreases-loop-left l = l.left
