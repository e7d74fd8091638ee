-- `client_sets::others` meets its contract. Assumes nothing.
use Prim.Native.Nat.{◌-◌}
use native.Mathlib.Omega.{arith}
use lib.Bits.{and_le_r}
use Rattle.winners.proofs.ClientSets.{others_are}
use Rattle.winners.proofs.client_sets.others.Goals as goal

pub returns : goal.returns
returns c = record { fewer = omega (arith, c.requires.0, and_le_r c.args.set (c.args.set - 1)); is = others_are c.args.set }
