-- `lanes::least` meets its contract. Assumes nothing.
use mathlib.Core.Path.{ap, ◌∙◌}
use Prim.Native.Nat.{ℕ, ◌-◌}
use native.Mathlib.Omega.{arith}
use Rattle.winners.proofs.LanesLeast.{least_is}
use Rattle.winners.proofs.lanes.least.Goals as goal

pub returns : goal.returns
returns c = record {
  smaller = least_is _ _ _ (c.saturating_sub.ensures ∙ ap (λ (x : ℕ). c.args.a - x) c.over.ensures);
  few = omega (arith, c.requires.0);
}
