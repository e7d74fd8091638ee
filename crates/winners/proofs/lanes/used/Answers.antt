-- `lanes::used` meets its contract. Assumes nothing.
use mathlib.Core.Path.{ap, ◌∙◌}
use mathlib.Core.List.{List}
use Prim.Native.Nat.{ℕ, ◌-◌}
use borrow.Author.Rules.{rules}
use lib.Seq.{take_all}
use Rattle.winners.specs.Lanes.{Bytes}
use Rattle.winners.proofs.LanesPacked.{used_four}
use Rattle.winners.proofs.lanes.used.Goals as goal

pub returns : goal.returns
returns c =
    let left : List ℕ = c.args.left in
    let bytes : Bytes left = rw (take_all 4 left (search rules)) at c.packed.ensures.2 in (
      ap (λ (x : ℕ). 71777214294589695 - x) c.packed.ensures.0 ∙ used_four left (search rules) bytes,
      search rules,
      bytes,
    )
