-- `lanes::lanes_to` meets its contract. Assumes nothing.
use mathlib.Core.Path.{◌≡◌, sym, ap, ◌∙◌}
use Prim.Native.Nat.{ℕ, min}
use native.Mathlib.Omega.{arith}
use Rattle.winners.specs.Lanes.{ones}
use Rattle.winners.proofs.LanesPacked.{ones_shifted}
use Rattle.winners.proofs.lanes.lanes_to.Goals as goal

pub returns-then-k-lt4 : goal.returns-then-k-lt4
returns-then-k-lt4 c =
    let same : min c.args.k 4 ≡ c.args.k = omega (arith, c.if-k-lt4.true) in
    (ones_shifted c.args.k (omega (arith, c.if-k-lt4.true))).1 ∙ ap (λ (k : ℕ). ones k) (sym same)

pub returns-else-k-lt4 : goal.returns-else-k-lt4
unfolding ones
returns-else-k-lt4 c =
    let all : min c.args.k 4 ≡ 4 = omega (arith, c.if-k-lt4.false) in
    rw all
