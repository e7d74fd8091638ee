-- `pass::value_of` meets its contract. Assumes nothing.
use mathlib.Core.Path.{◌≡◌, sym, ap, ◌∙◌}
use Prim.Native.Nat.{◌+◌}
use mathlib.Core.Bool.{true}
use native.Mathlib.Omega.{arith}
use lib.Bits.{bit_and}
use lib.Dec.{eqb}
use lib.ListN.{get_or}
use Rattle.winners.specs.Lanes.{guards}
use Rattle.winners.specs.declared.row.Offer.{Offer}
use Rattle.winners.proofs.PassSteps.{weight_few, value_together, value_floor, value_searched, value_searchable}
use Rattle.winners.proofs.pass.value_of.Goals as goal
use Rattle.winners.proofs.pass.value_of.Goals.{Else-not-fit}

-- THE HEAVIEST BIDS FIT TOGETHER
pub overflow_add-result : goal.overflow_add-result
overflow_add-result c =
    omega (
      arith,
      c.args.search.values_few c.others.result,
      weight_few _ _ _ _ _ c.requires c.first-first.ensures,
      ap (λ (o : Offer). o.weight) c.head.ensures,
    )

pub returns-then-fit : goal.returns-then-fit
returns-then-fit c =
    let weight = ap (λ (o : Offer). o.weight + get_or c.args.search.values.now c.others.result 0) c.head.ensures in
    λ w. weight ∙ value_together _ _ _ _ _ w c.first-first.ensures c.others.ensures (sym c.fit.ensures ∙ c.if-fit.true)

-- THEY DO NOT
pub returns-then-not-fit : goal.returns-then-not-fit
returns-then-not-fit c =
    let floor = c.floor_of-floor in
    λ w. value_floor _ _ _ _ _ w _ floor.ensures (sym c.fit-2.ensures ∙ c.if-not-fit.true)

-- the guards are clear
clear : (c : Else-not-fit) → eqb (bit_and c.args.taken.least guards) 0 ≡ true
clear c = sym c.fit-2.ensures ∙ c.if-not-fit.false

pub full-requires : goal.full-requires
full-requires c =
    let floor = c.floor_of-floor.ensures in
    value_searchable _ _ _ _ _ c.requires _ floor (clear (goal.at.full-requires c).Else-not-fit) _ c.count.ensures

pub returns : goal.returns
returns c =
    let floor = c.floor_of-floor in
    λ w. value_searched _ _ _ _ _ w _ floor.ensures (clear (goal.at.returns c).Else-not-fit) _ c.full.ensures
