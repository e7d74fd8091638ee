-- `pass::floor_of` meets its contract. The loop keeps the floor by the clients left out so far. Assumes nothing.
use mathlib.Core.Path.{◌≡◌, refl, ap, ◌∙◌}
use mathlib.Core.List.{[]}
use Prim.Native.Nat.{ℕ, ◌+◌, ◌-◌, ◌^◌}
use native.Mathlib.Omega.{arith}
use lib.Count.{count_trailing_zeros}
use Rattle.winners.specs.ClientSets.{First}
use Rattle.winners.proofs.ClientSets.{others_less, first_is}
use Rattle.winners.proofs.PassSteps.{floor_next, bit_is, bit_few, rest_within}
use Rattle.winners.proofs.pass.floor_of.Goals as goal
use Rattle.winners.proofs.pass.floor_of.Goals.{After-others-rest, In-loop-left}

-- the clients still to be left out, and the first of them
module _ (c : In-loop-left) where
  abbrev left : ℕ
  left = c.loop-left.left

  first : First left (count_trailing_zeros 64 left + 1)
  first = first_is left _ (omega (arith, c.loop-left-test.true)) c.loop-left.invariant.few refl

-- the number that is taken off is the first client's bit
module _ (c : After-others-rest) where
  rest : c.others-rest.result ≡ left c.before - 2 ^ (count_trailing_zeros 64 (left c.before) + 1 - 1)
  rest = c.others-rest.ensures.is _ (first c.before)

  bit : left c.before - c.others-rest.result ≡ 2 ^ (count_trailing_zeros 64 (left c.before) + 1 - 1)
  bit =
      ap (λ (x : ℕ). left c.before - x) rest ∙ bit_is _ _ _ [] 0 0 (first c.before) c.loop-left.invariant.within

pub overflow_sub-set : goal.overflow_sub-set
overflow_sub-set c =
    let one = first (goal.at.overflow_sub-set c).In-loop-left in
    omega (arith, bit c, bit_few _ _ _ [] 0 0 one c.loop-left.invariant.within)

pub loop-left-preserved : goal.loop-left-preserved
loop-left-preserved c =
    let l = c.loop-left in
    let one = first (goal.at.loop-left-preserved c).In-loop-left in
    let smaller = others_less _ _ one in
    let more = rw (bit (goal.at.loop-left-preserved c).After-others-rest) at c.max-floor.ensures in
    rw (rest (goal.at.loop-left-preserved c).After-others-rest) (record {
      few = omega (arith, l.invariant.few);
      within = rest_within _ _ _ [] 0 0 one l.invariant.within;
      past = floor_next _ _ _ _ _ _ one l.invariant.within more l.invariant.past;
    })

pub returns : goal.returns
returns c =
    let l = c.loop-left in
    let z : l.left ≡ 0 = omega (arith, c.loop-left-test.false) in
    rw z at l.invariant.past
