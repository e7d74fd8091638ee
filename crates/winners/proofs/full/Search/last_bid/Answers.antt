-- `Search::last_bid` meets its contract. The loop keeps that no bid passed beats the floor, in every market that the rows lay out. Assumes
-- nothing.
use mathlib.Core.Path.{◌≡◌}
use Prim.Native.Nat.{◌<◌}
use native.Mathlib.Omega.{arith}
use lib.ListN.{length}
use Rattle.winners.specs.Rows.{row_of, offer_at}
use Rattle.winners.proofs.Offers.{read_is}
use Rattle.winners.proofs.Searching.{somebody, found_first, found_left, found_end, last_fits, hours_few}
use Rattle.winners.proofs.full.Search.last_bid.Goals as goal
use Rattle.winners.proofs.full.Search.last_bid.Goals.{After-offer-item}

pub first-client-requires : goal.first-client-requires
first-client-requires c = let w = c.requires in (somebody 1 _ w.clients_left w.some_left, w.set_few)

pub loop-offer-init : goal.loop-offer-init
loop-offer-init c = (c.first-client.ensures, found_first)

-- an offer of the client's row
module _ (c : After-offer-item) where
  inside : c.loop-offer.offer-index < length (row_of c.args.self.rows.now c.first-client.result)
  inside = rw c.row-offer-items.ensures at c.loop-offer-test.true

  here : c.offer-item.result ≡ offer_at (row_of c.args.self.rows.now c.first-client.result) c.loop-offer.offer-index
  here = read_is _ _ _ _ c.row-offer-items.ensures c.loop-offer-test.true c.offer-item.is

pub overflow_add-taken : goal.overflow_add-taken
overflow_add-taken c =
    let turn = (goal.at.overflow_add-taken c).After-offer-item in
    omega (arith, hours_few c.requires c.loop-offer.invariant.0 (inside turn) (here turn))

pub returns-then-fit : goal.returns-then-fit
returns-then-fit c =
    let turn = (goal.at.returns-then-fit c).After-offer-item in
    rw c.max.ensures
    (last_fits c.loop-offer.invariant.1 (inside turn) (here turn) c.requires.clients_left c.fit.ensures c.if-fit.true)

pub loop-offer-preserved : goal.loop-offer-preserved
loop-offer-preserved c =
    let turn = (goal.at.loop-offer-preserved c).After-offer-item in
    let (hi, found) = c.loop-offer.invariant in
    (hi, found_left found (inside turn) (here turn) c.fit.ensures c.if-fit.false)

pub returns : goal.returns
returns c = found_end c.loop-offer.invariant.1 (rw c.row-offer-items.ensures at c.loop-offer-test.false)
