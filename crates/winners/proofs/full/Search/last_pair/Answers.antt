-- `Search::last_pair` meets its contract. The loop keeps what the row's places from its own on reach, in every market that the rows lay
-- out. Assumes nothing.
use mathlib.Core.Path.{◌≡◌}
use mathlib.Core.Bool.{Bool, true}
use mathlib.Core.List.{List}
use Prim.Native.Nat.{ℕ, ◌+◌, ◌-◌, ◌<◌}
use native.Mathlib.Omega.{arith}
use lib.Bits.{bit_and}
use lib.Dec.{eqb}
use lib.ListN.{length}
use Rattle.winners.specs.ClientSets.{First, Others}
use Rattle.winners.specs.Full.{Searchable, Searched}
use Rattle.winners.specs.Lanes.{guards}
use Rattle.winners.specs.Rows.{row_of, offer_at}
use Rattle.winners.specs.declared.row.Offer.{Offer}
use Rattle.winners.specs.declared.row.Row.{Row}
use Rattle.winners.proofs.Offers.{read_is, row_few}
use Rattle.winners.proofs.Searching.{Found, somebody, found_first, found_falls, found_left, found_taken, found_end}
use Rattle.winners.proofs.Searching.{top_few, weight_few, hours_few, searchable_next}
use Rattle.winners.proofs.full.Search.last_pair.Goals as goal
use Rattle.winners.proofs.full.Search.last_pair.Goals.{
  After-index-offers-d,
  then-fit+else-offer-most,
  else-fit,
}

pub first-client-requires : goal.first-client-requires
first-client-requires c = (somebody 2 _ c.requires.clients_left c.requires.some_left, c.requires.set_few)

pub others-rest-requires : goal.others-rest-requires
others-rest-requires c = (somebody 2 _ c.requires.clients_left c.requires.some_left, c.requires.set_few)

pub loop-d-init : goal.loop-d-init
loop-d-init c = (c.first-client.ensures, found_first)

pub returns-then-offers-d : goal.returns-then-offers-d
returns-then-offers-d c = found_end c.loop-d.invariant.1 (rw c.row-offers.ensures at c.if-offers-d.true)

-- an offer of the client's row
module _ (c : After-index-offers-d) where
  inside : c.loop-d.d < length (row_of c.args.self.rows.now c.first-client.result)
  inside = rw c.row-offers.ensures at c.if-offers-d.false

  here : c.index-offers-d.result ≡ offer_at (row_of c.args.self.rows.now c.first-client.result) c.loop-d.d
  here = read_is _ _ _ _ c.row-offers.ensures c.if-offers-d.false c.index-offers-d.is

pub overflow_add-after : goal.overflow_add-after
overflow_add-after c =
    let turn = (goal.at.overflow_add-after c).After-index-offers-d in
    omega (arith, hours_few c.requires c.loop-d.invariant.0 (inside turn) (here turn))

pub overflow_add-offer : goal.overflow_add-offer
overflow_add-offer c =
    let turn = (goal.at.overflow_add-offer c).After-index-offers-d in
    omega (arith, weight_few c.requires c.loop-d.invariant.0 (inside turn) (here turn), c.args.self.values_few c.others-rest.result)

pub returns-then-offer-most : goal.returns-then-offer-most
returns-then-offer-most c =
    let turn = (goal.at.returns-then-offer-most c).After-index-offers-d in
    found_falls c.loop-d.invariant.1 (inside turn) (here turn) c.others-rest.ensures c.if-offer-most.true

-- a turn at an offer that fits and may be taken
module _ {set used floor client top d : ℕ} {rows : List Row} {values : List ℕ} (w : Searchable 2 set used floor rows values)
    {hi : First set client} (f : Found set client used floor rows values hi top d) (inside : d < length (row_of rows client)) {o : Offer}
    (here : o ≡ offer_at (row_of rows client) d) {rest base : ℕ} (others : Others set rest)
    {g : Bool} (e : g ≡ eqb (bit_and (used + o.hours) guards) 0) (y : g ≡ true) (lowered : base ≡ top - o.weight) where
  -- the other client may be searched
  later : Searchable 1 rest (used + o.hours) base rows values
  later = let few = top_few w f in searchable_next w hi inside here others e y (omega (arith, lowered, few)) (omega arith)

  -- what it adds
  taken : {more : ℕ} → Searched rest (used + o.hours) base rows values more
      → Found set client used floor rows values hi (o.weight + more) (d + 1)
  taken s = found_taken f inside here others e y lowered s

pub last_bid-requires : goal.last_bid-requires
last_bid-requires c =
    let turn = (goal.at.last_bid-requires c).After-index-offers-d in
    later c.requires c.loop-d.invariant.1 (inside turn) (here turn) c.others-rest.ensures c.fit.ensures c.if-fit.true
    c.saturating_sub.ensures

pub overflow_add-top : goal.overflow_add-top
overflow_add-top c =
    let turn = (goal.at.overflow_add-top c).After-index-offers-d in
    let found = taken c.requires c.loop-d.invariant.1 (inside turn) (here turn) c.others-rest.ensures c.fit.ensures
    c.if-fit.true c.saturating_sub.ensures c.last_bid.ensures in
    omega (arith, top_few c.requires found)

pub loop-d-preserved : goal.loop-d-preserved
loop-d-preserved c =
    let turn = (goal.at.loop-d-preserved c).After-index-offers-d in
    let (hi, found) = c.loop-d.invariant in (
      hi,
      elim c.if-fit.branch [
        | then-fit+else-offer-most w ↦ rw w.top-is (
            taken c.requires found (inside turn) (here turn) c.others-rest.ensures c.fit.ensures w.if-fit.true
            w.saturating_sub.ensures w.last_bid.ensures
            )
        | else-fit w ↦
            rw w.top-is (found_left found (inside turn) (here turn) c.fit.ensures w.if-fit.false)
      ],
    )

-- the row has no more room
pub returns : goal.returns
returns c =
    let l = c.loop-d in
    found_end l.invariant.1 (omega (arith, row_few c.args.self.rows.now c.first-client.result, c.loop-d-test.false))
