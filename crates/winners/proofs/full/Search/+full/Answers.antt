-- `Search::full` meets its contract. The measure is the number of clients left; the loop keeps what the row's places from its own on
-- reach, in every market that the rows lay out. Assumes nothing.
use mathlib.Core.Path.{◌≡◌, sym, subst}
use mathlib.Core.Bool.{Bool, true}
use mathlib.Core.List.{List}
use Prim.Native.Nat.{ℕ, ◌+◌, ◌-◌, ◌≤◌, ◌<◌}
use native.Mathlib.Omega.{arith}
use lib.Bits.{bit_and}
use lib.Dec.{eqb}
use lib.ListN.{length}
use Rattle.winners.specs.ClientSets.{First, Others}
use Rattle.winners.specs.Full.{Searchable, Searched}
use Rattle.winners.specs.Lanes.{guards}
use Rattle.winners.specs.Rows.{row_of, offer_at}
use Rattle.winners.specs.declared.row.Offer.{Offer}
use Rattle.winners.specs.declared.row.Row.{Row}
use Rattle.winners.proofs.Offers.{read_is}
use Rattle.winners.proofs.Searching.{Found, somebody, found_first, found_falls, found_left, found_taken, found_end}
use Rattle.winners.proofs.Searching.{top_few, weight_few, hours_few, searchable_next}
use Rattle.winners.proofs.full.Search.+full.Goals as goal
use Rattle.winners.proofs.full.Search.+full.Goals.{
  After-offer-item,
  then-ahead-eq3,
  else-ahead-eq3,
  then-fit,
  else-fit,
}

pub first-client-requires : goal.first-client-requires
first-client-requires t c = let w = c.requires in (somebody c.args.ahead _ w.clients_left w.some_left, w.set_few)

pub others-rest-requires : goal.others-rest-requires
others-rest-requires t c = let w = c.requires in (somebody c.args.ahead _ w.clients_left w.some_left, w.set_few)

pub loop-offer-init : goal.loop-offer-init
loop-offer-init t c = (c.first-client.ensures, found_first)

-- an offer of the client's row, where more than two clients are left
module _ {t : ℕ} (c : After-offer-item t) where
  inside : c.loop-offer.offer-index < length (row_of c.args.self.rows.now c.first-client.result)
  inside = rw c.row-offer-items.ensures at c.loop-offer-test.true

  here : c.offer-item.result ≡ offer_at (row_of c.args.self.rows.now c.first-client.result) c.loop-offer.offer-index
  here = read_is _ _ _ _ c.row-offer-items.ensures c.loop-offer-test.true c.offer-item.is

  several : 3 ≤ c.args.ahead
  several = omega (arith, c.requires.some_left, c.if-ahead-eq1.false, c.if-ahead-eq2.false)

pub overflow_add-weight : goal.overflow_add-weight
overflow_add-weight t c =
    let turn = (goal.at.overflow_add-weight t c).After-offer-item in
    omega (arith, weight_few c.requires c.loop-offer.invariant.0 (inside turn) (here turn), c.args.self.values_few c.others-rest.result)

pub returns-then-weight-ceiling : goal.returns-then-weight-ceiling
returns-then-weight-ceiling t c =
    let turn = (goal.at.returns-then-weight-ceiling t c).After-offer-item in
    found_falls c.loop-offer.invariant.1 (inside turn) (here turn) c.others-rest.ensures c.if-weight-ceiling.true

pub overflow_add-after : goal.overflow_add-after
overflow_add-after t c =
    let turn = (goal.at.overflow_add-after t c).After-offer-item in
    omega (arith, hours_few c.requires c.loop-offer.invariant.0 (inside turn) (here turn))

-- a turn at an offer that fits
module _ {ahead set used floor client top d : ℕ} {rows : List Row} {values : List ℕ} (w : Searchable ahead set used floor rows values)
    (several : 3 ≤ ahead) {hi : First set client} (f : Found set client used floor rows values hi top d)
    (inside : d < length (row_of rows client)) {o : Offer} (here : o ≡ offer_at (row_of rows client) d) {rest base : ℕ}
    (others : Others set rest) {g : Bool} (e : g ≡ eqb (bit_and (used + o.hours) guards) 0) (y : g ≡ true)
    (lowered : base ≡ top - o.weight) where
  -- the others may be searched
  later : Searchable (ahead - 1) rest (used + o.hours) base rows values
  later = let few = top_few w f in searchable_next w hi inside here others e y (omega (arith, lowered, few)) (omega arith)

  -- what they add
  taken : {more : ℕ} → Searched rest (used + o.hours) base rows values more
      → Found set client used floor rows values hi (o.weight + more) (d + 1)
  taken s = found_taken f inside here others e y lowered s

pub last_pair-more-requires : goal.last_pair-more-requires
last_pair-more-requires t c =
    let turn = (goal.at.last_pair-more-requires t c).After-offer-item in
    let two : c.args.ahead - 1 ≡ 2 = omega (arith, c.if-ahead-eq3.true) in
    rw two at
    (later c.requires (several turn) c.loop-offer.invariant.1 (inside turn) (here turn) c.others-rest.ensures c.fit.ensures
    c.if-fit.true c.saturating_sub-base.ensures)

pub full-more-requires : goal.full-more-requires
full-more-requires t c =
    let turn = (goal.at.full-more-requires t c).After-offer-item in (
      omega (arith, c.decreases, several turn),
      later c.requires (several turn) c.loop-offer.invariant.1 (inside turn) (here turn) c.others-rest.ensures c.fit.ensures
          c.if-fit.true c.saturating_sub-base.ensures,
    )

pub overflow_add-top : goal.overflow_add-top
overflow_add-top t c =
    let turn = (goal.at.overflow_add-top t c).After-offer-item in
    let Is = Searched c.others-rest.result (c.args.used + c.offer-item.result.hours) c.saturating_sub-base.result c.args.self.rows.now
    c.args.self.values.now in
    let add : Is c.if-ahead-eq3.more = elim c.if-ahead-eq3.branch [
      | then-ahead-eq3 w ↦ subst Is (sym w.more-is) w.last_pair-more.ensures
      | else-ahead-eq3 w ↦ subst Is (sym w.more-is) w.full-more.ensures
    ] in
    let found = taken c.requires (several turn) c.loop-offer.invariant.1 (inside turn) (here turn) c.others-rest.ensures
    c.fit.ensures c.if-fit.true c.saturating_sub-base.ensures add in
    omega (arith, top_few c.requires found)

pub loop-offer-preserved : goal.loop-offer-preserved
loop-offer-preserved t c =
    let turn = (goal.at.loop-offer-preserved t c).After-offer-item in
    let (hi, found) = c.loop-offer.invariant in (
      hi,
      elim c.if-fit.branch [
        | then-fit w ↦
            let Is = Searched c.others-rest.result (c.args.used + c.offer-item.result.hours) w.saturating_sub-base.result
            c.args.self.rows.now c.args.self.values.now in
            let add : Is w.if-ahead-eq3.more = elim w.if-ahead-eq3.branch [
              | then-ahead-eq3 v ↦ subst Is (sym v.more-is) v.last_pair-more.ensures
              | else-ahead-eq3 v ↦ subst Is (sym v.more-is) v.full-more.ensures
            ] in
            rw w.top-is (taken c.requires (several turn) found (inside turn) (here turn) c.others-rest.ensures c.fit.ensures
            w.if-fit.true w.saturating_sub-base.ensures add)
        | else-fit w ↦
            rw w.top-is (found_left found (inside turn) (here turn) c.fit.ensures w.if-fit.false)
      ],
    )

pub returns : goal.returns
returns t c = found_end c.loop-offer.invariant.1 (rw c.row-offer-items.ensures at c.loop-offer-test.false)
