-- The steps of the search over a client's row: where it begins, a bid taken or left, and where it may end. Cited by the proofs of
-- src/full.rt. Assumes nothing.
use mathlib.Core.Path.{◌≡◌, refl, sym, ap, subst, ◌∙◌}
use mathlib.Core.Bool.{Bool, true, false}
use mathlib.Core.List.{List, [], ◌∷◌}
use mathlib.Core.Logic.{⊎_elim}
use Prim.Native.Nat.{ℕ, zero, suc, ◌+◌, ◌-◌, ◌*◌, ◌^◌, ◌≤◌, ◌<◌, max}
use native.Mathlib.Omega.{arith}
use lib.Bits.{bit_and}
use lib.Dec.{eqb}
use lib.ListN.{length, get_or, drop}
use Rattle.market.specs.Market.{Market, at, less}
use Rattle.market.specs.Members.{full, choose_in}
use Rattle.market.proofs.Adding.{less_fits, fits_trans}
use Rattle.market.proofs.Choose.{choose_attained}
use Rattle.market.proofs.Prune.{max_lowered}
use Rattle.market.proofs.RowOf.{full_row}
use Rattle.market.proofs.Falling.{place_next, place_end, place_falls, place_first}
use Rattle.sets.specs.Sets.{has}
use Rattle.winners.specs.ClientSets.{clients_in, First, Others}
use Rattle.winners.specs.Lanes.{Left, guards, lanes_full}
use Rattle.winners.specs.Rows.{OfferOf, RowHeld, RowsHeld, row_of, offer_at}
use Rattle.winners.specs.declared.row.Offer.{Offer}
use Rattle.winners.specs.declared.row.Row.{Row}
use Rattle.winners.specs.Full.{weight_most, found_most, one, next, Ceilings, Searchable, Searched}
use Rattle.winners.proofs.ClientSets.{clients_none, clients_first, clients_few, others_less}
use Rattle.winners.proofs.LaneSums.{used_most}
use Rattle.winners.proofs.LanesLeft.{fit_here, left_after}

-- HOW MUCH THERE IS TO FIND
full_most : (m : Market) (wt : ℕ → ℕ) (a : ℕ) → ((i : ℕ) → wt i ≤ a) → (cs ls : List ℕ) → full m wt cs ls ≤ a * length cs
unfolding full
full_most m wt a h [] ls = omega arith
full_most m wt a h (c ∷ cs) ls =
    ⊎_elim
    (λ e. omega (arith, e))
    (λ (i, l, t, e). omega (arith, e, h (suc i), full_most m wt a h cs (less ls (m.hours (suc i)))))
    (choose_attained m wt c ls 0 (λ rs. full m wt cs rs) m.bids)

full_few : (m : Market) (wt : ℕ → ℕ) → ((i : ℕ) → wt i ≤ weight_most) → (s : ℕ) (ls : List ℕ)
    → full m wt (clients_in s) ls ≤ found_most
full_few m wt h s ls = omega (arith, full_most m wt weight_most h (clients_in s) ls, clients_few (λ c. has s (c - 1)) 6 1)

-- where somebody is left the set's number is not 0
pub somebody : (ahead set : ℕ) → ahead ≡ length (clients_in set) → 1 ≤ ahead → 1 ≤ set
somebody ahead zero e n = absurd (omega (arith, ap length clients_none))
somebody ahead (suc set) e n = omega arith

-- fewer hours have the same ceilings, and so have the clients after the first
ceilings_after : (m : Market) (wt : ℕ → ℕ) (values : List ℕ) (s t : ℕ) (ls hs : List ℕ) → First s t → Ceilings m wt values s ls
    → Ceilings m wt values (s - 2 ^ (t - 1)) (less ls hs)
ceilings_after m wt values s t ls hs h c r tail ys f = c r (next h tail) ys (fits_trans ys (less ls hs) ls f (less_fits ls hs))

-- A ROW OF THE FIRST CLIENT
abbrev rest_of : (set client : ℕ) → ℕ
rest_of set client = set - 2 ^ (client - 1)

-- the offer at hand is of the bid at its place of the row
offered_here : {m : Market} {wt : ℕ → ℕ} {k n t d : ℕ} {os : List Offer} {row : List ℕ} {o : Offer} → RowHeld m wt k n t os row
    → o ≡ offer_at os d → d < length row → OfferOf m wt k (at row d) o
offered_here {m} {wt} {k} {n} {t} {d} {os} {row} r here within =
    subst (λ (x : Offer). OfferOf m wt k (at row d) x) (sym here) (r.offered d within)

-- what place d of the row and the later ones reach, in a market that is laid out
pub record Found (set client used floor : ℕ) (rows : List Row) (values : List ℕ) (hi : First set client) (top d : ℕ) : Type 0 where
  pub is : (m : Market) (wt : ℕ → ℕ) (k : ℕ) (ls : List ℕ) (h : RowsHeld m wt k m.bids rows) → Left k ls used
      → Ceilings m wt values set ls
      → max top (choose_in m wt (drop d (h client hi.low hi.high).0) ls 0 (λ rs. full m wt (clients_in (rest_of set client)) rs))
      ≡ max floor (full m wt (clients_in set) ls)

module _ {set client used floor : ℕ} {rows : List Row} {values : List ℕ} {hi : First set client} where
  pub found_first : Found set client used floor rows values hi floor 0
  found_first = record {
    is = λ m wt k ls h l c.
        let (row, r) = h client hi.low hi.high in
        rw (clients_first set client hi)
        (ap (λ (x : ℕ). max floor x) (sym (full_row m wt client (clients_in (rest_of set client)) ls row r.holds)));
  }

  -- the row is passed
  pub found_end : {top d : ℕ} → Found set client used floor rows values hi top d → length (row_of rows client) ≤ d
      → Searched set used floor rows values top
  found_end {top} {d} f past = record {
    is = λ m wt k ls h l c.
        let (row, r) = h client hi.low hi.high in
        sym (place_end m wt ls (λ rs. full m wt (clients_in (rest_of set client)) rs) row d top (omega (arith, r.count)))
        ∙ f.is m wt k ls h l c;
  }

  -- a turn, at an offer of the row; g says whether the bid fits
  module _ {top d : ℕ} (f : Found set client used floor rows values hi top d) (inside : d < length (row_of rows client)) {o : Offer}
      (here : o ≡ offer_at (row_of rows client) d) where
    -- the row ends where no later bid can beat what is found
    pub found_falls : {rest : ℕ} → Others set rest → o.weight + get_or values rest 0 ≤ top → Searched set used floor rows values top
    found_falls others low = record {
      is = λ m wt k ls h l c.
          let rest = rest_of set client in
          let (row, r) = h client hi.low hi.high in
          let within : d < length row = omega (arith, r.count) in
          sym (place_falls m wt ls (λ rs. full m wt (clients_in rest) rs) row d top (get_or values rest 0) r.falls
          (λ e b t. c rest (one hi) _ (less_fits ls _)) (rw (others.is client hi, (offered_here r here within).weighs) at low))
          ∙ f.is m wt k ls h l c;
    }

    -- a bid that does not fit
    pub found_left : {g : Bool} → g ≡ eqb (bit_and (used + o.hours) guards) 0 → g ≡ false
        → Found set client used floor rows values hi top (d + 1)
    found_left e n = record {
      is = λ m wt k ls h l c.
          let (row, r) = h client hi.low hi.high in
          let within : d < length row = omega (arith, r.count) in
          let fit = fit_here k _ ls _ used (offered_here r here within).asks l in
          let step = place_next m wt ls (λ rs. full m wt (clients_in (rest_of set client)) rs) row d top within in
          sym (rw (sym fit ∙ sym e ∙ n) at step) ∙ f.is m wt k ls h l c;
    }

    -- a bid that is taken, from a floor lowered by its weight
    pub found_taken : {rest : ℕ} → Others set rest → {g : Bool} → g ≡ eqb (bit_and (used + o.hours) guards) 0 → g ≡ true
        → {base more : ℕ} → base ≡ top - o.weight → Searched rest (used + o.hours) base rows values more
        → Found set client used floor rows values hi (o.weight + more) (d + 1)
    found_taken others e y {base} {more} eb s = record {
      is = λ m wt k ls h l c.
          let weight = o.weight in
          let (row, r) = h client hi.low hi.high in
          let within : d < length row = omega (arith, r.count) in
          let offered = offered_here r here within in
          let ask = offered.asks in
          let fit = sym (fit_here k _ ls _ used ask l) ∙ sym e ∙ y in
          let hours = m.hours (at row d) in
          let on = full m wt (clients_in (rest_of set client)) (less ls hours) in
          let searched = subst (λ (x : ℕ). Searched x (used + o.hours) base rows values more) (others.is client hi) s in
          let found = searched.is m wt k (less ls hours) h (left_after k hours ls _ used ask l fit)
          (ceilings_after m wt values set client ls hours hi c) in
          let raised : weight + more ≡ max top (wt (at row d) + on)
          = ap (λ (x : ℕ). weight + x) (found ∙ ap (λ (x : ℕ). max x on) eb) ∙ max_lowered top weight on
          ∙ ap (λ (x : ℕ). max top (x + on)) offered.weighs in
          let step = place_next m wt ls (λ rs. full m wt (clients_in (rest_of set client)) rs) row d top within in
          rw raised (sym (rw fit at step) ∙ f.is m wt k ls h l c);
    }

-- THE LAST CLIENT: nobody is left to add anything
nobody : (c : ℕ) (cs : List ℕ) → 1 ≡ length (c ∷ cs) → cs ≡ []
nobody c [] e = refl
nobody c (d ∷ cs) e = absurd (omega arith)

nothing_more : (set client : ℕ) → First set client → 1 ≡ length (clients_in set)
    → (m : Market) (wt : ℕ → ℕ) (rs : List ℕ) → full m wt (clients_in (rest_of set client)) rs ≡ 0
unfolding full
nothing_more set client hi alone m wt rs =
    rw (nobody client (clients_in (rest_of set client)) (alone ∙ ap length (clients_first set client hi)))

-- the first bid of its row that fits is the best
pub last_fits : {set client used floor : ℕ} {rows : List Row} {values : List ℕ} {hi : First set client} {d : ℕ}
    → Found set client used floor rows values hi floor d → d < length (row_of rows client)
    → {o : Offer} → o ≡ offer_at (row_of rows client) d → 1 ≡ length (clients_in set)
    → {g : Bool} → g ≡ eqb (bit_and (used + o.hours) guards) 0 → g ≡ true → Searched set used floor rows values (max floor o.weight)
last_fits {set} {client} {used} {floor} {rows} {values} {hi} {d} f inside {o} here alone e y = record {
  is = λ m wt k ls h l c.
      let (row, r) = h client hi.low hi.high in
      let within : d < length row = omega (arith, r.count) in
      let offered = offered_here r here within in
      let fit = sym (fit_here k _ ls _ used offered.asks l) ∙ sym e ∙ y in
      let best = place_first m wt ls (λ rs. full m wt (clients_in (rest_of set client)) rs) row d floor within r.falls
      (nothing_more set client hi alone m wt) fit in
      ap (λ (x : ℕ). max floor x) (offered.weighs ∙ sym best) ∙ f.is m wt k ls h l c;
}

-- NUMBERS STAY FEW
module _ {ahead set used floor : ℕ} {rows : List Row} {values : List ℕ} (w : Searchable ahead set used floor rows values) where
  pub top_few : {client : ℕ} {hi : First set client} {top d : ℕ} → Found set client used floor rows values hi top d
      → top ≤ found_most
  top_few f =
      omega (
        arith,
        f.is w.m w.wt w.k w.hours w.held w.left w.ceilings,
        full_few w.m w.wt w.weights_few set w.hours,
        w.floor_few,
      )

  -- at an offer of the first client's row
  module _ {client : ℕ} (hi : First set client) {d : ℕ} (inside : d < length (row_of rows client)) {o : Offer}
      (here : o ≡ offer_at (row_of rows client) d) where
    pub weight_few : o.weight ≤ weight_most
    weight_few =
        let (row, r) = w.held client hi.low hi.high in
        rw (offered_here r here (omega (arith, r.count))).weighs (w.weights_few _)

    pub hours_few : used + o.hours ≤ lanes_full + lanes_full
    hours_few = omega (arith, o.in_lanes, w.left.lanes, used_most w.hours)

    -- the others may be searched once it is taken
    searchable_rest : {g : Bool} → g ≡ eqb (bit_and (used + o.hours) guards) 0 → g ≡ true
        → (base : ℕ) → base ≤ found_most → 2 ≤ ahead
        → Searchable (ahead - 1) (rest_of set client) (used + o.hours) base rows values
    searchable_rest e y base few more =
        let (row, r) = w.held client hi.low hi.high in
        let ask = (offered_here r here (omega (arith, r.count))).asks in
        let hours = w.m.hours (at row d) in
        let fit = sym (fit_here w.k hours w.hours _ used ask w.left) ∙ sym e ∙ y in
        record {
          m = w.m;
          wt = w.wt;
          k = w.k;
          hours = less w.hours hours;
          held = w.held;
          left = left_after w.k hours w.hours _ used ask w.left fit;
          ceilings = ceilings_after w.m w.wt values set client w.hours hours hi w.ceilings;
          weights_few = w.weights_few;
          clients_left = omega (arith, w.clients_left, ap length (clients_first set client hi));
          some_left = omega arith;
          set_few = omega (arith, w.set_few, others_less set client hi);
          floor_few = few;
        }

    pub searchable_next : {rest : ℕ} → Others set rest → {g : Bool} → g ≡ eqb (bit_and (used + o.hours) guards) 0 → g ≡ true
        → {base : ℕ} → base ≤ found_most → 2 ≤ ahead → Searchable (ahead - 1) rest (used + o.hours) base rows values
    searchable_next others e y {base} few more =
        subst (λ (x : ℕ). Searchable (ahead - 1) x (used + o.hours) base rows values) (sym (others.is client hi))
        (searchable_rest e y base few more)
