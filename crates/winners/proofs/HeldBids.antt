-- The bids of a sound book that is a value: how many they are, and their hours as numbers in lanes; its supply as such a number; and the
-- clients kept. Cited by the proofs of src/. Assumes nothing.
use mathlib.Core.Path.{◌≡◌, refl, sym, ap, ap₂, ◌∙◌}
use mathlib.Core.Bool.{Bool, ◌&&◌, not}
use mathlib.Core.List.{List, []}
use Prim.Native.Nat.{ℕ, zero, suc, ◌+◌, ◌-◌, ◌≤◌, ◌<◌}
use native.Mathlib.Nat.{min-eq_left}
use native.Mathlib.Decide.{dec_lt}
use native.Mathlib.Omega.{arith}
use lib.Bits.{bit_and}
use lib.Dec.{eqb}
use lib.ListN.{length, get_or, take, get_or-eq_default}
use Rattle.sets.specs.Sets.{has, set_of}
use Rattle.sets.proofs.Members.{has_set_of}
use Rattle.book.specs.Lists.{row}
use Rattle.book.specs.Book.{Book, Bid, bid_at, client_of, clients, standing, supplies}
use Rattle.book.specs.Value.{bid_held, book_of, sound_number}
use Rattle.book.specs.declared.value.Book.{Book as Arrays}
use Rattle.book.proofs.RowLaws.{row_at, taken_row}
use Rattle.book.proofs.Held.{held_kinds, held_clients, held_bids, held_bid, counts_held, sound_held}
use Rattle.market.specs.Market.{fits}
use Rattle.winners.specs.Combinations.{market, amount_of}
use Rattle.winners.specs.ByKind.{by_kind}
use Rattle.winners.specs.Greatest.{without, discarded}
use Rattle.winners.specs.Lanes.{packed, used, Bytes, Asked, Left}
use Rattle.winners.specs.Rows.{searched}
use Rattle.winners.proofs.Books.{supplies_count}
use Rattle.winners.proofs.KindEntries.{by_kind_take}
use Rattle.winners.proofs.LaneSums.{fit_says, used_short}

-- four entries of at most four, 0 past them
by_kind_past : (xs : List ℕ) → length xs ≤ 4 → (i : ℕ) → length xs ≤ i → get_or (by_kind xs) i 0 ≡ 0
unfolding row
by_kind_past xs h zero l = get_or-eq_default xs 0 l
by_kind_past xs h (suc zero) l = get_or-eq_default xs 0 l
by_kind_past xs h (suc (suc zero)) l = get_or-eq_default xs 0 l
by_kind_past xs h (suc (suc (suc zero))) l = get_or-eq_default xs 0 l
by_kind_past xs h (suc (suc (suc (suc i)))) l = refl

-- the supply as a number, whatever the book
module _ (b : Book) (few : length b.kinds ≤ 4) where
  pub supply_take : (k : ℕ) → k ≡ length b.kinds → take k (by_kind (supplies b)) ≡ supplies b
  supply_take k e = by_kind_take k (supplies b) (omega arith) (supplies_count b ∙ sym e)

  unsold : used 4 (by_kind (supplies b)) ≡ used 4 (supplies b)
  unsold =
      used_short (supplies b) _ (supply_take (length (supplies b)) (supplies_count b))
      (by_kind_past (supplies b) (omega (arith, supplies_count b)))

  pub supply_left : (number : ℕ) → number ≡ used 4 (by_kind (supplies b)) → Bytes (by_kind (supplies b))
      → Left (length b.kinds) (supplies b) number
  supply_left number e bytes = record {
    kinds = supplies_count b;
    kinds_few = few;
    bytes = λ i. elim (dec_lt i (length (supplies b))) [
      | yes l ↦
          let same : get_or (by_kind (supplies b)) i 0 ≡ get_or (supplies b) i 0
          = row_at 4 0 (λ j. get_or (supplies b) j 0) i 0 (omega (arith, supplies_count b))
          ∙ ap (λ (t : ℕ). get_or (supplies b) t 0) (omega arith) in
          rw same at (bytes i)
      | no l ↦ omega (arith, get_or-eq_default (supplies b) 0 {n = i} (omega arith))
    ];
    lanes = e ∙ unsold;
  }

module _ (v : Arrays) (h : sound_number v ≡ 0) where
  pub kinds_are : length (book_of v).kinds ≡ v.k
  kinds_are = held_kinds v ∙ min-eq_left (counts_held v h).k_high

  pub clients_are : clients (book_of v) ≡ v.n
  clients_are = held_clients v ∙ min-eq_left (counts_held v h).n_high

  pub bids_are : length (book_of v).bids ≡ v.m
  bids_are = held_bids v ∙ min-eq_left (counts_held v h).m_high

  module _ (i : ℕ) (l : i < v.m) where
    bid_is : bid_at (book_of v) (i + 1) ≡ bid_held v.k v.client v.hours v.amount i
    bid_is =
        held_bid v i (omega (arith, (counts_held v h).m_high))
        ∙ ap (λ (k : ℕ). bid_held k v.client v.hours v.amount i) (min-eq_left (counts_held v h).k_high)

    pub owner_is : client_of (book_of v) (i + 1) ≡ get_or v.client i 0
    unfolding client_of bid_held
    owner_is = ap (λ (x : Bid). x.client) bid_is

    pub weight_is : amount_of (book_of v) (i + 1) ≡ get_or v.amount i 0
    unfolding amount_of bid_held
    weight_is = ap (λ (x : Bid). x.amount) bid_is

  -- a bid's hours, of which four are read, as a number
  module _ (i : ℕ) (l : i < v.m) (long : length (get_or v.hours i []) ≡ 4) where
    abbrev four : List ℕ
    four = get_or v.hours i []

    hours_each : length (bid_at (book_of v) (i + 1)).hours ≡ length (book_of v).kinds
    hours_each = (sound_held v h).kinds_each (i + 1) (omega arith) (omega (arith, bids_are))

    hours_are : take v.k four ≡ (bid_at (book_of v) (i + 1)).hours
    unfolding bid_held
    hours_are =
        taken_row 0 v.k four (omega (arith, (counts_held v h).k_high)) ∙ sym (ap (λ (x : Bid). x.hours) (bid_is i l))

    pub packed_is : (number : ℕ) → number ≡ packed (take v.k four) → number ≡ packed (bid_at (book_of v) (i + 1)).hours
    packed_is number en = en ∙ ap packed hours_are

    module _ (bytes : Bytes (take v.k four)) where
      pub asked_is : Asked (length (book_of v).kinds) (bid_at (book_of v) (i + 1)).hours (packed (bid_at (book_of v) (i + 1)).hours)
      asked_is = record { kinds = hours_each; bytes = rw hours_are at bytes; packs = refl }

      -- whether it may be taken, by the clients kept, its hours and the supply
      pub may_is : (d kept u a own : ℕ) (t : Bool)
          → ((c : ℕ) → 1 ≤ c → c ≤ 6 → has kept (c - 1) ≡ (standing (book_of v) c && not (discarded d c)))
          → Left (length (book_of v).kinds) (supplies (book_of v)) u → a ≡ packed (bid_at (book_of v) (i + 1)).hours
          → own ≡ client_of (book_of v) (i + 1) → 1 ≤ own → own ≤ 6
          → t ≡ (has kept (own - 1) && eqb (bit_and (u + a) 72058693566333184) 0) → t ≡ (searched (book_of v) d).may (i + 1)
      unfolding market without
      may_is d kept u a own t keeps left ea eo low high et =
          let b = book_of v in
          let asked = asked_is in
          let count = supplies_count b in
          let few = (sound_held v h).k_high in
          let sum : u + a ≡ used 4 (supplies b) + packed (bid_at b (i + 1)).hours = ap₂ (λ (x y : ℕ). x + y) left.lanes ea in
          let fit : eqb (bit_and (u + a) 72058693566333184) 0 ≡ fits (bid_at b (i + 1)).hours (supplies b)
          = rw sum (fit_says _ _ (omega (arith, asked.kinds, count)) (omega (arith, count, few)) asked.bytes left.bytes) in
          let on : has kept (own - 1) ≡ (standing b (client_of b (i + 1)) && not (discarded d (client_of b (i + 1))))
          = keeps own low high ∙ ap (λ (c : ℕ). standing b c && not (discarded d c)) eo in
          et ∙ ap₂ (λ (x y : Bool). x && y) on fit

-- the clients kept
pub kept_is : (b : Book) (d kept : ℕ) → kept ≡ set_of 6 (λ j. standing b (1 + j) && not (has d j))
    → (c : ℕ) → 1 ≤ c → c ≤ 6 → has kept (c - 1) ≡ (standing b c && not (discarded d c))
unfolding discarded
kept_is b d kept e zero l u = absurd (omega arith)
kept_is b d kept e (suc c) l u =
    let back : suc c - 1 ≡ c = omega arith in
    let up : 1 + c ≡ suc c = omega arith in
    rw (back, e) (has_set_of 6 (λ j. standing b (1 + j) && not (has d j)) c (omega arith)
    ∙ ap (λ (x : ℕ). standing b x && not (has d c)) up)
