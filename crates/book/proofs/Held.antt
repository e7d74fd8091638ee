-- The book that a value holds: how many kinds, clients and bids it has, what it says by number, whatever the number is, and that it is
-- sound where its own number is 0. Cited by the proofs of src/ and by the layers above. Assumes nothing.
use mathlib.Core.Path.{◌≡◌, refl, sym, ap, ap₂, ◌∙◌}
use mathlib.Core.Bool.{Bool, true, false, ◌&&◌, not, cond}
use mathlib.Core.List.{List, []}
use Prim.Native.Nat.{ℕ, zero, suc, ◌+◌, ◌-◌, ◌<◌, min}
use native.Mathlib.Omega.{arith}
use native.Mathlib.Numerals.{add-one}
use lib.Dec.{ltb, eqb}
use lib.ListN.{length, get_or, get_or-map}
use borrow.Author.Tests.{le-leb}
use Rattle.book.specs.Lists.{within, row}
use Rattle.book.specs.Book.{Kind, Bid, no_bid, bid_at, client_of, clients, standing, supplies}
use Rattle.book.specs.Questions.{counts_ranged, entries_refusal}
use Rattle.book.specs.Sound.{no_kind, Sound, Shaped}
use Rattle.book.specs.Value.{zero_kind, kind_of, status_held, bid_held, book_of, sound_number}
use Rattle.book.specs.declared.value.Book.{Book as Arrays}
use Rattle.book.proofs.RowLaws.{row_length, row_at, row_entry}
use Rattle.book.proofs.Soundness.{Counted, counted, KindsEach, shaped_each, sound_book}

module _ (v : Arrays) where
  pub held_kinds : length (book_of v).kinds ≡ min v.k 4
  unfolding book_of
  held_kinds = row_length _ _ _

  pub held_clients : clients (book_of v) ≡ min v.n 6
  unfolding book_of clients
  held_clients = row_length _ _ _

  pub held_bids : length (book_of v).bids ≡ min v.m 48
  unfolding book_of
  held_bids = row_length _ _ _

  -- the bid of a number, and its hours of each kind
  pub held_bid : (i : ℕ) → i < min v.m 48 → bid_at (book_of v) (i + 1) ≡ bid_held (min v.k 4) v.client v.hours v.amount i
  unfolding book_of bid_at
  held_bid i l = rw add-one (row_at _ 0 _ i no_bid l ∙ ap (bid_held (min v.k 4) v.client v.hours v.amount) (omega arith))

  pub held_kinds_each : KindsEach (book_of v)
  unfolding bid_held
  held_kinds_each zero l k = absurd (omega arith)
  held_kinds_each (suc i) l k =
      let within : i < min v.m 48 = omega (arith, held_bids) in
      let here : bid_at (book_of v) (suc i) ≡ bid_held (min v.k 4) v.client v.hours v.amount i
      = rw add-one at (held_bid i within) in
      ap (λ (x : Bid). length x.hours) here ∙ row_length _ _ _ ∙ sym held_kinds

  pub held_shaped : Shaped (book_of v)
  held_shaped = shaped_each (book_of v) held_kinds_each

-- what a test picks, and a function of it
pub picked : {X Y : Type 0} (f : X → Y) (t : Bool) (x y : X) → f (cond t x y) ≡ cond t (f x) (f y)
picked f true x y = refl
picked f false x y = refl

-- both tests, one after the other
picked_both : (s t : Bool) (x : ℕ) → cond s (cond t x 0) 0 ≡ cond (s && t) x 0
picked_both true t x = refl
picked_both false t x = refl

-- numbers from 1 on
numbered_within : (i t : ℕ) → ltb i t ≡ within 1 (suc i) t
unfolding within
numbered_within i t = sym (rw (le-leb 1 (suc i) (omega arith)))

-- past the last client nobody stands, and among them who is not out
stands_within : (here out : Bool) → eqb (cond {A = ℕ} here (cond out 1 0) 1) 0 ≡ (here && not out)
stands_within true true = refl
stands_within true false = refl
stands_within false out = refl

-- what a value says by number, whatever the number is: each is 0, or none, where nothing has it
module _ (v : Arrays) where
  -- the bid of a number from 1
  pub bid_by_number : (i : ℕ) → bid_at (book_of v) i
      ≡ cond (within 1 i (min v.m 48)) (bid_held (min v.k 4) v.client v.hours v.amount (i - 1)) no_bid
  unfolding book_of bid_at within
  bid_by_number zero = refl
  bid_by_number (suc i) =
      row_entry (min v.m 48) 0 (bid_held (min v.k 4) v.client v.hours v.amount) i no_bid
      ∙ ap₂ (λ (here : Bool) (p : ℕ). cond here (bid_held (min v.k 4) v.client v.hours v.amount p) no_bid)
      (numbered_within i (min v.m 48)) (omega arith)

  pub client_by_number : (i : ℕ) → client_of (book_of v) i ≡ cond (within 1 i (min v.m 48)) (get_or v.client (i - 1) 0) 0
  unfolding client_of bid_held no_bid
  client_by_number i = ap (λ (x : Bid). x.client) (bid_by_number i) ∙ picked (λ (x : Bid). x.client) (within 1 i (min v.m 48)) _ _

  pub amount_by_number : (i : ℕ) → (bid_at (book_of v) i).amount ≡ cond (within 1 i (min v.m 48)) (get_or v.amount (i - 1) 0) 0
  unfolding bid_held no_bid
  amount_by_number i = ap (λ (x : Bid). x.amount) (bid_by_number i) ∙ picked (λ (x : Bid). x.amount) (within 1 i (min v.m 48)) _ _

  -- its hours, how many numbers they are, and that of a kind from 0
  pub hours_by_number : (i : ℕ) → (bid_at (book_of v) i).hours
      ≡ cond (within 1 i (min v.m 48)) (row (min v.k 4) 0 (λ p. get_or (get_or v.hours (i - 1) []) p 0)) []
  unfolding bid_held no_bid
  hours_by_number i = ap (λ (x : Bid). x.hours) (bid_by_number i) ∙ picked (λ (x : Bid). x.hours) (within 1 i (min v.m 48)) _ _

  pub hours_length : (i : ℕ) → length (bid_at (book_of v) i).hours ≡ cond (within 1 i (min v.m 48)) (min v.k 4) 0
  hours_length i =
      ap (λ (hs : List ℕ). length hs) (hours_by_number i)
      ∙ picked (λ (hs : List ℕ). length hs) (within 1 i (min v.m 48)) _ []
      ∙ ap (λ (n : ℕ). cond (within 1 i (min v.m 48)) n 0) (row_length (min v.k 4) 0 (λ p. get_or (get_or v.hours (i - 1) []) p 0))

  hours_there : (hs : List ℕ) (j : ℕ) → get_or (row (min v.k 4) 0 (λ p. get_or hs p 0)) j 0 ≡ cond (ltb j (min v.k 4)) (get_or hs j 0) 0
  hours_there hs j =
      let place : 0 + j ≡ j = omega arith in
      rw place at (row_entry (min v.k 4) 0 (λ p. get_or hs p 0) j 0)

  pub hours_of_kind : (i j : ℕ) → get_or (bid_at (book_of v) i).hours j 0
      ≡ cond (within 1 i (min v.m 48) && ltb j (min v.k 4)) (get_or (get_or v.hours (i - 1) []) j 0) 0
  hours_of_kind i j =
      ap (λ (hs : List ℕ). get_or hs j 0) (hours_by_number i)
      ∙ picked (λ (hs : List ℕ). get_or hs j 0) (within 1 i (min v.m 48)) _ []
      ∙ ap (λ (n : ℕ). cond (within 1 i (min v.m 48)) n 0) (hours_there (get_or v.hours (i - 1) []) j)
      ∙ picked_both (within 1 i (min v.m 48)) (ltb j (min v.k 4)) _

  -- the supply of a kind from 0
  pub supply_by_number : (j : ℕ) → get_or (supplies (book_of v)) j 0 ≡ cond (ltb j (min v.k 4)) (get_or v.kinds j zero_kind).supply 0
  unfolding book_of supplies kind_of no_kind
  supply_by_number j =
      get_or-map (λ (x : Kind). x.supply) (book_of v).kinds j no_kind
      ∙ ap (λ (x : Kind). x.supply) (row_entry (min v.k 4) 0 (λ p. kind_of (get_or v.kinds p zero_kind)) j no_kind)
      ∙ picked (λ (x : Kind). x.supply) (ltb j (min v.k 4)) _ no_kind
      ∙ ap (λ (p : ℕ). cond (ltb j (min v.k 4)) (get_or v.kinds p zero_kind).supply 0) (omega arith)

  -- who stands, by number from 1
  pub standing_by_number : (c : ℕ) → standing (book_of v) c ≡ (within 1 c (min v.n 6) && not (eqb (get_or v.caps (c - 1) 0) 0))
  unfolding book_of standing status_held within
  standing_by_number zero = refl
  standing_by_number (suc c) =
      ap (λ (s : ℕ). eqb s 0) (row_entry (min v.n 6) 0 (status_held v.caps) c 1)
      ∙ stands_within (ltb c (min v.n 6)) (eqb (get_or v.caps (0 + c) 0) 0)
      ∙ ap₂ (λ (here : Bool) (p : ℕ). here && not (eqb (get_or v.caps p 0) 0)) (numbered_within c (min v.n 6)) (omega arith)

-- two questions in a row, of which none is answered no
two_yes : (a : Bool) (n : ℕ) → cond (not a) 2 n ≡ 0 → (a ≡ true) × (n ≡ 0)
two_yes true n h = (refl, h)
two_yes false n h = absurd (omega arith)

module _ (v : Arrays) (h : sound_number v ≡ 0) where
  pub counts_held : Counted v.k v.n v.m
  unfolding sound_number
  counts_held = counted v.k v.n v.m (two_yes (counts_ranged v.k v.n v.m) (entries_refusal (book_of v)) h).0

  pub sound_held : Sound (book_of v)
  unfolding sound_number
  sound_held =
      let c = counts_held in
      let counts : Counted (length (book_of v).kinds) (clients (book_of v)) (length (book_of v).bids) = record {
        k_low = omega (arith, held_kinds v, c.k_low, c.k_high);
        k_high = omega (arith, held_kinds v);
        n_low = omega (arith, held_clients v, c.n_low, c.n_high);
        n_high = omega (arith, held_clients v);
        m_high = omega (arith, held_bids v);
      } in
      sound_book (book_of v) counts (held_kinds_each v) (two_yes (counts_ranged v.k v.n v.m) (entries_refusal (book_of v)) h).1
