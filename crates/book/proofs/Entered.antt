-- The entries of a book's bytes by their places: kinds and bids from the first on, and none past the last. Cited by the proofs of
-- src/filling.rt, which puts them into arrays. Assumes nothing.
use mathlib.Core.Path.{◌≡◌, refl, sym, ap, ◌∙◌}
use mathlib.Core.Bool.{Bool, true, false, cond}
use mathlib.Core.List.{List, [], ◌∷◌}
use Prim.Native.Nat.{ℕ, zero, suc, ◌+◌, ◌*◌, ◌-◌, ◌≤◌, ◌<◌}
use native.Mathlib.Nat.{le_trans, le_of_eq, mul-le-mul_right}
use native.Mathlib.Decide.{dec_lt}
use native.Mathlib.Omega.{arith}
use lib.Dec.{ltb}
use lib.ListN.{length, get_or, get_or-eq_default, take, drop, replicate}
use lib.Seq.{ext_get_or}
use borrow.Author.Tests.{lt-ltb, le-ltb}
use Rattle.sets.specs.Tables.{tabulate}
use Rattle.sets.proofs.Filled.{FilledOver}
use Rattle.book.specs.Bytes.{byte, field, bytes_at}
use Rattle.book.specs.Book.{Bid, no_bid}
use Rattle.book.specs.Layout.{k_of, m_of, bids_from, kind_here, kinds_in, bid_here, book_in}
use Rattle.book.specs.Questions.{counts_good}
use Rattle.book.specs.Lists.{row}
use Rattle.book.specs.Reading.{kind_entry, hours_entry}
use Rattle.book.specs.Room.{first_of}
use Rattle.book.specs.Sound.{no_kind}
use Rattle.book.specs.Value.{zero_kind}
use Rattle.book.specs.declared.value.Kind.{Kind as KindValue}
use Rattle.book.proofs.RowLaws.{row_length, row_at}
use Rattle.book.proofs.Next.{bytes_length, kinds_length}
use Rattle.book.proofs.Places.{bytes_entry, kinds_entry, bids_entry, bids_count}
use Rattle.book.proofs.Inside.{laid, byte_of_part, field_of_part}

-- the kinds from the first place on, where k of four entries are kept
module _ (k : ℕ) (bs : List ℕ) where
  kind_at : (j : ℕ) → get_or (kinds_in k 4 bs) j no_kind ≡ cond (ltb j k) (kind_here (4 + 3 * j) bs) no_kind
  kind_at j = elim (dec_lt j k) [
    | yes l ↦ rw (lt-ltb j k l) (kinds_entry k 4 j bs no_kind l)
    | no l ↦
        rw (le-ltb j k (omega arith)) (get_or-eq_default (kinds_in k 4 bs) no_kind (omega (arith, kinds_length k 4 bs)))
  ]

-- the kinds as entries
pub four_kinds : (bs : List ℕ) (a b c d : KindValue) → a ≡ kind_entry (kind_here 4 bs) → b ≡ kind_entry (kind_here 7 bs)
    → c ≡ kind_entry (kind_here 10 bs) → d ≡ kind_entry (kind_here 13 bs)
    → (j : ℕ) → j < 4 → get_or (a ∷ b ∷ c ∷ d ∷ []) j zero_kind ≡ kind_entry (kind_here (4 + 3 * j) bs)
four_kinds bs a b c d ea eb ec ed zero l = ea
four_kinds bs a b c d ea eb ec ed (suc zero) l = eb
four_kinds bs a b c d ea eb ec ed (suc (suc zero)) l = ec
four_kinds bs a b c d ea eb ec ed (suc (suc (suc zero))) l = ed
four_kinds bs a b c d ea eb ec ed (suc (suc (suc (suc j)))) l = absurd (omega arith)

pub kinds_read : (bs : List ℕ) (k : ℕ) (es ys : List KindValue) → k ≡ k_of bs → length ys ≡ 4
    → ((j : ℕ) → j < 4 → get_or ys j zero_kind ≡ cond (ltb j k) (get_or es j zero_kind) zero_kind)
    → ((j : ℕ) → j < 4 → get_or es j zero_kind ≡ kind_entry (kind_here (4 + 3 * j) bs))
    → ys ≡ row 4 0 (λ j. kind_entry (get_or (book_in bs).kinds j no_kind))
unfolding book_in kind_entry no_kind
kinds_read bs k es ys ek long first each =
    ext_get_or zero_kind ys _ (long ∙ sym (row_length 4 0 entry)) (λ j l.
    let here : 0 + j ≡ j = omega arith in
    first j (omega arith)
    ∙ (rw ek)
    ∙ ap (λ (x : KindValue). cond (ltb j (k_of bs)) x zero_kind) (each j (omega arith))
    ∙ cut (ltb j (k_of bs)) j
    ∙ sym (rw (row_at 4 0 entry j zero_kind (omega arith), here, kind_at (k_of bs) bs j)))
  where
    entry : ℕ → KindValue
    entry j = kind_entry (get_or (kinds_in (k_of bs) 4 bs) j no_kind)

    cut : (t : Bool) (j : ℕ)
        → cond t (kind_entry (kind_here (4 + 3 * j) bs)) zero_kind ≡ kind_entry (cond t (kind_here (4 + 3 * j) bs) no_kind)
    cut true j = refl
    cut false j = refl

-- hours of the first k of four kinds, in the bytes of a bid
hours_at : (k j : ℕ) (bs : List ℕ) → get_or (bytes_at k 1 bs) j 0 ≡ cond (ltb j k) (byte (1 + j) bs) 0
hours_at k j bs =
    elim (dec_lt j k) [
      | yes h ↦ rw (lt-ltb j k h) (bytes_entry k 1 j bs 0 h)
      | no h ↦ rw (le-ltb j k (omega arith)) (get_or-eq_default (bytes_at k 1 bs) 0 (omega (arith, bytes_length k 1 bs)))
    ]

pub hours_read : (k : ℕ) (bs : List ℕ)
    → first_of k (byte 1 bs ∷ byte 2 bs ∷ byte 3 bs ∷ byte 4 bs ∷ []) ≡ tabulate 4 (λ j. get_or (bytes_at k 1 bs) j 0)
unfolding tabulate
hours_read k bs = rw (hours_at k 0 bs, hours_at k 1 bs, hours_at k 2 bs, hours_at k 3 bs)

hours_of_part : (bs : List ℕ) (at to k : ℕ) → at + (k + 5) ≤ to → bytes_at k (0 + 1) (take (to - at) (drop at bs)) ≡ bytes_at k (at + 1) bs
hours_of_part bs at to k l =
    ext_get_or 0 _ _ (bytes_length k (0 + 1) _ ∙ sym (bytes_length k (at + 1) bs)) (λ j m.
    let inside : j < k = omega (arith, bytes_length k (0 + 1) (take (to - at) (drop at bs))) in
    let place : at + 1 + j ≡ at + (0 + 1 + j) = omega arith in
    bytes_entry k (0 + 1) j _ 0 inside
    ∙ byte_of_part bs at to (0 + 1 + j) (omega arith)
    ∙ sym (rw (bytes_entry k (at + 1) j bs 0 inside, place)))

-- bids, by the bytes of one of them: the part that begins at its place and ends at that of the next
module _ (bs : List ℕ) (k from : ℕ) (kinds : k ≡ k_of bs) (first : from ≡ bids_from bs) where
  abbrev pub bytes_of_bid : (i : ℕ) → List ℕ
  bytes_of_bid i = take (from + (i + 1) * (k + 5) - (from + i * (k + 5))) (drop (from + i * (k + 5)) bs)

  pub bid_room : (i : ℕ) → counts_good bs ≡ true → i < m_of bs → from + (i + 1) * (k + 5) ≤ length bs
  bid_room i two l =
      rw (kinds, first) (omega (arith, (laid bs two).bids, mul-le-mul_right {m = i + 1} {n = m_of bs} (k_of bs + 5) (omega arith)))

  pub bid_read : (i : ℕ) → i < m_of bs → bid_here k 0 (bytes_of_bid i) ≡ get_or (book_in bs).bids i no_bid
  unfolding book_in bid_here
  bid_read i l =
      let at = from + i * (k + 5) in
      let client : byte 0 (bytes_of_bid i) ≡ byte at bs = byte_of_part bs at _ 0 (omega arith) ∙ ap (λ (p : ℕ). byte p bs) (omega arith) in
      let amount : field (0 + (k + 1)) 4 (bytes_of_bid i) ≡ field (at + (k + 1)) 4 bs
      = ap (λ (p : ℕ). field p 4 (bytes_of_bid i)) (omega arith) ∙ field_of_part bs at _ (k + 1) 4 (omega arith) in
      let here : bid_here k 0 (bytes_of_bid i) ≡ bid_here k at bs
      = (λ t. record { client = client t; hours = hours_of_part bs at (from + (i + 1) * (k + 5)) k (omega arith) t; amount = amount t }) in
      here ∙ sym (rw (kinds, first) (bids_entry (m_of bs) (k_of bs) (bids_from bs) i bs no_bid l))

-- past the last
module _ (bs : List ℕ) where
  bid_past : (i : ℕ) → m_of bs ≤ i → get_or (book_in bs).bids i no_bid ≡ no_bid
  bid_past i l = get_or-eq_default (book_in bs).bids no_bid (le_trans (le_of_eq (bids_count bs)) l)

  pub client_past : (i : ℕ) → m_of bs ≤ i → (get_or (book_in bs).bids i no_bid).client ≡ 0
  unfolding no_bid
  client_past i l = ap (λ (x : Bid). x.client) (bid_past i l)

  pub amount_past : (i : ℕ) → m_of bs ≤ i → (get_or (book_in bs).bids i no_bid).amount ≡ 0
  unfolding no_bid
  amount_past i l = ap (λ (x : Bid). x.amount) (bid_past i l)

  pub hours_past : (i : ℕ) → m_of bs ≤ i → hours_entry (get_or (book_in bs).bids i no_bid).hours ≡ replicate 4 0
  unfolding no_bid hours_entry tabulate
  hours_past i l = ap (λ (x : Bid). hours_entry x.hours) (bid_past i l)

-- a list that is filled up to the last entry is the row of all
pub filled_row : {A : Type 0} {z : A} (n : ℕ) (f : ℕ → A) (i : ℕ) (xs : List A) → FilledOver z n f i xs → ((j : ℕ) → i ≤ j → f j ≡ z)
    → xs ≡ row n 0 f
filled_row {A} {z} n f i xs h past =
    ext_get_or z xs _ (h.long ∙ sym (row_length n 0 f)) (λ j l.
    let here : 0 + j ≡ j = omega arith in
    entry j ∙ sym (rw (row_at n 0 f j z (omega (arith, h.long)), here)))
  where
    entry : (j : ℕ) → get_or xs j z ≡ f j
    entry j = elim (dec_lt j i) [ yes l ↦ h.below j l | no l ↦ h.above j (omega arith) ∙ sym (past j (omega arith)) ]
