-- Where question 2 is answered yes, a book's counts have room in the arrays, and its statuses and bids stand inside the bytes; and what a
-- part of the bytes holds. Cited by the proofs of src/layout.rt and src/filling.rt, and by Entered and Answering. Assumes nothing.
use mathlib.Core.Path.{◌≡◌, refl, ap, ◌∙◌}
use mathlib.Core.Bool.{true}
use mathlib.Core.List.{List, ◌∷◌}
use Prim.Native.Nat.{ℕ, zero, suc, ◌+◌, ◌*◌, ◌-◌, ◌≤◌, ◌<◌}
use native.Mathlib.Numerals.{add-one}
use native.Mathlib.Omega.{arith}
use lib.ListN.{length, get_or, take, drop}
use lib.Seq.{drop-cons}
use Rattle.std.proofs.lemmas.List.{get_or-take, get_or-drop}
use Rattle.book.specs.Bytes.{byte, field, bytes_at}
use Rattle.book.specs.Book.{clients}
use Rattle.book.specs.Layout.{k_of, n_of, m_of, statuses_from, bids_from, book_in}
use Rattle.book.specs.Questions.{book_formula, counts_good}
use Rattle.book.proofs.Places.{kinds_count, clients_count, bids_count}
use Rattle.book.proofs.Refusals.{counts}
use Rattle.book.proofs.RoundTrip.{Room}

pub record LayoutInside (bs : List ℕ) : Type 0 where
  pub room : Room (k_of bs) (n_of bs) (m_of bs)
  pub statuses : statuses_from bs + n_of bs ≤ length bs
  pub bids : bids_from bs + m_of bs * (k_of bs + 5) ≤ length bs

module _ (bs : List ℕ) (two : counts_good bs ≡ true) where
  pub laid : LayoutInside bs
  unfolding book_formula statuses_from bids_from
  laid =
      let c = counts bs two in
      record {
        room = record { kinds = c.k_range.1; clients = c.n_range.1; bids = c.m_high };
        statuses = omega (arith, c.whole, c.formula);
        bids = omega (arith, c.whole, c.formula);
      }

  pub room_in : Room (length (book_in bs).kinds) (clients (book_in bs)) (length (book_in bs).bids)
  room_in = rw (kinds_count bs, clients_count bs, bids_count bs) laid.room

-- n bytes from a place on, as a part
pub bytes_taken : (n at : ℕ) (bs : List ℕ) → at + n ≤ length bs → take n (drop at bs) ≡ bytes_at n at bs
unfolding bytes_at
bytes_taken zero at bs l = refl
bytes_taken (suc n) at bs l =
    let here : at < length bs = omega arith in
    rw (drop-cons bs at 0 here, ← add-one at) (ap (λ (xs : List ℕ). get_or bs at 0 ∷ xs) (bytes_taken n (at + 1) bs (omega arith)))

-- a byte of a part, and a number in it
module _ (bs : List ℕ) (from to : ℕ) where
  pub byte_of_part : (j : ℕ) → from + j < to → byte j (take (to - from) (drop from bs)) ≡ byte (from + j) bs
  byte_of_part j l = get_or-take (to - from) (drop from bs) j 0 (omega arith) ∙ get_or-drop from bs j 0

  pub field_of_part : (j n : ℕ) → from + j + n ≤ to → field j n (take (to - from) (drop from bs)) ≡ field (from + j) n bs
  unfolding field
  field_of_part j zero l = refl
  field_of_part j (suc n) l =
      let place : from + (j + n) ≡ from + j + n = omega arith in
      let last : byte (j + n) (take (to - from) (drop from bs)) ≡ byte (from + j + n) bs
      = rw place at (byte_of_part (j + n) (omega arith)) in
      omega (arith, field_of_part j n (omega arith), last)
