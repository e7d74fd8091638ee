-- Where the i-th of a run stands, and how many kinds, clients and bids the book has that bytes hold. Cited by Entered, Inside, Answering
-- and SoundRead, and by the layers above. Assumes nothing.
use mathlib.Core.Path.{◌≡◌, ap, ◌∙◌}
use mathlib.Core.List.{List}
use Prim.Native.Nat.{ℕ, zero, suc, ◌+◌, ◌*◌, ◌-◌, ◌≤◌, ◌<◌}
use native.Mathlib.Nat.{le_of_suc-le-suc}
use native.Mathlib.Omega.{arith}
use lib.ListN.{length, get_or}
use Rattle.book.specs.Bytes.{byte, bytes_at}
use Rattle.book.specs.Book.{Kind, Bid, no_bid, bid_at, clients}
use Rattle.book.specs.Layout.{k_of, n_of, m_of, statuses_from, bids_from, kind_here, kinds_in, bid_here, bids_in, book_in}
use Rattle.book.proofs.Next.{bytes_length, kinds_length, bids_length}

pub bytes_entry : (t at i : ℕ) (bs : List ℕ) (d : ℕ) → i < t → get_or (bytes_at t at bs) i d ≡ byte (at + i) bs
unfolding bytes_at
bytes_entry zero at i bs d l = absurd (omega arith)
bytes_entry (suc t) at zero bs d l = ap (λ (p : ℕ). byte p bs) (omega arith)
bytes_entry (suc t) at (suc i) bs d l = bytes_entry t (at + 1) i bs d (le_of_suc-le-suc l) ∙ ap (λ (p : ℕ). byte p bs) (omega arith)

pub kinds_entry : (t at i : ℕ) (bs : List ℕ) (d : Kind) → i < t → get_or (kinds_in t at bs) i d ≡ kind_here (at + 3 * i) bs
unfolding kinds_in
kinds_entry zero at i bs d l = absurd (omega arith)
kinds_entry (suc t) at zero bs d l = ap (λ (p : ℕ). kind_here p bs) (omega arith)
kinds_entry (suc t) at (suc i) bs d l = kinds_entry t (at + 3) i bs d (le_of_suc-le-suc l) ∙ ap (λ (p : ℕ). kind_here p bs) (omega arith)

pub bids_entry : (t k at i : ℕ) (bs : List ℕ) (d : Bid) → i < t → get_or (bids_in t k at bs) i d ≡ bid_here k (at + i * (k + 5)) bs
unfolding bids_in
bids_entry zero k at i bs d l = absurd (omega arith)
bids_entry (suc t) k at zero bs d l = ap (λ (p : ℕ). bid_here k p bs) (omega arith)
bids_entry (suc t) k at (suc i) bs d l =
    bids_entry t k (at + (k + 5)) i bs d (le_of_suc-le-suc l) ∙ ap (λ (p : ℕ). bid_here k p bs) (omega arith)

module _ (bs : List ℕ) where
  -- the bids of a book, by number
  pub bid_at_stands : (i : ℕ) → 1 ≤ i → i ≤ m_of bs → bid_at (book_in bs) i ≡ bid_here (k_of bs) (bids_from bs + (i - 1) * (k_of bs + 5)) bs
  unfolding bid_at book_in
  bid_at_stands zero l h = absurd (omega arith)
  bid_at_stands (suc i) l h =
      bids_entry (m_of bs) (k_of bs) (bids_from bs) i bs no_bid h
      ∙ ap (λ (j : ℕ). bid_here (k_of bs) (bids_from bs + j * (k_of bs + 5)) bs) (omega arith)

  -- how many there are of each
  pub clients_count : clients (book_in bs) ≡ n_of bs
  unfolding clients book_in
  clients_count = bytes_length (n_of bs) (statuses_from bs) bs

  pub kinds_count : length (book_in bs).kinds ≡ k_of bs
  unfolding book_in
  kinds_count = kinds_length (k_of bs) 4 bs

  pub bids_count : length (book_in bs).bids ≡ m_of bs
  unfolding book_in
  bids_count = bids_length (m_of bs) (k_of bs) (bids_from bs) bs
