-- A book that bytes hold: each of its bids asks of each kind, and it is sound where its bytes are refused by no question. Cited by
-- Answering and by the layers above. Assumes nothing.
use mathlib.Core.Path.{◌≡◌, sym, ap, ◌∙◌}
use mathlib.Core.List.{List}
use Prim.Native.Nat.{ℕ, ◌-◌, ◌+◌, ◌*◌}
use native.Mathlib.Nat.{le_trans, le_of_eq}
use native.Mathlib.Omega.{arith}
use lib.ListN.{length}
use Rattle.book.specs.Book.{Bid, clients}
use Rattle.book.specs.Layout.{k_of, bids_from, bid_here, book_in}
use Rattle.book.specs.Questions.{book_refusal}
use Rattle.book.specs.Sound.{Sound, Shaped}
use Rattle.book.proofs.Next.{bytes_length}
use Rattle.book.proofs.Places.{kinds_count, clients_count, bids_count, bid_at_stands}
use Rattle.book.proofs.Soundness.{Counted, KindsEach, shaped_each, sound_book}
use Rattle.book.proofs.Refusals.{sound_counts, entries_zero}

module _ (bs : List ℕ) where
  pub kinds_each_in : KindsEach (book_in bs)
  unfolding bid_here
  kinds_each_in i l k =
      ap (λ (x : Bid). length x.hours) (bid_at_stands bs i l (le_trans k (le_of_eq (bids_count bs))))
      ∙ bytes_length (k_of bs) (bids_from bs + (i - 1) * (k_of bs + 5) + 1) bs
      ∙ sym (kinds_count bs)

  pub shaped_in : Shaped (book_in bs)
  shaped_in = shaped_each (book_in bs) kinds_each_in

  pub sound_in : book_refusal bs ≡ 0 → Sound (book_in bs)
  sound_in h =
      let c = sound_counts bs h in
      let counted : Counted (length (book_in bs).kinds) (clients (book_in bs)) (length (book_in bs).bids) = record {
        k_low = omega (arith, kinds_count bs, c.k_range);
        k_high = omega (arith, kinds_count bs, c.k_range);
        n_low = omega (arith, clients_count bs, c.n_range);
        n_high = omega (arith, clients_count bs, c.n_range);
        m_high = omega (arith, bids_count bs, c.m_high);
      } in
      sound_book (book_in bs) counted kinds_each_in (entries_zero bs h)
