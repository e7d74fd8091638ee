-- What `read` answers, refused and accepted: the number of the first three questions, the number of the two that are put to the arrays, and
-- what a reading with a book's arrays says. Cited by the proofs of src/reading.rt. Assumes nothing.
use mathlib.Core.Path.{◌≡◌, sym, ap, ◌∙◌}
use mathlib.Core.Bool.{true, false}
use mathlib.Core.List.{List, map}
use Prim.Native.Nat.{ℕ}
use native.Mathlib.Omega.{arith}
use lib.ListN.{length, get_or, take}
use Rattle.book.specs.Book.{clients}
use Rattle.book.specs.Layout.{book_long, k_of, book_in}
use Rattle.book.specs.Questions.{version_good, counts_ranged, counts_good, tables_good, entries_refusal, book_refusal}
use Rattle.book.specs.Sound.{no_kind}
use Rattle.book.specs.Value.{zero_kind, kind_of, book_of, sound_number}
use Rattle.book.specs.Reading.{kind_entry, arrays_of, Accepted}
use Rattle.book.specs.Room.{bids_refusal}
use Rattle.book.specs.declared.value.Kind.{Kind as KindValue}
use Rattle.book.specs.declared.value.Book.{Book as Arrays}
use Rattle.book.specs.declared.reading.Reading.{Reading}
use Rattle.book.proofs.HeldTests.{entries_staged}
use Rattle.book.proofs.Inside.{room_in}
use Rattle.book.proofs.Places.{kinds_count, clients_count, bids_count}
use Rattle.book.proofs.Refusals.{ranged, counts, entries_zero}
use Rattle.book.proofs.RoundTrip.{kinds_back, arrays_back}
use Rattle.book.proofs.RowLaws.{row_length, made_row}
use Rattle.book.proofs.SoundRead.{kinds_each_in}

module _ (bs : List ℕ) where
  -- the first three questions, one after the other
  pub refused_by_one : version_good bs ≡ false → 1 ≡ book_refusal bs
  unfolding book_refusal
  refused_by_one h = rw h

  pub refused_by_two : version_good bs ≡ true → counts_good bs ≡ false → 2 ≡ book_refusal bs
  unfolding book_refusal
  refused_by_two one h = rw (one, h)

  pub refused_by_three : version_good bs ≡ true → counts_good bs ≡ true → tables_good (book_in bs) ≡ false → 3 ≡ book_refusal bs
  unfolding book_refusal entries_refusal
  refused_by_three one two h = rw (one, two, h)

-- the kinds that are kept of a value's
pub kinds_are : (bs : List ℕ) (k : ℕ) (ks : List KindValue) → counts_good bs ≡ true → k ≡ k_of bs → ks ≡ (arrays_of (book_in bs)).kinds
    → map kind_of (take k ks) ≡ (book_in bs).kinds
unfolding arrays_of
kinds_are bs k ks two ek es =
    let same : k ≡ length (book_in bs).kinds = ek ∙ sym (kinds_count bs) in
    let few = (room_in bs two).kinds in
    rw (es, same)
    (made_row kind_of zero_kind _ _ (omega (arith, few, row_length 4 0 (λ j. kind_entry (get_or (book_in bs).kinds j no_kind))))
    ∙ kinds_back (book_in bs).kinds few)

-- a value whose fields are those of a book's arrays is these
pub same_arrays : (v w : Arrays) → v.k ≡ w.k → v.kinds ≡ w.kinds → v.n ≡ w.n → v.caps ≡ w.caps → v.m ≡ w.m
    → v.client ≡ w.client → v.hours ≡ w.hours → v.amount ≡ w.amount → v ≡ w
same_arrays v w k kinds n caps m client hours amount = λ i. record {
  k = k i;
  kinds = kinds i;
  n = n i;
  caps = caps i;
  m = m i;
  client = client i;
  hours = hours i;
  amount = amount i;
}

-- questions 1 to 3 answered yes
module _ (bs : List ℕ) (one : version_good bs ≡ true) (two : counts_good bs ≡ true) (three : tables_good (book_in bs) ≡ true) where
  -- the arrays of such a book mean that book
  back : book_of (arrays_of (book_in bs)) ≡ book_in bs
  back = arrays_back (book_in bs) (room_in bs two) (kinds_each_in bs) three

  -- and the number of questions 4 and 5, put to the arrays, is that of the bytes
  pub number_is : (v : Arrays) (number : ℕ) → v ≡ arrays_of (book_in bs)
      → number ≡ bids_refusal (clients (book_of v)) (book_of v).kinds (book_of v).bids → number ≡ book_refusal bs
  unfolding book_refusal
  number_is v number held e =
      let means : book_of v ≡ book_in bs = ap book_of held ∙ back in
      e ∙ (rw (means, one, two, entries_staged (book_in bs), three))

  sound_back : book_refusal bs ≡ 0 → sound_number (arrays_of (book_in bs)) ≡ 0
  unfolding sound_number arrays_of
  sound_back h =
      let counted : counts_ranged (length (book_in bs).kinds) (clients (book_in bs)) (length (book_in bs).bids) ≡ true
      = rw (kinds_count bs, clients_count bs, bids_count bs) (ranged bs two) in
      rw (counted, back) (entries_zero bs h)

  -- so a reading with them says all that it promises
  pub accepted_is : book_refusal bs ≡ 0 → (r : Reading) → r.length ≡ book_long bs → r.book ≡ arrays_of (book_in bs) → Accepted bs r
  accepted_is h r long held = record {
    long = long;
    held = held;
    inside = omega (arith, (counts bs two).whole);
    means = ap book_of held ∙ back;
    sound = ap sound_number held ∙ sound_back h;
  }
