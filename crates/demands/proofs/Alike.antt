-- Bytes that read alike up to a place: the fields, runs and books in them are the same, and a book that ends before that place passes the
-- same questions. Cut and lengthened bytes are such. Cited by the laws on reading. Assumes nothing.
use mathlib.Core.Path.{◌≡◌, refl, sym, ap, ap₂, ◌∙◌}
use mathlib.Core.Bool.{true, ◌&&◌, and-eq-true_iff}
use mathlib.Core.List.{List, ◌∷◌, ◌++◌}
use Prim.Native.Nat.{ℕ, zero, suc, ◌+◌, ◌*◌, ◌≤◌, ◌<◌}
use native.Mathlib.Omega.{arith}
use lib.Dec.{leb, ltb, eqb}
use lib.ListN.{length, take, length-take, length-append, get_or-append}
use lib.Seq.{get_or-take}
use borrow.Author.Tests.{leb-true, le-leb}
use Rattle.book.specs.Bytes.{byte, field, bytes_at}
use Rattle.book.specs.Layout.{book_long, k_of, n_of, m_of, statuses_from, bids_from, kind_here, kinds_in, bid_here, bids_in, book_in}
use Rattle.book.specs.Questions.{version_good, book_formula, counts_good, book_refusal}
use Rattle.book.proofs.Refusals.{counts, questions}

-- below N the bytes are the same, and up to N the second are as long as the first
pub record Alike (N : ℕ) (bs cs : List ℕ) : Type 0 where
  pub bytes : (i : ℕ) → i < N → byte i bs ≡ byte i cs
  pub long : (l : ℕ) → l ≤ N → l ≤ length bs → l ≤ length cs

pub alike_cut : (N : ℕ) (bs : List ℕ) → Alike N (take N bs) bs
alike_cut N bs = record { bytes = λ i l. get_or-take N bs i 0 l; long = λ l m h. omega (arith, length-take N bs) }

pub alike_whole : (N : ℕ) (bs : List ℕ) → Alike N bs (take N bs)
alike_whole N bs = record { bytes = λ i l. sym (get_or-take N bs i 0 l); long = λ l m h. omega (arith, length-take N bs) }

pub alike_longer : (bs ss : List ℕ) → Alike (length bs) bs (bs ++ ss)
alike_longer bs ss = record { bytes = λ i l. sym (get_or-append bs ss 0 i l); long = λ l m h. omega (arith, length-append bs ss) }

module _ (N : ℕ) (bs cs : List ℕ) (a : Alike N bs cs) where
  -- FIELDS AND RUNS
  pub field_alike : (at n : ℕ) → at + n ≤ N → field at n bs ≡ field at n cs
  unfolding field
  field_alike at zero l = refl
  field_alike at (suc n) l = omega (arith, field_alike at n (omega arith), a.bytes (at + n) (omega arith))

  bytes_alike : (t at : ℕ) → at + t ≤ N → bytes_at t at bs ≡ bytes_at t at cs
  unfolding bytes_at
  bytes_alike zero at l = refl
  bytes_alike (suc t) at l = ap₂ ◌∷◌ (a.bytes at (omega arith)) (bytes_alike t (at + 1) (omega arith))

  kind_alike : (at : ℕ) → at + 3 ≤ N → kind_here at bs ≡ kind_here at cs
  unfolding kind_here
  kind_alike at l = λ j. record { supply = a.bytes at (omega arith) j; reserve = field_alike (at + 1) 2 (omega arith) j }

  kinds_alike : (t at : ℕ) → at + 3 * t ≤ N → kinds_in t at bs ≡ kinds_in t at cs
  unfolding kinds_in
  kinds_alike zero at l = refl
  kinds_alike (suc t) at l = ap₂ ◌∷◌ (kind_alike at (omega arith)) (kinds_alike t (at + 3) (omega arith))

  bid_alike : (k at : ℕ) → at + (k + 5) ≤ N → bid_here k at bs ≡ bid_here k at cs
  unfolding bid_here
  bid_alike k at l = λ j. record {
    client = a.bytes at (omega arith) j;
    hours = bytes_alike k (at + 1) (omega arith) j;
    amount = field_alike (at + (k + 1)) 4 (omega arith) j;
  }

  bids_alike : (t k at : ℕ) → at + t * (k + 5) ≤ N → bids_in t k at bs ≡ bids_in t k at cs
  unfolding bids_in
  bids_alike zero k at l = refl
  bids_alike (suc t) k at l = ap₂ ◌∷◌ (bid_alike k at (omega arith)) (bids_alike t k (at + (k + 5)) (omega arith))

-- question 1
pub version_alike : (N : ℕ) (bs cs : List ℕ) → Alike N bs cs → 3 ≤ N → version_good bs ≡ true → version_good cs ≡ true
unfolding version_good
version_alike N bs cs a l h =
    let (there, first) = (and-eq-true_iff (leb 3 (length bs)) (eqb (byte 0 bs) 1)).0 h in
    ap₂ ◌&&◌ (le-leb 3 (length cs) (a.long 3 l (leb-true 3 (length bs) there)))
    (ap (λ (x : ℕ). eqb x 1) (sym (a.bytes 0 (omega arith))) ∙ first)

-- A BOOK that ends before that place
module _ (N : ℕ) (bs cs : List ℕ) (a : Alike N bs cs) (ends : book_formula (k_of bs) (n_of bs) (m_of bs) ≤ N) where
  k_alike : k_of bs ≡ k_of cs
  unfolding k_of book_formula
  k_alike = a.bytes 3 (omega arith)

  n_alike : n_of bs ≡ n_of cs
  unfolding n_of book_formula
  n_alike = a.bytes (4 + 3 * k_of bs) (omega arith) ∙ ap (λ (k : ℕ). byte (4 + 3 * k) cs) k_alike

  m_alike : m_of bs ≡ m_of cs
  unfolding m_of book_formula
  m_alike =
      a.bytes (5 + 3 * k_of bs + n_of bs) (omega arith)
      ∙ ap₂ (λ (k n : ℕ). byte (5 + 3 * k + n) cs) k_alike n_alike

  pub book_long_alike : book_long bs ≡ book_long cs
  unfolding book_long book_formula
  book_long_alike = field_alike N bs cs a 1 2 (omega arith)

  pub book_alike : book_in bs ≡ book_in cs
  unfolding book_in statuses_from bids_from book_formula
  book_alike = λ j. record {
    kinds = (kinds_alike N bs cs a (k_of bs) 4 (omega arith) ∙ ap (λ (k : ℕ). kinds_in k 4 cs) k_alike) j;
    statuses =
        (bytes_alike N bs cs a (n_of bs) (5 + 3 * k_of bs) (omega arith)
        ∙ ap₂ (λ (k n : ℕ). bytes_at n (5 + 3 * k) cs) k_alike n_alike) j;
    bids =
        (bids_alike N bs cs a (m_of bs) (k_of bs) (6 + 3 * k_of bs + n_of bs) (omega arith)
        ∙ ap₂ (λ (k n : ℕ). bids_in (m_of bs) k (6 + 3 * k + n) cs) k_alike n_alike
        ∙ ap (λ (m : ℕ). bids_in m (k_of cs) (6 + 3 * k_of cs + n_of cs) cs) m_alike) j;
  }

  pub counts_alike : counts_good bs ≡ true → counts_good cs ≡ true
  unfolding counts_good
  counts_alike h =
      let (inside, ranges) = (and-eq-true_iff (leb (book_long bs) (length bs) && ltb (5 + 3 * k_of bs + n_of bs) (book_long bs)) _).0 h in
      let (there, before) = (and-eq-true_iff (leb (book_long bs) (length bs)) _).0 inside in
      let c = counts bs h in
      rw (← book_long_alike, ← k_alike, ← n_alike, ← m_alike)
      (ap₂ ◌&&◌ (ap₂ ◌&&◌ (le-leb _ _ (a.long (book_long bs) (omega (arith, c.formula)) c.whole)) before) ranges)

  -- what reads like a sound book, as far as the book goes, is a sound book
  pub sound_alike : book_refusal bs ≡ 0 → book_refusal cs ≡ 0
  unfolding book_refusal book_formula
  sound_alike h =
      let q = questions bs h in
      rw (version_alike N bs cs a (omega arith) q.one, counts_alike q.two, ← book_alike)
      (rw (q.one, q.two) at h)
