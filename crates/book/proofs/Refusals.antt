-- What the questions say of a book's bytes: the five yeses where none refuses them, the plain facts of question 2, how long a book can be,
-- and that it ends inside the bytes. Cited by the proofs of src/ and by the layers above. Assumes nothing.
use mathlib.Core.Path.{◌≡◌, refl}
use mathlib.Core.Bool.{Bool, true, false, ◌&&◌, not, cond, and-eq-true_iff}
use mathlib.Core.List.{List}
use Prim.Native.Nat.{ℕ, ◌+◌, ◌*◌, ◌≤◌}
use native.Mathlib.Omega.{arith}
use lib.Dec.{leb, ltb}
use lib.ListN.{length}
use borrow.Author.Tests.{leb-true, eqb-true}
use Rattle.book.specs.Layout.{book_long, k_of, n_of, m_of, book_in}
use Rattle.book.specs.Questions.{
  version_good,
  book_formula,
  counts_ranged,
  counts_good,
  tables_good,
  bids_good,
  amounts_good,
  entries_refusal,
  book_refusal,
}
use Rattle.book.proofs.Products.{product_most}
use Rattle.book.proofs.Soundness.{counted}

-- five questions in a row, of which none is answered no
pub record Five (a b c d e : Bool) : Type 0 where
  pub one : a ≡ true
  pub two : b ≡ true
  pub three : c ≡ true
  pub four : d ≡ true
  pub five : e ≡ true

five_yes : (a b c d e : Bool)
    → ◌≡◌ {A = ℕ} (cond (not a) 1 (cond (not b) 2 (cond (not c) 3 (cond (not d) 4 (cond (not e) 5 0))))) 0 → Five a b c d e
five_yes true true true true true h = record { one = refl; two = refl; three = refl; four = refl; five = refl }
five_yes true true true true false h = absurd (omega arith)
five_yes true true true false e h = absurd (omega arith)
five_yes true true false d e h = absurd (omega arith)
five_yes true false c d e h = absurd (omega arith)
five_yes false b c d e h = absurd (omega arith)

pub questions : (bs : List ℕ) → book_refusal bs ≡ 0
    → Five (version_good bs) (counts_good bs) (tables_good (book_in bs)) (bids_good (book_in bs)) (amounts_good (book_in bs))
unfolding book_refusal entries_refusal
questions bs h = five_yes _ _ _ _ _ h

-- question 2 as plain facts
pub record Counts (bs : List ℕ) : Type 0 where
  pub whole : book_long bs ≤ length bs
  pub k_range : (1 ≤ k_of bs) × (k_of bs ≤ 4)
  pub n_range : (1 ≤ n_of bs) × (n_of bs ≤ 6)
  pub m_high : m_of bs ≤ 48
  pub formula : book_long bs ≡ book_formula (k_of bs) (n_of bs) (m_of bs)

module _ (bs : List ℕ) (h : counts_good bs ≡ true) where
  pub ranged : counts_ranged (k_of bs) (n_of bs) (m_of bs) ≡ true
  unfolding counts_good
  ranged =
      let inside = leb (book_long bs) (length bs) && ltb (5 + 3 * k_of bs + n_of bs) (book_long bs) in
      let right = ((and-eq-true_iff inside _).0 h).1 in
      ((and-eq-true_iff (counts_ranged (k_of bs) (n_of bs) (m_of bs)) _).0 right).0

  pub counts : Counts bs
  unfolding counts_good
  counts =
      let p = (and-eq-true_iff (leb (book_long bs) (length bs) && ltb (5 + 3 * k_of bs + n_of bs) (book_long bs)) _).0 h in
      let c = counted (k_of bs) (n_of bs) (m_of bs) ranged in
      record {
        whole = leb-true _ _ ((and-eq-true_iff (leb (book_long bs) (length bs)) _).0 p.0).0;
        k_range = (c.k_low, c.k_high);
        n_range = (c.n_low, c.n_high);
        m_high = c.m_high;
        formula = eqb-true _ _ ((and-eq-true_iff (counts_ranged (k_of bs) (n_of bs) (m_of bs)) _).0 p.1).1;
      }

module _ (bs : List ℕ) (h : book_refusal bs ≡ 0) where
  pub sound_counts : Counts bs
  sound_counts = counts bs (questions bs h).two

  pub entries_zero : entries_refusal (book_in bs) ≡ 0
  unfolding book_refusal
  entries_zero = let q = questions bs h in rw (q.one, q.two) at h

  -- a book that is not refused ends inside the bytes, and has at most 456 of them
  pub book_inside : book_long bs ≤ length bs
  book_inside = sound_counts.whole

  pub longest_book : book_long bs ≤ 456
  unfolding book_formula
  longest_book =
      let c = sound_counts in
      omega (arith, c.formula, product_most 48 9 (m_of bs) (k_of bs + 5) c.m_high (omega (arith, c.k_range)))
