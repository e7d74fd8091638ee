-- The counts of each client's bids held to the limit, client by client. Cited by the proofs of src/limit.rt. Assumes nothing.
use mathlib.Core.Path.{◌≡◌, refl, sym, ap, ap₂, ◌∙◌}
use mathlib.Core.Bool.{Bool, true, false, ◌&&◌, cond, true≢false}
use mathlib.Core.List.{List, [], ◌∷◌}
use Prim.Native.Nat.{ℕ, zero, suc, ◌+◌, ◌≤◌, ◌<◌, min}
use native.Mathlib.Decide.{dec_lt}
use native.Mathlib.Omega.{arith}
use lib.Dec.{leb, eqb}
use lib.ListN.{length, get_or, take}
use mir.Val.{bool_byte}
use borrow.Author.Tests.{le-leb, lt-leb}
use Rattle.std.proofs.Common.{sum_by}
use Rattle.std.proofs.lemmas.List.Sums.{sum_by-cons}
use Rattle.book.specs.Lists.{all_to, count, row}
use Rattle.book.specs.Book.{clients}
use Rattle.book.specs.Questions.{bids_of, few_bids}
use Rattle.book.specs.Value.{bid_held, book_of}
use Rattle.book.specs.Room.{named}
use Rattle.book.specs.declared.value.Book.{Book as Arrays}
use Rattle.book.proofs.Held.{held_clients}
use Rattle.book.proofs.RowLaws.{taken_row}
use Rattle.book.proofs.Tests.{all_to_true, true_all_to}
use Rattle.book.proofs.Lists.{no_more}

-- a sum of ones is a count
pub ones_counted : (p : ℕ → Bool) (xs : List ℕ) → sum_by (λ x. bool_byte (p x)) xs ≡ count p xs
unfolding count
ones_counted p [] = refl
ones_counted p (x ∷ xs) =
    sum_by-cons (λ y. bool_byte (p y)) x xs ∙ ap₂ (λ (m n : ℕ). m + n) (one_is (p x)) (ones_counted p xs)
  where
    one_is : (b : Bool) → bool_byte b ≡ cond b 1 0
    one_is true = refl
    one_is false = refl

-- a client is named at most eight times
unfoldable pub few_named : List ℕ → (client : ℕ) → Bool
few_named cs c = leb (named c cs) 8

-- a client's count against the limit
pub few_under : (cs : List ℕ) (c n : ℕ) → n ≡ named c cs → n ≤ 8 → few_named cs c ≡ true
unfolding few_named
few_under cs c n e l = le-leb (named c cs) 8 (omega arith)

pub few_over : (cs : List ℕ) (c n : ℕ) → n ≡ named c cs → 8 < n → few_named cs c ≡ false
unfolding few_named
few_over cs c n e l = lt-leb (named c cs) 8 (omega arith)

-- a test of each client up to one, of one more, and of all; and the first that has too many bids
pub few_more : (p : ℕ → Bool) (i : ℕ) → ((c : ℕ) → 1 ≤ c → c < i → p c ≡ true) → p i ≡ true → (c : ℕ) → 1 ≤ c → c < i + 1 → p c ≡ true
few_more p i h e c l k = elim (dec_lt c i) [ yes m ↦ h c l m | no m ↦ let q : c ≡ i = omega arith in rw q e ]

pub few_passed : (p : ℕ → Bool) (n i : ℕ) → n < i → ((c : ℕ) → 1 ≤ c → c < i → p c ≡ true) → true ≡ all_to n p
few_passed p n i l h = sym (true_all_to p n (λ c k m. h c k (omega arith)))

pub one_over : (p : ℕ → Bool) (n c : ℕ) → 1 ≤ c → c ≤ n → p c ≡ false → false ≡ all_to n p
one_over p n c l k e = sym (no_more (all_to n p) (λ h. true≢false (sym (all_to_true p n h c l k) ∙ e)))

all_to_same : (p q : ℕ → Bool) → ((c : ℕ) → p c ≡ q c) → (n : ℕ) → all_to n p ≡ all_to n q
unfolding all_to
all_to_same p q h zero = refl
all_to_same p q h (suc n) = ap₂ ◌&&◌ (all_to_same p q h n) (h (suc n))

module _ (cs : List ℕ) (k : ℕ) (hs : List (List ℕ)) (xs : List ℕ) where
  -- how often a client is named is how many bids it has
  times_bids : (c t i : ℕ) → count (λ x. eqb x c) (row t i (λ j. get_or cs j 0)) ≡ bids_of c (row t i (bid_held k cs hs xs))
  unfolding bids_of count row bid_held
  times_bids c zero i = refl
  times_bids c (suc t) i = ap (λ (s : ℕ). cond (eqb (get_or cs i 0) c) 1 0 + s) (times_bids c t (i + 1))

  pub few_for_bids : (n m : ℕ) → m ≤ length cs → all_to n (few_named (take m cs)) ≡ all_to n (few_bids (row m 0 (bid_held k cs hs xs)))
  unfolding few_named few_bids named
  few_for_bids n m l =
      all_to_same _ _ (λ c. ap (λ (s : ℕ). leb s 8) (ap (count (λ x. eqb x c)) (taken_row 0 m cs l) ∙ times_bids c m 0)) n

-- the same of a book that is a value
pub few_held : (v : Arrays) (m n : ℕ) → m ≡ min v.m 48 → n ≡ min v.n 6 → 48 ≤ length v.client
    → all_to n (few_named (take m v.client)) ≡ all_to (clients (book_of v)) (few_bids (book_of v).bids)
unfolding book_of
few_held v m n em en l =
    rw (em, en, held_clients v) (few_for_bids v.client (min v.k 4) v.hours v.amount (min v.n 6) (min v.m 48) (omega arith))
