-- Tests taken apart and put together: what it means that a test of a range, or of all, is true, both ways. Cited by Soundness and by the
-- layers above. Assumes nothing.
use mathlib.Core.Path.{◌≡◌, refl, ap₂}
use mathlib.Core.Bool.{Bool, true, ◌&&◌, and-eq-true_iff}
use mathlib.Core.List.{List, [], ◌∷◌}
use mathlib.Core.Logic.{inl, inr}
use Prim.Native.Nat.{ℕ, zero, suc, ◌≤◌, ◌<◌}
use native.Mathlib.Nat.{le_of_suc-le-suc, eq-or-lt_of_le}
use native.Mathlib.Omega.{arith}
use lib.Dec.{leb}
use lib.ListN.{length, get_or}
use borrow.Author.Tests.{leb-true, le-leb}
use Rattle.book.specs.Lists.{within, all, all_to}

pub within_true : (low x high : ℕ) → within low x high ≡ true → (low ≤ x) × (x ≤ high)
unfolding within
within_true low x high h =
    let p = (and-eq-true_iff (leb low x) (leb x high)).0 h in
    (leb-true low x p.0, leb-true x high p.1)

pub true_within : (low x high : ℕ) → low ≤ x → x ≤ high → within low x high ≡ true
unfolding within
true_within low x high h k = ap₂ ◌&&◌ (le-leb low x h) (le-leb x high k)

module _ {A : Type 0} (p : A → Bool) (d : A) where
  pub all_true : (xs : List A) → all p xs ≡ true → (i : ℕ) → i < length xs → p (get_or xs i d) ≡ true
  unfolding all
  all_true [] h i l = absurd (omega arith)
  all_true (x ∷ xs) h zero l = ((and-eq-true_iff (p x) (all p xs)).0 h).0
  all_true (x ∷ xs) h (suc i) l = all_true xs ((and-eq-true_iff (p x) (all p xs)).0 h).1 i (le_of_suc-le-suc l)

  pub true_all : (xs : List A) → ((i : ℕ) → i < length xs → p (get_or xs i d) ≡ true) → all p xs ≡ true
  unfolding all
  true_all [] h = refl
  true_all (x ∷ xs) h = ap₂ ◌&&◌ (h zero (omega arith)) (true_all xs (λ i l. h (suc i) (omega arith)))

pub all_to_true : (p : ℕ → Bool) (n : ℕ) → all_to n p ≡ true → (c : ℕ) → 1 ≤ c → c ≤ n → p c ≡ true
unfolding all_to
all_to_true p zero h c l k = absurd (omega arith)
all_to_true p (suc n) h c l k =
    let q = (and-eq-true_iff (all_to n p) (p (suc n))).0 h in
    elim (eq-or-lt_of_le k) [ inl e ↦ rw e q.1 | inr m ↦ all_to_true p n q.0 c l (le_of_suc-le-suc m) ]

pub true_all_to : (p : ℕ → Bool) (n : ℕ) → ((c : ℕ) → 1 ≤ c → c ≤ n → p c ≡ true) → all_to n p ≡ true
unfolding all_to
true_all_to p zero h = refl
true_all_to p (suc n) h = ap₂ ◌&&◌ (true_all_to p n (λ c l k. h c l (omega arith))) (h (suc n) (omega arith) (omega arith))
