-- The laws of sums over an index: term by term, with factors, split, exchanged. Cited by the laws of sets and by the laws of prices.
-- Assumes nothing.
use mathlib.Core.Path.{◌≡◌, refl, sym, ap, ◌∙◌}
use mathlib.Core.Logic.{◌≢◌, inl, inr}
use Prim.Native.Nat.{ℕ, zero, suc, ◌+◌, ◌*◌, ◌≤◌, ◌<◌}
use native.Mathlib.Nat.{add-zero, add-suc, mul-zero, le_refl, eq-or-lt_of_le, eq-zero-or-pos, le_of_suc-le-suc, not-suc-le-zero}
use native.Mathlib.Omega.{arith}
use Rattle.sets.specs.Sums.{sum}

-- TERM BY TERM
pub sum_ext : (n : ℕ) (f g : ℕ → ℕ) → ((k : ℕ) → k < n → f k ≡ g k) → sum n f ≡ sum n g
unfolding sum
sum_ext zero f g h = refl
sum_ext (suc n) f g h = omega (arith, sum_ext n f g (λ k l. h k (omega arith)), h n (le_refl (suc n)))

pub sum_le : (n : ℕ) (f g : ℕ → ℕ) → ((k : ℕ) → k < n → f k ≤ g k) → sum n f ≤ sum n g
unfolding sum
sum_le zero f g h = le_refl 0
sum_le (suc n) f g h = omega (arith, sum_le n f g (λ k l. h k (omega arith)), h n (le_refl (suc n)))

pub sum_zero : (n : ℕ) (f : ℕ → ℕ) → ((k : ℕ) → k < n → f k ≡ 0) → sum n f ≡ 0
unfolding sum
sum_zero zero f h = refl
sum_zero (suc n) f h = omega (arith, sum_zero n f (λ k l. h k (omega arith)), h n (le_refl (suc n)))

pub sum_add : (n : ℕ) (f g : ℕ → ℕ) → sum n (λ k. f k + g k) ≡ sum n f + sum n g
unfolding sum
sum_add zero f g = refl
sum_add (suc n) f g = omega (arith, sum_add n f g)

pub sum_mul : (n c : ℕ) (f : ℕ → ℕ) → sum n (λ k. c * f k) ≡ c * sum n f
unfolding sum
sum_mul zero c f = sym (mul-zero c)
sum_mul (suc n) c f = omega (arith, sum_mul n c f)

-- ONE TERM
pub term_le : (n : ℕ) (f : ℕ → ℕ) (k : ℕ) → k < n → f k ≤ sum n f
unfolding sum
term_le zero f k l = omega arith
term_le (suc n) f k l =
    elim (eq-or-lt_of_le (le_of_suc-le-suc l)) [ inl e ↦ omega (arith, ap f e) | inr h ↦ omega (arith, term_le n f k h) ]

pub term_zero : (n : ℕ) (f : ℕ → ℕ) → sum n f ≡ 0 → (k : ℕ) → k < n → f k ≡ 0
term_zero n f e k l = omega (arith, term_le n f k l)

-- a sum that is not zero has a term that is not zero
pub term_positive : (n : ℕ) (f : ℕ → ℕ) → 1 ≤ sum n f → (k : ℕ) × (k < n) × (1 ≤ f k)
unfolding sum
term_positive zero f h = absurd (not-suc-le-zero h)
term_positive (suc n) f h =
    elim (eq-zero-or-pos (f n)) [ inl e ↦ earlier (term_positive n f (omega arith)) | inr l ↦ (n, le_refl (suc n), l) ]
  where
    earlier : (k : ℕ) × (k < n) × (1 ≤ f k) → (k : ℕ) × (k < suc n) × (1 ≤ f k)
    earlier t = (t.0, omega arith, t.2)

-- all terms but one are zero
pub sum_one : (n : ℕ) (f : ℕ → ℕ) (j : ℕ) → j < n → ((k : ℕ) → k < n → k ≢ j → f k ≡ 0) → sum n f ≡ f j
unfolding sum
sum_one zero f j l h = omega arith
sum_one (suc n) f j l h =
    elim (eq-or-lt_of_le (le_of_suc-le-suc l)) [
      | inl e ↦ omega (arith, sum_zero n f (λ k m. h k (omega arith) (omega arith)), ap f e)
      | inr m ↦ omega (arith, sum_one n f j m (λ k o. h k (omega arith)), h n (le_refl (suc n)) (omega arith))
    ]

-- equal sums of terms of which none is above its partner are equal term by term
pub sum_tight : (n : ℕ) (f g : ℕ → ℕ) → ((k : ℕ) → k < n → f k ≤ g k) → sum n g ≤ sum n f → (k : ℕ) → k < n → f k ≡ g k
unfolding sum
sum_tight zero f g h e k l = omega arith
sum_tight (suc n) f g h e k l =
    elim (eq-or-lt_of_le (le_of_suc-le-suc l)) [
      | inl m ↦ omega (arith, ap f m, ap g m, below, h n (le_refl (suc n)))
      | inr m ↦ sum_tight n f g (λ i o. h i (omega arith)) (omega (arith, h n (le_refl (suc n)))) k m
    ]
  where
    below : sum n f ≤ sum n g
    below = sum_le n f g (λ i o. h i (omega arith))

-- TWO PARTS, TWO SUMS
pub sum_front : (n : ℕ) (f : ℕ → ℕ) → sum (suc n) f ≡ f 0 + sum n (λ i. f (suc i))
unfolding sum
sum_front zero f = omega arith
sum_front (suc n) f = omega (arith, sum_front n f)

pub sum_append : (m n : ℕ) (f : ℕ → ℕ) → sum (m + n) f ≡ sum m f + sum n (λ i. f (m + i))
unfolding sum
sum_append m zero f = ap (λ (k : ℕ). sum k f) (add-zero m) ∙ sym (add-zero (sum m f))
sum_append m (suc n) f = ap (λ (k : ℕ). sum k f) (add-suc m n) ∙ omega (arith, sum_append m n f)

pub sum_swap : (m n : ℕ) (f : ℕ → ℕ → ℕ) → sum m (λ i. sum n (f i)) ≡ sum n (λ j. sum m (λ i. f i j))
unfolding sum
sum_swap zero n f = sym (sum_zero n (λ j. 0) (λ k l. refl))
sum_swap (suc m) n f = omega (arith, sum_swap m n f, sum_add n (λ j. sum m (λ i. f i j)) (f m))
