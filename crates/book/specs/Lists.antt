-- Tests and sums over lists, in which the questions are put. Assumes nothing: these are definitions.
use Rattle.std.specs.Prelude.{Bool, true, ◌&&◌, cond, List, [], ◌∷◌, ℕ, zero, suc, ◌+◌, leb}

-- x is from low to high, both counted in
unfoldable pub within : (low x high : ℕ) → Bool
within low x high = leb low x && leb x high

module _ {A : Type 0} where
  -- p is true of each
  unfoldable pub all : (A → Bool) → List A → Bool
  all p [] = true
  all p (x ∷ xs) = p x && all p xs

  -- of how many p is true
  unfoldable pub count : (A → Bool) → List A → ℕ
  count p [] = 0
  count p (x ∷ xs) = cond (p x) 1 0 + count p xs

  -- f i, f (i + 1), .., n of them
  unfoldable pub row : (n i : ℕ) → (f : ℕ → A) → List A
  row zero i f = []
  row (suc n) i f = f i ∷ row n (i + 1) f

-- p is true of each number from 1 to n
unfoldable pub all_to : (n : ℕ) → (ℕ → Bool) → Bool
all_to zero p = true
all_to (suc n) p = all_to n p && p (suc n)

unfoldable pub total : List ℕ → ℕ
total [] = 0
total (x ∷ xs) = x + total xs
