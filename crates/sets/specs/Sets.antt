-- Sets of numbers below w, each written as one number below 2 ^ w: bit k of the set's number stands for member k. Cited by every
-- statement on sets of winners. Assumes nothing.
use Rattle.std.specs.Prelude.{Bool, cond, ℕ, zero, suc, ◌+◌, ◌*◌, ◌-◌, ◌/◌, ◌%◌, ◌^◌, eqb}
use Rattle.sets.specs.Sums.{sum}

-- whether k is a member
unfoldable pub has : (set k : ℕ) → Bool
has s k = eqb (s / 2 ^ k % 2) 1

-- the sum of f over the members
unfoldable pub sum_in : (w set : ℕ) → (f : ℕ → ℕ) → ℕ
sum_in w s f = sum w (λ k. cond (has s k) (f k) 0)

-- the sum of f over the non-empty sets, 1 .. 2 ^ w - 1
unfoldable pub over_sets : (w : ℕ) → (f : ℕ → ℕ) → ℕ
over_sets w f = sum (2 ^ w - 1) (λ i. f (suc i))

-- the sum of f over the sets that hold k
unfoldable pub holding : (w k : ℕ) → (f : ℕ → ℕ) → ℕ
holding w k f = over_sets w (λ s. cond (has s k) (f s) 0)

-- the set whose one member is k
unfoldable pub single : ℕ → ℕ
single k = 2 ^ k

-- the set of the k below w with p k
unfoldable pub set_of : (w : ℕ) → (p : ℕ → Bool) → ℕ
set_of zero p = 0
set_of (suc w) p = cond (p 0) 1 0 + 2 * set_of w (λ k. p (suc k))
