-- The sum of a function over the numbers below a bound. Cited by every statement that adds something up, over winners or over sets.
-- Assumes nothing.
use Rattle.std.specs.Prelude.{ℕ, zero, suc, ◌+◌}

-- f 0 + f 1 + .. + f (n - 1)
unfoldable pub sum : (n : ℕ) → (f : ℕ → ℕ) → ℕ
sum zero f = 0
sum (suc n) f = sum n f + f n
