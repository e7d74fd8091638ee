-- A function's first values as a list, for tables by index or by set number. Cited by the contracts that answer with an array.
-- Assumes nothing.
use Rattle.std.specs.Prelude.{List, [], ◌∷◌, ℕ, zero, suc}

-- f 0, f 1, .., f (n - 1)
unfoldable pub tabulate : (n : ℕ) → (f : ℕ → ℕ) → List ℕ
tabulate zero f = []
tabulate (suc n) f = f 0 ∷ tabulate n (λ k. f (suc k))
