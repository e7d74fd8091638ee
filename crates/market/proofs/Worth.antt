-- Laws of a list's worth: by smaller weights, by equal ones, by weights added up, by none, and by one entry. The files on the greatest
-- value cite them. Assumes nothing.
use mathlib.Core.Path.{◌≡◌, refl}
use mathlib.Core.List.{List, [], ◌∷◌}
use Prim.Native.Nat.{ℕ, zero, suc, ◌+◌, ◌≤◌, ◌<◌}
use native.Mathlib.Nat.{le_refl}
use native.Mathlib.Omega.{arith}
use lib.ListN.{length}
use Rattle.market.specs.Market.{at}
use Rattle.market.specs.Combination.{worth}
use Rattle.market.proofs.Each.{Each}

pub worth_le : (wt wt' : ℕ → ℕ) (is : List ℕ) → Each (λ i. wt i ≤ wt' i) is → worth wt is ≤ worth wt' is
unfolding worth
worth_le wt wt' [] e = le_refl 0
worth_le wt wt' (i ∷ is) e = omega (arith, e.0, worth_le wt wt' is e.1)

pub worth_eq : (wt wt' : ℕ → ℕ) (is : List ℕ) → Each (λ i. wt i ≡ wt' i) is → worth wt is ≡ worth wt' is
unfolding worth
worth_eq wt wt' [] e = refl
worth_eq wt wt' (i ∷ is) e = omega (arith, e.0, worth_eq wt wt' is e.1)

pub worth_add : (f g : ℕ → ℕ) (is : List ℕ) → worth (λ i. f i + g i) is ≡ worth f is + worth g is
unfolding worth
worth_add f g [] = refl
worth_add f g (i ∷ is) = omega (arith, worth_add f g is)

pub worth_zero : (wt : ℕ → ℕ) (is : List ℕ) → Each (λ i. wt i ≡ 0) is → worth wt is ≡ 0
unfolding worth
worth_zero wt [] e = refl
worth_zero wt (i ∷ is) e = omega (arith, e.0, worth_zero wt is e.1)

-- a list is worth no less than one of its entries
pub worth_one : (wt : ℕ → ℕ) (is : List ℕ) (k : ℕ) → k < length is → wt (at is k) ≤ worth wt is
unfolding worth
worth_one wt [] k l = absurd (omega arith)
worth_one wt (i ∷ is) zero l = omega arith
worth_one wt (i ∷ is) (suc k) l = omega (arith, worth_one wt is k (omega arith))
