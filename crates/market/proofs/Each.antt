-- What holds of every entry of a list, and of every two: said by recursion on the list (Each, Pairwise), and by index as the definitions
-- say it. The files on combinations cite it. Assumes nothing.
use mathlib.Core.List.{List, [], ◌∷◌}
use Prim.Native.Nat.{ℕ, zero, suc, ◌<◌}
use native.Mathlib.Nat.{le_of_suc-le-suc, not-suc-le-zero}
use native.Mathlib.Omega.{arith}
use lib.ListN.{length}
use Rattle.market.specs.Market.{at}

-- P holds of each entry
abbrev pub Each : (P : ℕ → Type 0) → List ℕ → Type 0
Each P [] = Unit {0}
Each P (i ∷ is) = P i × Each P is

-- R holds of each entry and each later one
abbrev pub Pairwise : (R : ℕ → ℕ → Type 0) → List ℕ → Type 0
Pairwise R [] = Unit {0}
Pairwise R (i ∷ is) = Each (R i) is × Pairwise R is

pub each_at : (P : ℕ → Type 0) (is : List ℕ) → Each P is → (k : ℕ) → k < length is → P (at is k)
each_at P [] e k l = absurd (not-suc-le-zero l)
each_at P (i ∷ is) e zero l = e.0
each_at P (i ∷ is) e (suc k) l = each_at P is e.1 k (le_of_suc-le-suc l)

pub each_if : (P : ℕ → Type 0) (is : List ℕ) → ((k : ℕ) → k < length is → P (at is k)) → Each P is
each_if P [] h = tt
each_if P (i ∷ is) h = (h 0 (omega arith), each_if P is (λ k l. h (suc k) (omega arith)))

pub each_map : (P Q : ℕ → Type 0) → ((i : ℕ) → P i → Q i) → (is : List ℕ) → Each P is → Each Q is
each_map P Q f [] e = tt
each_map P Q f (i ∷ is) e = (f i e.0, each_map P Q f is e.1)

pub pairwise_at : (R : ℕ → ℕ → Type 0) (is : List ℕ) → Pairwise R is → (j k : ℕ) → j < k → k < length is → R (at is j) (at is k)
pairwise_at R [] e j k b l = absurd (not-suc-le-zero l)
pairwise_at R (i ∷ is) e j zero b l = absurd (not-suc-le-zero b)
pairwise_at R (i ∷ is) e zero (suc k) b l = each_at (R i) is e.0 k (le_of_suc-le-suc l)
pairwise_at R (i ∷ is) e (suc j) (suc k) b l = pairwise_at R is e.1 j k (le_of_suc-le-suc b) (le_of_suc-le-suc l)

pub pairwise_if : (R : ℕ → ℕ → Type 0) (is : List ℕ) → ((j k : ℕ) → j < k → k < length is → R (at is j) (at is k)) → Pairwise R is
pairwise_if R [] h = tt
pairwise_if R (i ∷ is) h = (
  each_if (R i) is (λ k l. h 0 (suc k) (omega arith) (omega arith)),
  pairwise_if R is (λ j k b l. h (suc j) (suc k) (omega arith) (omega arith)),
)
