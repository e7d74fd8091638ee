-- The first 'no' among tests in a row: what it means that there is none, and how large its number can be. Cited by what is known of sheets
-- that pass the questions. Assumes nothing.
use mathlib.Core.Path.{◌≡◌, refl}
use mathlib.Core.Bool.{Bool, true, false}
use mathlib.Core.List.{List, [], ◌∷◌}
use Prim.Native.Nat.{ℕ, suc, ◌+◌, ◌≤◌, ◌<◌}
use native.Mathlib.Omega.{arith}
use lib.ListN.{length}
use Rattle.demands.specs.Questions.{first_no}

-- all of them are answered yes
pub data All : List Bool → Type 0 where
  none : All []
  more : {t : Bool} {ts : List Bool} → t ≡ true → All ts → All (t ∷ ts)

pub first_no_all : (k : ℕ) (ts : List Bool) → 1 ≤ k → first_no k ts ≡ 0 → All ts
unfolding first_no
first_no_all k [] l e = none
first_no_all k (true ∷ ts) l e = more refl (first_no_all (suc k) ts (omega arith) e)
first_no_all k (false ∷ ts) l e = absurd (omega arith)

pub all_first_no : (k : ℕ) (ts : List Bool) → All ts → first_no k ts ≡ 0
unfolding first_no
all_first_no k [] none = refl
all_first_no k (t ∷ ts) (more e a) = rw e (all_first_no (suc k) ts a)

pub first_no_most : (k : ℕ) (ts : List Bool) → 1 ≤ k → first_no k ts < k + length ts
unfolding first_no
first_no_most k [] l = omega arith
first_no_most k (true ∷ ts) l = omega (arith, first_no_most (suc k) ts (omega arith))
first_no_most k (false ∷ ts) l = omega arith
