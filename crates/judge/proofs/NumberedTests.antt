-- Tests that are answered by a number, 0 for yes: what the number says of them. Cited by the laws of reading and of the chain. Assumes
-- nothing.
use mathlib.Core.Path.{◌≡◌, refl}
use mathlib.Core.Bool.{Bool, true, false, cond}
use Prim.Native.Nat.{ℕ, ◌≤◌, ◌<◌}
use native.Mathlib.Omega.{arith}

-- a test that answers 0 or k by a number
pub answered_no : (t : Bool) (k n : ℕ) → n ≡ cond t 0 k → 0 < n → (t ≡ false) × (n ≡ k)
answered_no true k n e l = absurd (omega arith)
answered_no false k n e l = (refl, e)

pub answered_yes : (t : Bool) (k n : ℕ) → 0 < k → n ≡ cond t 0 k → n ≤ 0 → t ≡ true
answered_yes true k n h e l = refl
answered_yes false k n h e l = absurd (omega arith)

-- two tests that answer 0, 9 or 8, before later ones
pub two_no : (s t : Bool) (n later : ℕ) → n ≡ cond s (cond t 0 9) 8 → 0 < n → n ≡ cond s (cond t later 9) 8
two_no true true n later e l = absurd (omega arith)
two_no true false n later e l = e
two_no false t n later e l = e

pub two_yes : (s t : Bool) (n later : ℕ) → n ≡ cond s (cond t 0 9) 8 → n ≤ 0 → later ≡ cond s (cond t later 9) 8
two_yes true true n later e l = refl
two_yes true false n later e l = absurd (omega arith)
two_yes false t n later e l = absurd (omega arith)
