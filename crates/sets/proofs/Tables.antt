-- A table's length and entries, and a filled array as a table. Cited by the proofs of functions that fill an array, in the layers above.
-- Assumes nothing.
use mathlib.Core.Path.{◌≡◌, refl, sym, ap, ◌∙◌}
use mathlib.Core.Bool.{cond}
use mathlib.Core.List.{List}
use Prim.Native.Nat.{ℕ, zero, suc, ◌<◌, min}
use native.Mathlib.Nat.{le_of_suc-le-suc}
use native.Mathlib.Decide.{dec_lt}
use native.Mathlib.Omega.{arith}
use borrow.Author.Tests.{lt-ltb, le-ltb}
use lib.Dec.{ltb}
use lib.ListN.{length, get_or}
use lib.Seq.{ext_get_or}
use Rattle.sets.specs.Tables.{tabulate}
use Rattle.sets.proofs.Filled.{Filled}

pub tabulate_length : (n : ℕ) (f : ℕ → ℕ) → length (tabulate n f) ≡ n
unfolding tabulate
tabulate_length zero f = refl
tabulate_length (suc n) f = ap suc (tabulate_length n (λ k. f (suc k)))

pub tabulate_at : (n : ℕ) (f : ℕ → ℕ) (i d : ℕ) → i < n → get_or (tabulate n f) i d ≡ f i
unfolding tabulate
tabulate_at zero f i d l = absurd (omega arith)
tabulate_at (suc n) f zero d l = refl
tabulate_at (suc n) f (suc i) d l = tabulate_at n (λ k. f (suc k)) i d (le_of_suc-le-suc l)

-- an array that is filled up to a count, or whole where the count is larger, is the table with 0 from the count on
pub filled_table : (n : ℕ) (f : ℕ → ℕ) (count i : ℕ) (xs : List ℕ) → i ≡ min count n → Filled n f i xs
    → xs ≡ tabulate n (λ j. cond (ltb j count) (f j) 0)
filled_table n f count i xs e h =
    ext_get_or 0 xs _ (h.long ∙ sym (tabulate_length n _))
    (λ j l. entry j (omega (arith, h.long)) ∙ sym (tabulate_at n (λ j. cond (ltb j count) (f j) 0) j 0 (omega (arith, h.long))))
  where
    entry : (j : ℕ) → j < n → get_or xs j 0 ≡ cond (ltb j count) (f j) 0
    entry j k = elim (dec_lt j count) [
      | yes l ↦ rw (lt-ltb j count l) (h.below j (omega arith))
      | no l ↦ rw (le-ltb j count (omega arith)) (h.above j (omega arith))
    ]
