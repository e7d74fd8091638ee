-- Arrays that hold a table's entries from the front, and nothing past them but zeros, are the table; and a book that is another but for its
-- arrays of bids. Cited by the proofs of src/filling.rt. Assumes nothing.
use mathlib.Core.Path.{◌≡◌, sym, ap, ◌∙◌}
use mathlib.Core.List.{List}
use Prim.Native.Nat.{ℕ, ◌≤◌}
use native.Mathlib.Decide.{dec_lt}
use native.Mathlib.Omega.{arith}
use lib.ListN.{get_or}
use lib.Seq.{ext_get_or}
use Rattle.sets.specs.Tables.{tabulate}
use Rattle.book.specs.declared.value.Book.{Book as Arrays}
use Rattle.sets.proofs.Filled.{Filled}
use Rattle.sets.proofs.Tables.{tabulate_length, tabulate_at}

pub filled_whole : (n : ℕ) (f : ℕ → ℕ) (i : ℕ) (xs : List ℕ) → Filled n f i xs → ((j : ℕ) → i ≤ j → f j ≡ 0) → xs ≡ tabulate n f
filled_whole n f i xs h past =
    ext_get_or 0 xs _ (h.long ∙ sym (tabulate_length n f)) (λ j l. entry j ∙ sym (tabulate_at n f j 0 (omega (arith, h.long))))
  where
    entry : (j : ℕ) → get_or xs j 0 ≡ f j
    entry j = elim (dec_lt j i) [ yes l ↦ h.below j l | no l ↦ h.above j (omega arith) ∙ sym (past j (omega arith)) ]

-- a book v that is w but for the arrays of bids, where these are written once more, and where they are known
module _ (v w : Arrays) (e : v ≡ record w { client = v.client; hours = v.hours; amount = v.amount })
    (cs : List ℕ) (hs : List (List ℕ)) (xs : List ℕ) where
  pub bids_written : record v { client = cs; hours = hs; amount = xs } ≡ record w { client = cs; hours = hs; amount = xs }
  bids_written = ap (λ (b : Arrays). record b { client = cs; hours = hs; amount = xs }) e

  pub bids_same : v.client ≡ cs → v.hours ≡ hs → v.amount ≡ xs → v ≡ record w { client = cs; hours = hs; amount = xs }
  bids_same ec eh ex = e ∙ (λ i. record w { client = ec i; hours = eh i; amount = ex i })
