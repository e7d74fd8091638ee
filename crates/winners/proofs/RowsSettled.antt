-- The rows settled one after another: those settled keep what they hold, and those ahead are as they were. Cited by the proof of
-- src/trims.rt's `settle_all`. Assumes nothing.
use mathlib.Core.Path.{◌≡◌, ◌∙◌}
use mathlib.Core.List.{List}
use Prim.Native.Nat.{ℕ, ◌+◌, ◌≤◌, ◌<◌}
use native.Mathlib.Decide.{ℕ_discrete}
use native.Mathlib.Omega.{arith}
use lib.ListN.{length, set}
use lib.Seq.{get_or-set_same, get_or-set_other}
use Rattle.market.specs.Market.{Market}
use Rattle.winners.specs.Rows.{offers_of, row_of, RowsHeld}
use Rattle.winners.specs.Trims.{Settled, TrimmedTo}
use Rattle.winners.specs.declared.row.Row.{Row}
use Rattle.winners.proofs.RowsFilled.{row_set, row_other}

-- the rows from that of client t on are as they were
abbrev pub SameFrom : (t : ℕ) (before rows : List Row) → Type 0
SameFrom t before rows = (s : ℕ) → t ≤ s → row_of rows s ≡ row_of before s

module _ (t least : ℕ) (before rows : List Row) (r : Row) (leasts : List ℕ) (u : t < length rows) (long : t < length leasts)
    (same : SameFrom t before rows) (s : Settled (row_of rows t) (offers_of r) least) where
  pub same_next : SameFrom (t + 1) before (set rows t r)
  same_next j a = row_other rows t j r (λ q. omega arith) ∙ same j (omega arith)

  pub settled_next : (m : Market) (wt : ℕ → ℕ) (k n : ℕ) → k ≤ 4 → 1 ≤ t → t ≤ 6 → RowsHeld m wt k n before
      → TrimmedTo m wt k n t rows leasts → TrimmedTo m wt k n (t + 1) (set rows t r) (set leasts t least)
  settled_next m wt k n few low near held done j a l = elim (ℕ_discrete j t) [
    | yes q ↦ let (row, h) = held t low near in
        rw (q, get_or-set_same leasts t least 0 long, row_set rows t r u) (s.trims m wt k n t row few (rw (same t (omega arith)) h))
    | no q ↦ rw (get_or-set_other leasts t j least 0 q, row_other rows t j r q) (done j a (omega arith))
  ]
