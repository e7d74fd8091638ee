-- What the loop of `columns::column` keeps: the places passed hold their numbers. Assumes nothing.
use Rattle.std.proofs.Common.{◌≡◌, ℕ, ◌≤◌, ◌<◌}
use Rattle.sets.proofs.Filled.{Filled}
use Rattle.judge.proofs.ReadColumns.{from_place}
use Rattle.judge.proofs.columns.column.Given as goal

abbrev pub invariant-loop-i : goal.invariant-loop-i
invariant-loop-i g l =
    (f : ℕ → ℕ) → ((i r : ℕ) → l.first ≤ i → i < l.end → goal.F-post g l.number i r → r ≡ f i)
    → Filled g.row.N (from_place l.first f) l.i l.xs
