-- What the loop of `trims::settle_all` keeps. Assumes nothing.
use mathlib.Core.Path.{◌≡◌}
use Prim.Native.Nat.{ℕ, ◌≤◌}
use lib.ListN.{length}
use Rattle.market.specs.Market.{Market}
use Rattle.winners.specs.Rows.{RowsHeld}
use Rattle.winners.specs.Trims.{TrimmedTo}
use Rattle.winners.proofs.RowsSettled.{SameFrom}
use Rattle.winners.proofs.trims.settle_all.Given as goal

abbrev pub invariant-loop-c : goal.invariant-loop-c
invariant-loop-c l = record {
  rows_long : length l.rows ≡ 7;
  leasts_long : length l.leasts ≡ 7;
  ahead : SameFrom l.c l.initial.rows l.rows;
  done : (m : Market) (wt : ℕ → ℕ) (k n : ℕ) → k ≤ 4 → RowsHeld m wt k n l.initial.rows → TrimmedTo m wt k n l.c l.rows l.leasts;
}
