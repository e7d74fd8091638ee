-- What the loop of `limit::few_for_each` keeps: no client passed has too many bids. Assumes nothing.
use mathlib.Core.Path.{◌≡◌}
use mathlib.Core.Bool.{true}
use Prim.Native.Nat.{ℕ, ◌≤◌, ◌<◌}
use Rattle.book.proofs.Tally.{few_named}
use Rattle.book.proofs.limit.few_for_each.Given as goal

abbrev pub invariant-loop-client : goal.invariant-loop-client
invariant-loop-client l = (c : ℕ) → 1 ≤ c → c < l.client → few_named l.bids c ≡ true
