-- What the loop of `asked::every_bid_good` keeps: each bid passed is good. Assumes nothing.
use mathlib.Core.Path.{◌≡◌}
use mathlib.Core.Bool.{true}
use Prim.Native.Nat.{ℕ, ◌<◌, min}
use Rattle.book.specs.Questions.{bid_good}
use Rattle.book.specs.Value.{bid_held}
use Rattle.book.proofs.asked.every_bid_good.Given as goal

abbrev pub invariant-loop-i : goal.invariant-loop-i
invariant-loop-i l =
    (j : ℕ) → j < l.i → bid_good l.n (bid_held (min l.book.k 4) l.book.client l.book.hours l.book.amount j) ≡ true
