-- What the loop of `paid::amounts_good` keeps: the amount of each bid passed is no less than its reserves. Assumes nothing.
use mathlib.Core.Path.{◌≡◌}
use mathlib.Core.Bool.{true}
use Prim.Native.Nat.{ℕ, ◌*◌, ◌<◌, min}
use Rattle.book.specs.Questions.{reserves_met}
use Rattle.book.specs.Value.{bid_held, book_of}
use Rattle.book.proofs.paid.amounts_good.Given as goal

abbrev pub invariant-loop-pair : goal.invariant-loop-pair
invariant-loop-pair l =
    let v = l.book in
    (j : ℕ) → j < 2 * l.pair → reserves_met (book_of v).kinds (bid_held (min v.k 4) v.client v.hours v.amount j) ≡ true
