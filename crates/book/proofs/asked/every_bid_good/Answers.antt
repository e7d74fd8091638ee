-- `asked::every_bid_good` meets its contract. Assumes nothing.
use borrow.Author.Count.{below_more}
use mathlib.Core.Path.{◌≡◌, sym, ◌∙◌}
use mathlib.Core.List.{[]}
use Prim.Native.Nat.{min}
use native.Mathlib.Omega.{arith}
use lib.Dec.{leb}
use lib.ListN.{get_or}
use Rattle.book.specs.Lists.{row, total}
use Rattle.book.specs.Book.{no_bid}
use Rattle.book.specs.Questions.{bid_good}
use Rattle.book.specs.Value.{bid_held, book_of}
use Rattle.book.proofs.Held.{held_clients}
use Rattle.book.proofs.Lists.{row_passed, row_not}
use Rattle.book.proofs.asked.every_bid_good.Goals as goal
use Rattle.book.proofs.asked.every_bid_good.Goals.{After-is_bid_good}

-- whether the bid at hand asks for an hour
asks : (c : After-is_bid_good) → let v = c.args.book.now in
    c.is_hour_asked-asks.result ≡ leb 1 (total (row (min v.k 4) 0 (λ j. get_or (get_or v.hours c.loop-i.i []) j 0)))
asks c =
    c.is_hour_asked-asks.ensures (min c.args.book.now.k 4) (omega arith)
    (rw (← c.kind_count.ensures) c.least_with_hours-least.ensures)

-- the test of the bid at hand is question 4's
good : (c : After-is_bid_good) → let v = c.args.book.now in
    c.is_bid_good.result ≡ bid_good c.client_count-n.result (bid_held (min v.k 4) v.client v.hours v.amount c.loop-i.i)
unfolding bid_good bid_held
good c = c.is_bid_good.ensures ∙ (rw (asks c))

pub returns-then-not-is_bid_good : goal.returns-then-not-is_bid_good
unfolding book_of
returns-then-not-is_bid_good c =
    let no = sym (good (goal.at.returns-then-not-is_bid_good c).After-is_bid_good) ∙ c.if-not-is_bid_good.true in
    rw (held_clients c.args.book.now, ← c.client_count-n.ensures) (row_not (bid_good _) no_bid _ c.loop-i.i _ (omega arith) no)

pub loop-i-preserved : goal.loop-i-preserved
loop-i-preserved c =
    below_more _ _ c.loop-i.invariant (sym (good (goal.at.loop-i-preserved c).After-is_bid_good) ∙ c.if-not-is_bid_good.false)

pub returns : goal.returns
unfolding book_of
returns c =
    rw (held_clients c.args.book.now, ← c.client_count-n.ensures)
    (row_passed (bid_good _) no_bid _ c.loop-i.i _ (omega arith) c.loop-i.invariant)
