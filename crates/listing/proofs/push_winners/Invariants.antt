-- What the loop of `push_winners` keeps: the lines of the winners passed are pushed. Assumes nothing.
use Rattle.std.proofs.Common.{◌≡◌, length}
use Rattle.book.specs.Value.{book_of}
use Rattle.text.specs.Text.{pushes}
use Rattle.listing.specs.Listing.{winner_lines}
use Rattle.listing.proofs.push_winners.Given as goal

abbrev pub invariant-loop-bid : goal.invariant-loop-bid
invariant-loop-bid l = l.list ≡ pushes l.initial.list (winner_lines (book_of l.book) l.bids (length l.yielded) l.prices)
