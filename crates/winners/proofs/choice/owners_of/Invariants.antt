-- What the loop of `choice::owners_of` keeps. Assumes nothing.
use lib.ListN.{get_or}
use Rattle.sets.proofs.Filled.{Filled}
use Rattle.book.specs.Book.{client_of}
use Rattle.book.specs.Value.{book_of}
use Rattle.winners.proofs.choice.owners_of.Given as goal

abbrev pub invariant-loop-i : goal.invariant-loop-i
invariant-loop-i l = Filled 6 (λ j. client_of (book_of l.book) (get_or l.bids j 0)) l.i l.owners
