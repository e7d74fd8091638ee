-- What the loop of `filling::fill_bids` keeps: the entries of the bids passed, and the rest of the book. Assumes nothing.
use mathlib.Core.Path.{◌≡◌}
use lib.ListN.{get_or, replicate}
use Rattle.sets.proofs.Filled.{Filled, FilledOver}
use Rattle.book.specs.Book.{no_bid}
use Rattle.book.specs.Layout.{book_in}
use Rattle.book.specs.Reading.{hours_entry}
use Rattle.book.proofs.filling.fill_bids.Given as goal

abbrev pub invariant-loop-i : goal.invariant-loop-i
invariant-loop-i l =
    let bids = (book_in l.input).bids in
    record {
      others : l.book ≡ record l.initial.book { client = l.book.client; hours = l.book.hours; amount = l.book.amount };
      clients : Filled 48 (λ j. (get_or bids j no_bid).client) l.i l.book.client;
      hours : FilledOver (replicate 4 0) 48 (λ j. hours_entry (get_or bids j no_bid).hours) l.i l.book.hours;
      amounts : Filled 48 (λ j. (get_or bids j no_bid).amount) l.i l.book.amount;
    }
