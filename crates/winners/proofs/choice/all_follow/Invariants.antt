-- What the loop of `choice::all_follow` keeps. Assumes nothing.
use mathlib.Core.Path.{◌≡◌}
use lib.ListN.{length, take, drop}
use Rattle.market.specs.Combination.{rising_from, is_combination}
use Rattle.book.specs.Book.{clients, supplies}
use Rattle.book.specs.Value.{book_of}
use Rattle.winners.specs.Combinations.{market}
use Rattle.winners.proofs.choice.all_follow.Given as goal

abbrev pub invariant-loop-bid : goal.invariant-loop-bid
invariant-loop-bid l =
    let b = book_of l.book in
    (length l.left ≡ 4)
    × (rising_from (market b) (clients b) l.last (take (length b.kinds) l.left) (drop l.bid-index l.bids)
    ≡ is_combination (market b) (clients b) (supplies b) l.bids)
