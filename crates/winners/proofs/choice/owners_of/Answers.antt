-- `choice::owners_of` meets its contract. The loop keeps the clients of the bids passed. Assumes nothing.
use mathlib.Core.Path.{◌≡◌}
use native.Mathlib.Omega.{arith}
use lib.ListN.{length}
use Rattle.winners.proofs.Six.{six_done}
use Rattle.book.specs.Book.{client_of}
use Rattle.book.specs.Value.{book_of}
use Rattle.winners.specs.Weighed.{owners_of}
use Rattle.winners.proofs.choice.owners_of.Goals as goal

pub returns : goal.returns
unfolding owners_of
returns c =
    let l = c.loop-i in
    let all : l.i ≡ length c.args.bids.now = omega arith in
    six_done (λ i. client_of (book_of c.args.book.now) i) c.args.bids.now _ c.requires (rw all at l.invariant)
