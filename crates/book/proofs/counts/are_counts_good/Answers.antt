-- `counts::are_counts_good` meets its contract. Assumes nothing.
use Rattle.book.specs.Layout.{statuses_from, bids_from}
use Rattle.book.specs.Questions.{book_formula, counts_good}
use Rattle.book.proofs.counts.are_counts_good.Goals as goal

pub returns : goal.returns
unfolding counts_good book_formula statuses_from bids_from
returns c =
    rw (
      c.are_counts_ranged.ensures,
      c.statuses_from.ensures.place,
      c.bids_from.ensures.place,
      c.from-long.ensures,
      c.from-k.ensures,
      c.from-n.ensures,
      c.from-m.ensures,
      c.length.ensures,
      c.kinds.ensures,
      c.clients.ensures,
      c.bids.ensures,
    )
