-- `choice::value_of` meets its contract. Assumes nothing.
use mathlib.Core.Path.{◌≡◌, ◌∙◌}
use Rattle.std.proofs.Common.{rules, sum_by}
use Rattle.book.specs.Value.{book_of}
use Rattle.winners.specs.Combinations.{amount_of}
use Rattle.winners.proofs.Choosing.{worth_sum}
use Rattle.winners.proofs.choice.value_of.Goals as goal

pub returns : goal.returns
unfolding amount_of
returns c =
    let amount = amount_of (book_of c.args.book.now) in
    let total : c.sum.result ≡ sum_by amount c.args.bids.now = search rules in
    total ∙ worth_sum amount c.args.bids.now
