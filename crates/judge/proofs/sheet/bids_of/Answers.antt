-- `sheet::bids_of` meets its contract. Assumes nothing.
use Rattle.std.proofs.Common.{arith}
use Rattle.demands.specs.Sheet.{of_winner}
use Rattle.judge.proofs.BidNumbers.{bids_filled}
use Rattle.judge.proofs.sheet.bids_of.Goals as goal

pub returns : goal.returns
unfolding of_winner
returns c =
    let e = c.from_fn.ensures.items in
    bids_filled _ _ e.long (λ j l. let p = e.at j 0 l in grind arith)
