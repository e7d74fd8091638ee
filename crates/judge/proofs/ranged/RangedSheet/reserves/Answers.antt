-- `RangedSheet::reserves` meets its contract. Assumes nothing.
use Rattle.std.proofs.Common.{rules}
use Rattle.book.specs.Value.{book_of}
use Rattle.winners.specs.Combinations.{amount_of}
use Rattle.demands.specs.Winners.{win, reserves, rho}
use Rattle.judge.proofs.WinnersPay.{rho_filled}
use Rattle.judge.proofs.ranged.RangedSheet.reserves.Goals as goal

pub returns : goal.returns
unfolding rho win reserves amount_of
returns c =
    let b = book_of c.args.self.sound.book.now in
    let column = c.column.ensures (rho b c.bids-bids.result.now) (λ i r lo hi p. search rules) in
    rw (← c.bids-bids.ensures.bids) (rho_filled b _ _ column)
