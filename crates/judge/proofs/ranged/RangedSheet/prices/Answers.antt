-- `RangedSheet::prices` meets its contract. Assumes nothing.
use Rattle.std.proofs.Common.{◌*◌, ◌-◌, arith, rules}
use Rattle.book.specs.Value.{book_of}
use Rattle.winners.specs.Combinations.{amount_of}
use Rattle.demands.specs.Winners.{win}
use Rattle.certificate.specs.Figures.{at}
use Rattle.judge.proofs.WinnersPay.{prices_filled}
use Rattle.judge.proofs.ranged.RangedSheet.prices.Goals as goal

pub returns : goal.returns
unfolding win amount_of
returns c =
    let b = book_of c.args.self.sound.book.now in
    let f = c.args.self.sheet.now.figures in
    let column = c.column.ensures (λ k. f.q * win b c.bids-bids.result.now k - at f.x k) (λ i r lo hi p. search rules) in
    let taken = c.bids-bids.ensures in
    let few = c.args.self.in_range.few in
    prices_filled b _ f _ (rw (← taken.bids) (omega (arith, taken.count, few))) (search rules) (rw (← taken.bids) column)
