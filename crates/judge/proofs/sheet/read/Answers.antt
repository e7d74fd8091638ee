-- `sheet::read` meets its contract where a sheet is read. Assumes nothing.
use native.Mathlib.Omega.{arith}
use Rattle.judge.proofs.Outcomes.{few_winners, sheet_read}
use Rattle.judge.proofs.sheet.read.Goals as goal

pub figures_of-figures-requires : goal.figures_of-figures-requires
figures_of-figures-requires c = let (good, count) = c.in-Some.ensures in omega (arith, count, few_winners _ _ good)

pub returns : goal.returns
returns c =
    let (good, count) = c.in-Some.ensures in
    sheet_read _ _ good _ _ _ count c.bids_of-bids.ensures c.figures_of-figures.ensures
