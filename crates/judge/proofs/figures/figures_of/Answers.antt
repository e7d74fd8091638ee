-- `figures::figures_of` meets its contract. Assumes nothing.
use Rattle.std.proofs.Common.{◌+◌, rules}
use Rattle.book.specs.Bytes.{field}
use Rattle.demands.specs.Sheet.{winner_place, set_place}
use Rattle.judge.proofs.figures.figures_of.Goals as goal
use Rattle.numbers.proofs.Shifts.{few_sets}
use Rattle.judge.proofs.Numbers.{figures_numbers}

pub returns : goal.returns
unfolding winner_place set_place
returns c =
    let a = c.args in
    let bs = a.part.now in
    figures_numbers a.w bs _ (search rules) (search rules) (search rules)
    (c.column.ensures (λ j. field (winner_place a.w j) 8 bs) (λ i r lo hi p. search rules))
    (c.column-2.ensures (λ j. field (winner_place a.w j + 8) 4 bs) (λ i r lo hi p. search rules))
    (c.column-3.ensures (λ j. field (winner_place a.w j + 12) 8 bs) (λ i r lo hi p. search rules))
    (c.column-4.ensures (λ j. field (winner_place a.w j + 20) 8 bs) (λ i r lo hi p. search rules))
    c.u64_at.ensures _ (few_sets c.requires c.sets_end-end.ensures.0)
    (c.column-5.ensures (λ L. field (set_place a.w L) 4 bs) (λ i r lo hi p. search rules))
    (c.column-6.ensures (λ L. field (set_place a.w L + 4) 8 bs) (λ i r lo hi p. search rules))
