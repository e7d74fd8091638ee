-- What the loop of `sums::held` keeps: `added` is the sum over the sets passed. Assumes nothing.
use Rattle.std.proofs.Common.{◌≡◌, ◌-◌, ◌*◌, ◌≤◌, cond}
use Rattle.sets.specs.Sets.{has}
use Rattle.pricing.specs.Ranges.{most_multiplier}
use Rattle.certificate.specs.Figures.{at}
use Rattle.certificate.proofs.Steps.{sum_before}
use Rattle.certificate.proofs.sums.held.Given as goal

abbrev pub invariant-loop-set : goal.invariant-loop-set
invariant-loop-set l =
    (l.added ≡ sum_before l.set (λ L. cond (has L l.k) (at l.xs L) 0)) × (l.added ≤ most_multiplier * (l.set - 1))
