-- What the loop of `sums::sets_weighed` keeps: `added` is the sum over the sets passed. Assumes nothing.
use Rattle.std.proofs.Common.{◌≡◌, ◌-◌, ◌*◌, ◌≤◌}
use Rattle.pricing.specs.Ranges.{most_scale}
use Rattle.certificate.specs.Bounds.{most_sigma}
use Rattle.certificate.specs.Figures.{at}
use Rattle.certificate.proofs.Steps.{sum_before}
use Rattle.certificate.proofs.sums.sets_weighed.Given as goal

abbrev pub invariant-loop-set : goal.invariant-loop-set
invariant-loop-set l =
    (l.added ≡ sum_before l.set (λ L. at l.ys L * at l.sigma L)) × (l.added ≤ most_scale * most_sigma * (l.set - 1))
