-- What the loop of `sums::sum_in` keeps: `added` is the sum over the members passed. Assumes nothing.
use Rattle.std.proofs.Common.{◌≡◌, ◌*◌, ◌≤◌, cond}
use Rattle.sets.specs.Sums.{sum}
use Rattle.sets.specs.Sets.{has}
use Rattle.pricing.specs.Ranges.{most_discount}
use Rattle.certificate.specs.Figures.{at}
use Rattle.certificate.proofs.sums.sum_in.Given as goal

abbrev pub invariant-loop-k : goal.invariant-loop-k
invariant-loop-k l = (l.added ≡ sum l.k (λ i. cond (has l.set i) (at l.xs i) 0)) × (l.added ≤ most_discount * l.k)
