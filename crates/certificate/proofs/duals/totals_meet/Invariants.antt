-- What the loop of `duals::totals_meet` keeps: `winners` and `given` are the sums over the winners passed. Assumes nothing.
use Rattle.std.proofs.Common.{◌≡◌, ◌*◌, ◌≤◌}
use Rattle.sets.specs.Sums.{sum}
use Rattle.pricing.specs.Ranges.{most_scale, most_discount}
use Rattle.certificate.specs.Bounds.{most_rho}
use Rattle.certificate.specs.Figures.{at}
use Rattle.certificate.proofs.duals.totals_meet.Given as goal

abbrev pub invariant-loop-j : goal.invariant-loop-j
invariant-loop-j l =
    (l.winners ≡ sum l.j (λ i. at l.f.z i * at l.rho i)) × (l.winners ≤ most_scale * most_rho * l.j)
    × (l.given ≡ sum l.j (at l.f.x)) × (l.given ≤ most_discount * l.j)
