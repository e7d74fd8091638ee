-- What the loop of `by_set::sets_tight` keeps: `within` and `tight` are the tests of the sets passed. Assumes nothing.
use Rattle.std.proofs.Common.{◌≡◌, ◌*◌, leb}
use Rattle.sets.specs.Sets.{sum_in}
use Rattle.pricing.specs.Questions.{slack}
use Rattle.certificate.specs.Figures.{at}
use Rattle.certificate.proofs.Steps.{every_before}
use Rattle.certificate.proofs.by_set.sets_tight.Given as goal

abbrev pub invariant-loop-set : goal.invariant-loop-set
invariant-loop-set l =
    (l.within ≡ every_before l.set (λ L. leb (sum_in l.w L (at l.f.x)) (l.f.q * at l.sigma L)))
    × (l.tight ≡ every_before l.set (λ L. slack (at l.f.u L) (sum_in l.w L (at l.f.x)) (l.f.q * at l.sigma L)))
