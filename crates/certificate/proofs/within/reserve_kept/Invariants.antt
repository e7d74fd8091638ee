-- What the loop of `within::reserve_kept` keeps: `ok` is the test of the winners passed. Assumes nothing.
use Rattle.std.proofs.Common.{◌≡◌, ◌*◌, leb}
use Rattle.pricing.specs.Questions.{every}
use Rattle.certificate.specs.Figures.{at}
use Rattle.certificate.proofs.within.reserve_kept.Given as goal

abbrev pub invariant-loop-j : goal.invariant-loop-j
invariant-loop-j l = l.ok ≡ every l.j (λ i. leb (at l.x i) (l.q * at l.rho i))
