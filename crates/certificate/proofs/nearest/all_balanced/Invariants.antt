-- What the loop of `nearest::all_balanced` keeps: `ok` is the test of the winners passed. Assumes nothing.
use Rattle.std.proofs.Common.{◌≡◌, eqb}
use Rattle.pricing.specs.Questions.{every}
use Rattle.certificate.specs.Figures.{at}
use Rattle.certificate.proofs.Balance.{claimed, carried}
use Rattle.certificate.proofs.nearest.all_balanced.Given as goal

abbrev pub invariant-loop-j : goal.invariant-loop-j
invariant-loop-j l = l.ok ≡ every l.j (λ i. eqb (claimed l.f (at l.sigma) i) (carried l.f i))
