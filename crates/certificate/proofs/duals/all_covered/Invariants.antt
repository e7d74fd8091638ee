-- What the loop of `duals::all_covered` keeps: `ok` is the test of the winners passed. Assumes nothing.
use Rattle.std.proofs.Common.{◌≡◌, ◌+◌, leb}
use Rattle.sets.specs.Sets.{holding}
use Rattle.pricing.specs.Questions.{every}
use Rattle.certificate.specs.Figures.{at}
use Rattle.certificate.proofs.duals.all_covered.Given as goal

abbrev pub invariant-loop-j : goal.invariant-loop-j
invariant-loop-j l = l.ok ≡ every l.j (λ i. leb l.f.s (at l.f.z i + holding l.w i (at l.f.y)))
