-- What the loop of `most::at_most` keeps: `ok` is the test of the numbers passed. Assumes nothing.
use Rattle.std.proofs.Common.{◌≡◌, leb}
use Rattle.pricing.specs.Questions.{every}
use Rattle.certificate.specs.Figures.{at}
use Rattle.certificate.proofs.most.at_most.Given as goal

abbrev pub invariant-loop-x : goal.invariant-loop-x
invariant-loop-x l = l.ok ≡ every l.x-index (λ i. leb (at l.xs i) l.most)
