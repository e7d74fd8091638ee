-- What the loop of `slack::winners_slack` keeps: `reserves` and `zeros` are the tests of the winners passed. Assumes nothing.
use Rattle.std.proofs.Common.{◌≡◌, ◌*◌}
use Rattle.pricing.specs.Questions.{every, slack}
use Rattle.certificate.specs.Figures.{at}
use Rattle.certificate.proofs.slack.winners_slack.Given as goal

abbrev pub invariant-loop-j : goal.invariant-loop-j
invariant-loop-j l =
    (l.reserves ≡ every l.j (λ i. slack (at l.f.r i) (at l.f.x i) (l.f.q * at l.rho i)))
    × (l.zeros ≡ every l.j (λ i. slack (at l.f.t i) (at l.f.x i) 0))
