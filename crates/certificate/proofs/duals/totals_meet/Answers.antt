-- `duals::totals_meet` meets its contract: no product is above 4 * 10^16. Assumes nothing.
use Rattle.std.proofs.Common.{◌*◌, ◌≤◌, ◌<◌, arith}
use native.Mathlib.Nat.{mul-le-mul}
use Rattle.pricing.specs.Ranges.{most_scale}
use Rattle.certificate.specs.Bounds.{most_rho}
use Rattle.certificate.specs.Figures.{at}
use Rattle.certificate.proofs.Steps.{sum_next}
use Rattle.certificate.proofs.duals.totals_meet.Goals as goal
use Rattle.certificate.proofs.duals.totals_meet.Goals.{In-loop-j}

-- the product at hand is in range
product_most : (c : In-loop-j) → at c.args.f.z c.loop-j.j * at c.args.rho c.loop-j.j ≤ most_scale * most_rho
product_most c =
    let p = c.requires in
    let inside : c.loop-j.j < c.args.f.w = omega (arith, c.winners-w.ensures) in
    mul-le-mul (p.ranges.z_most _ inside) (p.tables.ρ_most _ inside)

pub overflow_add-winners : goal.overflow_add-winners
overflow_add-winners c = omega (arith, product_most (goal.at.overflow_add-winners c).In-loop-j)

pub loop-j-preserved : goal.loop-j-preserved
loop-j-preserved c =
    let p = product_most (goal.at.loop-j-preserved c).In-loop-j in
    grind (arith, sum_next, p)
