-- `sums::sets_weighed` meets its contract: no product is above its bound. Assumes nothing.
use Rattle.std.proofs.Common.{◌*◌, ◌≤◌, ◌<◌, ◌^◌, arith}
use native.Mathlib.Nat.{mul-le-mul}
use Rattle.pricing.specs.Ranges.{most_scale}
use Rattle.certificate.specs.Bounds.{most_sigma}
use Rattle.certificate.specs.Figures.{at}
use Rattle.certificate.proofs.Steps.{end_few, steps}
use Rattle.certificate.proofs.sums.sets_weighed.Goals as goal
use Rattle.certificate.proofs.sums.sets_weighed.Goals.{In-loop-set}

-- the product at hand is in range
product_most : (c : In-loop-set) → at c.args.ys.now c.loop-set.set * at c.args.sigma.now c.loop-set.set ≤ most_scale * most_sigma
product_most c =
    let l : c.loop-set.set < 2 ^ c.args.w = omega (arith, end_few) in
    mul-le-mul (c.requires.y_most _ c.loop-set.auto.set l) (c.requires.σ_most _ c.loop-set.auto.set l)

pub overflow_add-added : goal.overflow_add-added
overflow_add-added c = omega (arith, product_most (goal.at.overflow_add-added c).In-loop-set)

pub loop-set-preserved : goal.loop-set-preserved
loop-set-preserved c =
    let p = product_most (goal.at.loop-set-preserved c).In-loop-set in
    grind (arith, steps, p)
