-- `nearest::all_balanced` meets its contract: no sum is above 10^14. Assumes nothing.
use Rattle.std.proofs.Common.{◌≡◌, ◌*◌, ◌%◌, ◌^◌, ◌≤◌, ◌<◌, arith}
use native.Mathlib.Nat.{mul-le-mul}
use Rattle.sets.specs.Sets.{single}
use Rattle.pricing.specs.Ranges.{most_scale}
use Rattle.certificate.specs.Bounds.{most_sigma}
use Rattle.certificate.specs.Figures.{at}
use Rattle.certificate.proofs.Balance.{claimed, carried, alone_among}
use Rattle.certificate.proofs.Signed.{signed_magnitude}
use Rattle.certificate.proofs.Steps.{every_next}
use Rattle.certificate.proofs.nearest.all_balanced.Goals as goal
use Rattle.certificate.proofs.nearest.all_balanced.Goals.{In-loop-j}

-- no winner is left out, and the one at hand is one of them
all_of : (c : In-loop-j) → c.winners-w.result ≡ c.args.f.w
all_of c = omega (arith, c.winners-w.ensures, c.requires.ranges.few)

inside : (c : In-loop-j) → c.loop-j.j < c.args.f.w
inside c = omega (arith, c.winners-w.ensures)

-- the bound at hand is in range
bound_most : (c : In-loop-j) → c.args.f.q * at c.args.sigma (1 * 2 ^ c.loop-j.j % 2 ^ 64) ≤ most_scale * most_sigma
bound_most c =
    let p = c.requires in
    let alone = alone_among _ _ (inside c) p.ranges.few in
    rw alone.0 (mul-le-mul p.ranges.q_most (p.σ_most _ alone.1 alone.2))

pub overflow_mul-claimed : goal.overflow_mul-claimed
overflow_mul-claimed c = omega (arith, bound_most (goal.at.overflow_mul-claimed c).In-loop-j)

pub overflow_add-claimed : goal.overflow_add-claimed
overflow_add-claimed c = omega (arith, bound_most (goal.at.overflow_add-claimed c).In-loop-j, c.requires.ranges.t_most c.loop-j.j)

pub overflow_add-claimed-in-loop-j : goal.overflow_add-claimed-in-loop-j
overflow_add-claimed-in-loop-j c =
    let bound = bound_most (goal.at.overflow_add-claimed-in-loop-j c).In-loop-j in
    omega (arith, bound, c.requires.ranges.t_most c.loop-j.j, signed_magnitude c.args.f.g)

pub loop-j-preserved : goal.loop-j-preserved
unfolding claimed carried single
loop-j-preserved c =
    let here = (goal.at.loop-j-preserved c).In-loop-j in
    let alone = alone_among _ _ (inside here) c.requires.ranges.few in
    rw (
      alone.0,
      c.part_below-below.ensures,
      c.part_above-above.ensures,
      c.held.ensures.0,
      all_of here,
      every_next,
      c.loop-j.invariant,
    )
