-- The demands are not empty: call A is accepted, and against its discounts 20 and 20 stand others, 31/2 and 98/4, that are admissible and
-- add up to as much. Nothing cites it. Assumes nothing.
use mathlib.Core.Path.{refl, sym, ap, ◌∙◌}
use mathlib.Core.List.{List, [], ◌∷◌}
use Prim.Native.Nat.{ℕ, zero, suc}
use native.Mathlib.Omega.{arith}
use lib.Dec.{lit≤}
use lib.ListN.{get_or}
use Rattle.market.specs.Market.{at}
use Rattle.pricing.specs.Fractions.{Fraction, over, whole, plus, AtMost, Equal, total}
use Rattle.pricing.specs.Discounts.{Proper, ReserveKept, SetsKept, own, Unlike, Inferior}
use Rattle.book.proofs.SoundRead.{shaped_in}
use Rattle.demands.specs.Winners.{sigma, rho}
use Rattle.demands.specs.Call.{Call, call_in, sheet, Accepted}
use Rattle.demands.specs.Discounts.{discount, Admissible}
use Rattle.demands.specs.Promise.{Demand3}
use Rattle.demands.proofs.Judgeable.{input_judgeable}
use Rattle.demands.proofs.Accepted.{kept_admissible}
use Rattle.demands.proofs.Promise.{accepted_acceptable, demand_3}
use Rattle.demands.proofs.Answer.{answered}
use Rattle.demands.proofs.Calls.{computed, call_a, table}

abbrev pub A : Call
A = call_in call_a

pub accepted_a : Accepted A
accepted_a = sym (answered A).number ∙ ap (λ (rows : List (List ℕ)). at (get_or rows 0 []) 0) table

abbrev pub others : List Fraction
others = over 31 2 ∷ over 98 4 ∷ []

proper : Proper 2 (discount others)
unfolding Proper over whole
proper zero l = lit≤ tt
proper (suc zero) l = lit≤ tt
proper (suc (suc j)) l = lit≤ tt

unlike : Unlike 2 (discount others) (own (sheet A).numbers)
unfolding computed Unlike Equal own over
unlike = (0, lit≤ tt, λ e. omega arith)

reserve : ReserveKept 2 (rho A.book (sheet A).bids) (discount others)
unfolding computed ReserveKept AtMost whole over
reserve zero l = lit≤ tt
reserve (suc zero) l = lit≤ tt
reserve (suc (suc j)) l = absurd (omega arith)

sets : SetsKept 2 (sigma A.book (sheet A).bids) (discount others)
unfolding computed SetsKept AtMost total plus whole over
sets zero p l = absurd (omega arith)
sets (suc zero) p l = lit≤ tt
sets (suc (suc zero)) p l = lit≤ tt
sets (suc (suc (suc zero))) p l = lit≤ tt
sets (suc (suc (suc (suc L)))) p l = absurd (omega arith)

pub others_admissible : Admissible A.book (sheet A).bids (discount others)
unfolding computed
others_admissible =
    let best = (accepted_acceptable A (input_judgeable call_a) accepted_a).winners in
    kept_admissible A.book (shaped_in call_a) (sheet A).bids 2 refl best (discount others) proper reserve sets

-- their sum is the same
pub others_sum : Equal (total 2 (discount others)) (total 2 (own (sheet A).numbers))
unfolding computed Equal total plus whole over own
others_sum = refl

-- so they are inferior by being farther from 40 and 40
pub others_inferior : Inferior 2 (sigma A.book (sheet A).bids) (discount others) (own (sheet A).numbers)
unfolding computed Demand3
others_inferior = demand_3 A (input_judgeable call_a) accepted_a others proper unlike others_admissible
