-- What a judgement gives whoever has it, each field at work: number 0 is answered just to what is in form and acceptable, no other
-- discounts do as well as those of the sheet, and the prices are right; any other number is from 1 to 15, that of the first question
-- answered no, with zeros. Nothing cites it. Assumes nothing.
use mathlib.Core.Path.{◌≡◌, ◌∙◌}
use mathlib.Core.List.{List}
use mathlib.Core.Logic.{⊎_elim}
use Prim.Native.Nat.{ℕ, suc, ◌≤◌}
use native.Mathlib.Omega.{arith}
use Rattle.pricing.specs.Fractions.{Fraction}
use Rattle.pricing.specs.Discounts.{Proper, own, Unlike, Inferior}
use Rattle.demands.specs.Winners.{sigma}
use Rattle.demands.specs.Call.{Call, sheet, call_refusal}
use Rattle.demands.specs.Discounts.{discount, Admissible}
use Rattle.demands.specs.Acceptable.{InForm, Acceptable}
use Rattle.demands.specs.Answer.{Priced, Zeros}
use Rattle.demands.specs.Promise.{Demand3}
use Rattle.judge.specs.declared.prices.Prices.{Prices}
use Rattle.judge.specs.Judgement.{answer_in, Judgement}

module _ (c : Call) (r : Prices) (k : Judgement c r) where
  -- ACCEPTED
  module _ (z : r.number ≡ 0) where
    zero_acceptable : InForm c × Acceptable c.book (sheet c)
    zero_acceptable =
        let accepted = k.accepted.0 z in
        let form = k.demand_2.in_form accepted in
        (form, (k.demand_2.exactly form).0 accepted)

    zero_priced : Priced c.book (sheet c) (answer_in r)
    zero_priced = k.priced z

    zero_best : let w = (sheet c).numbers.w in let given = own (sheet c).numbers in
        (ds : List Fraction) → Proper w (discount ds) → Unlike w (discount ds) given → Admissible c.book (sheet c).bids (discount ds)
        → Inferior w (sigma c.book (sheet c).bids) (discount ds) given
    unfolding Demand3
    zero_best = k.demand_3 (k.accepted.0 z)

  acceptable_zero : InForm c → Acceptable c.book (sheet c) → r.number ≡ 0
  acceptable_zero form good = k.accepted.1 ((k.demand_2.exactly form).1 good)

  -- REFUSED
  number_most : r.number ≤ 15
  number_most = ⊎_elim (λ (z : r.number ≡ 0). omega arith) (λ h. h.1) k.demand_1

  some_zeros : 1 ≤ r.number → Zeros (answer_in r)
  some_zeros l = ⊎_elim (λ (z : r.number ≡ 0). absurd (omega arith)) (λ h. h.2) k.demand_1

  first_no : (n : ℕ) → call_refusal c ≡ suc n → r.number ≡ suc n
  first_no n e = k.number_is ∙ e
