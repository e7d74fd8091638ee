-- The demands, shown of every call that can be judged: so of every input, and of every book that is a value with any bytes. Cited by the
-- contracts of judging. Assumes nothing.
use mathlib.Core.Logic.{inl, inr}
use Prim.Native.Nat.{ℕ}
use native.Mathlib.Nat.{eq-zero-or-pos}
use Rattle.pricing.specs.Fractions.{Fraction}
use Rattle.pricing.specs.Discounts.{Proper, own, Unlike, Inferior}
use Rattle.pricing.proofs.Best.{fraction_optimal}
use Rattle.demands.specs.Winners.{sigma, rho}
use Rattle.demands.specs.Call.{Call, sheet, call_refusal, Accepted}
use Rattle.demands.specs.Discounts.{discount, Admissible}
use Rattle.demands.specs.Acceptable.{InForm, Acceptable}
use Rattle.demands.specs.Promise.{Demand1, Demand2, Demand3}
use Rattle.demands.proofs.Judgeable.{Judgeable, judgeable_shaped}
use Rattle.demands.proofs.Sheet.{sheet_winners}
use Rattle.demands.proofs.Passed.{accepted_passed, passed_accepted, refusal_most}
use Rattle.demands.proofs.Accepted.{scales, winners_passed, admissible_reserve, admissible_sets}
use Rattle.demands.proofs.Accepted.{passed_acceptable, acceptable_passed}

pub accepted_in_form : (c : Call) → Accepted c → InForm c
accepted_in_form c h = let p = accepted_passed c h in record { sound = p.sound; layout = p.layout; ranges = p.sheet.ranges }

module _ (c : Call) (j : Judgeable c) where
  pub demand_1 : Demand1 c
  unfolding Demand1
  demand_1 = elim (eq-zero-or-pos (call_refusal c)) [ inl e ↦ inl e | inr l ↦ inr (l, refusal_most c j) ]

  -- the parts of the second demand
  pub accepted_acceptable : Accepted c → Acceptable c.book (sheet c)
  accepted_acceptable h =
      let p = accepted_passed c h in
      let shaped = judgeable_shaped c j p.sound in
      passed_acceptable c.book shaped (sheet c) (sheet_winners c.part) p.sheet.ranges p.sheet

  pub acceptable_accepted : InForm c → Acceptable c.book (sheet c) → Accepted c
  acceptable_accepted f a =
      let shaped = judgeable_shaped c j f.sound in
      passed_accepted c (record {
        sound = f.sound;
        layout = f.layout;
        sheet = acceptable_passed c.book shaped (sheet c) (sheet_winners c.part) f.ranges a;
      })

  pub demand_2 : Demand2 c
  demand_2 = record {
    exactly = λ f. (accepted_acceptable, acceptable_accepted f);
    in_form = accepted_in_form c;
  }

  -- the third, of any discounts as a function
  pub accepted_best : Accepted c → (d : ℕ → Fraction) → Proper (sheet c).numbers.w d →
      Unlike (sheet c).numbers.w d (own (sheet c).numbers) → Admissible c.book (sheet c).bids d →
      Inferior (sheet c).numbers.w (sigma c.book (sheet c).bids) d (own (sheet c).numbers)
  accepted_best h d proper unlike a =
      let b = c.book in
      let n = (sheet c).numbers in
      let is = (sheet c).bids in
      let p = accepted_passed c h in
      let shaped = judgeable_shaped c j p.sound in
      let long = sheet_winners c.part in
      let (best, order) = winners_passed b shaped is p.sheet.winners p.sheet.value in
      fraction_optimal n (sigma b is) (rho b is) (scales n p.sheet.ranges).s p.sheet.numbers.balances d proper
      (admissible_reserve b shaped is n.w long best d proper a) (admissible_sets b shaped is n.w long best d proper a) unlike

  pub demand_3 : Demand3 c
  unfolding Demand3
  demand_3 h ds = accepted_best h (discount ds)
