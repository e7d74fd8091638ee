-- What judging promises of its answer to any call: every field as a value, and demands 1, 2 and 3 (demands/specs/Promise.antt) on the
-- number that is answered. The contract of `judge_sheet`, for the call of an input, and of `judge_over` and `judge_sound`, for that of a
-- book that is a value and the bytes of a sheet. Assumes nothing: these are definitions.
use Rattle.std.specs.Prelude.{◌≡◌, ◌⊎◌, ◌↔◌, ◌≤◌}
use Rattle.demands.specs.Call.{Call, sheet, call_refusal, Accepted}
use Rattle.demands.specs.Answer.{Answer, answer_of, Priced, Zeros}
use Rattle.demands.specs.Promise.{Demand2, Demand3}
use Rattle.judge.specs.declared.prices.Prices.{Prices}

-- the code's answer as the definitions' one
abbrev pub answer_in : Prices → Answer
answer_in r = record { number = r.number; w = r.w; q = r.q; prices = r.prices }

pub record Judgement (c : Call) (r : Prices) : Type 0 where
  -- number, w, q and all six places, zeros after a refusal included
  pub fields : answer_in r ≡ answer_of c
  -- the number is that of the first question answered no, and 0 is acceptance, which the demands speak of
  pub number_is : r.number ≡ call_refusal c
  pub accepted : (r.number ≡ 0) ↔ Accepted c
  -- 1: the number is 0, or it is 1 to 15 and everything else is 0
  pub demand_1 : (r.number ≡ 0) ⊎ ((1 ≤ r.number) × (r.number ≤ 15) × Zeros (answer_in r))
  -- 2: what is in form is accepted exactly where it is acceptable, nothing else is accepted, and each price with its discount makes the bid
  pub demand_2 : Demand2 c
  pub priced : r.number ≡ 0 → Priced c.book (sheet c) (answer_in r)
  -- 3: no other discounts do as well
  pub demand_3 : Demand3 c
