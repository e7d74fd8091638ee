-- The demands on judging, each of one call; proofs/Promise.antt shows them of every call of a book that was read or is a value. The
-- definitions that they speak in stand in the files before this one. Assumes nothing: these are definitions.
use Rattle.std.specs.Prelude.{List, ◌⊎◌, ◌↔◌, ◌≤◌}
use Rattle.pricing.specs.Fractions.{Fraction}
use Rattle.pricing.specs.Discounts.{Proper, own, Unlike, Inferior}
use Rattle.demands.specs.Winners.{sigma}
use Rattle.demands.specs.Call.{Call, sheet, call_refusal, Accepted}
use Rattle.demands.specs.Discounts.{discount, Admissible}
use Rattle.demands.specs.Acceptable.{InForm, Acceptable}

-- THE FIRST: a call is accepted, or it is refused with a number from 1 to 15
unfoldable pub Demand1 : Call → Type 0
Demand1 c = Accepted c ⊎ ((1 ≤ call_refusal c) × (call_refusal c ≤ 15))

-- THE SECOND: what is in form is accepted exactly where its sheet is acceptable, and nothing else is accepted
pub record Demand2 (c : Call) : Type 0 where
  pub exactly : InForm c → Accepted c ↔ Acceptable c.book (sheet c)
  pub in_form : Accepted c → InForm c

-- THE THIRD: against an accepted sheet, any other discounts, one for each winner, each with a denominator of its own, that are admissible
-- have a lesser sum, or an equal sum and a greater total of squared distances from each winner's own σ, which no ρ caps. (A list with more
-- or fewer than one for each winner is covered too.) Fractions are not below zero: with discounts below zero this would be false. Of three
-- kinds with one hour each and no reserve let there be a bid of 50 on each, and by others 90 on the first two and 90 on the first and the
-- third: the best discounts add up to 20, and -30, 40, 40 to 50.
unfoldable pub Demand3 : Call → Type 0
Demand3 c =
    let h = sheet c in
    Accepted c → (ds : List Fraction) → Proper h.numbers.w (discount ds) → Unlike h.numbers.w (discount ds) (own h.numbers) →
    Admissible c.book h.bids (discount ds) → Inferior h.numbers.w (sigma c.book h.bids) (discount ds) (own h.numbers)
