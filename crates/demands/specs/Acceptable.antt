-- The two sides of the second demand: a call in form, and a sheet that deserves to be accepted. The greatest value is said without the
-- recursion, and admissible discounts without bounds on sets. Cited by the demands. Assumes nothing: these are definitions.
use Rattle.std.specs.Prelude.{◌≡◌, true, List, ℕ, ◌≤◌}
use Rattle.pricing.specs.Certificate.{Balances}
use Rattle.pricing.specs.Discounts.{own}
use Rattle.book.specs.Book.{Book}
use Rattle.winners.specs.Combinations.{Combination, Rising, worth}
use Rattle.demands.specs.Sheet.{Sheet}
use Rattle.demands.specs.Winners.{sigma, rho}
use Rattle.pricing.specs.Ranges.{in_range}
use Rattle.demands.specs.Questions.{form_good}
use Rattle.demands.specs.Call.{Call, sheet}
use Rattle.demands.specs.Discounts.{Admissible}

-- a sheet in its layout (question 6) and its ranges (7) after a sound book (1 to 5)
pub record InForm (c : Call) : Type 0 where
  pub sound : c.refusal ≡ 0
  pub layout : form_good c.book c.part ≡ true
  pub ranges : in_range (sheet c).numbers ≡ true

-- a combination of greatest value
pub record Optimal (b : Book) (is : List ℕ) : Type 0 where
  pub combination : Combination b is
  pub unbeaten : (xs : List ℕ) → Combination b xs → worth b xs ≤ worth b is

-- winners by strictly rising client and of greatest value, admissible discounts X / q, and multipliers in balance (questions 12 to 15)
pub record Acceptable (b : Book) (h : Sheet) : Type 0 where
  pub order : Rising b h.bids
  pub winners : Optimal b h.bids
  pub discounts : Admissible b h.bids (own h.numbers)
  pub multipliers : Balances h.numbers (sigma b h.bids) (rho b h.bids)
