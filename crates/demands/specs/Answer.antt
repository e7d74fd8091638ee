-- What judging answers, as values (FORMAT, "Answers"): a number, w, q and six price places; and that the prices of an accepted sheet are
-- right. Cited by the contract of judging and by the table of worked calls. Assumes nothing: these are definitions.
use Rattle.std.specs.Prelude.{◌≡◌, cond, List, ℕ, ◌*◌, ◌-◌, ◌≤◌, ◌<◌, ltb, eqb, length, replicate}
use Rattle.market.specs.Market.{at}
use Rattle.sets.specs.Tables.{tabulate}
use Rattle.pricing.specs.Fractions.{over, whole, plus, Equal}
use Rattle.pricing.specs.Discounts.{own}
use Rattle.book.specs.Book.{Book}
use Rattle.demands.specs.Sheet.{Sheet}
use Rattle.demands.specs.Winners.{win}
use Rattle.demands.specs.Call.{Call, sheet, call_refusal, Accepted}

pub record Answer : Type 0 where
  pub number : ℕ
  pub w : ℕ
  pub q : ℕ
  pub prices : List ℕ

-- the price of winner k over q, its amount less its discount; places from w up are 0
unfoldable pub price : Book → Sheet → (k : ℕ) → ℕ
price b h k = cond (ltb k h.numbers.w) (h.numbers.q * win b h.bids k - h.numbers.X k) 0

unfoldable pub acceptance : Book → Sheet → Answer
acceptance b h = record { number = 0; w = h.numbers.w; q = h.numbers.q; prices = tabulate 6 (price b h) }

-- a refusal has its number and zeros
unfoldable pub refusal : (number : ℕ) → Answer
refusal n = record { number = n; w = 0; q = 0; prices = replicate 6 0 }

-- the answer that goes with a number
unfoldable pub answer : (number : ℕ) → Book → Sheet → Answer
answer n b h = let accepted = acceptance b h in cond (eqb n 0) accepted (refusal n)

unfoldable pub answer_of : Call → Answer
answer_of c = answer (call_refusal c) c.book (sheet c)

-- THE PRICES ARE RIGHT: each, over q, makes the winner's amount together with its discount, so nothing stopped at zero
pub record Priced (b : Book) (h : Sheet) (r : Answer) : Type 0 where
  pub number : r.number ≡ 0
  pub w : r.w ≡ length h.bids
  pub q : r.q ≡ h.numbers.q
  pub positive : 1 ≤ r.q
  pub places : length r.prices ≡ 6
  pub price : (k : ℕ) → k < length h.bids →
      Equal (plus (over (at r.prices k) r.q) (own h.numbers k)) (whole (win b h.bids k))
  pub rest : (k : ℕ) → length h.bids ≤ k → at r.prices k ≡ 0

-- an answer of zeros but for its number
pub record Zeros (r : Answer) : Type 0 where
  pub w : r.w ≡ 0
  pub q : r.q ≡ 0
  pub prices : r.prices ≡ replicate 6 0

-- what is answered to a call: its number; right prices on acceptance, zeros after a refusal
pub record Answered (c : Call) : Type 0 where
  pub number : (answer_of c).number ≡ call_refusal c
  pub priced : Accepted c → Priced c.book (sheet c) (answer_of c)
  pub zeros : 1 ≤ call_refusal c → Zeros (answer_of c)
