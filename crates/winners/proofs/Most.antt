-- No bid of a sound book offers more than 1,000,000, and no combination is worth more than 6,000,000. Cited by the layers above, whose
-- numbers are bounded by it. Assumes nothing.
use mathlib.Core.Path.{ap}
use Prim.Native.Nat.{ℕ, zero, suc, ◌*◌, ◌≤◌}
use native.Mathlib.Decide.{dec_lt}
use native.Mathlib.Omega.{arith}
use lib.ListN.{length, get_or-eq_default}
use Rattle.book.specs.Book.{Book, Bid, no_bid, bid_at, clients}
use Rattle.book.specs.Sound.{Sound}
use Rattle.market.proofs.Best.{best_most}
use Rattle.winners.specs.Combinations.{amount_of}
use Rattle.winners.specs.Greatest.{greatest, greatest_without}

-- whatever the bid's number
pub amount_most : (b : Book) → Sound b → (i : ℕ) → amount_of b i ≤ 1000000
unfolding amount_of bid_at no_bid
amount_most b s zero = omega arith
amount_most b s (suc i) = elim (dec_lt i (length b.bids)) [
  | yes l ↦ s.amount_high (suc i) (omega arith) l
  | no l ↦ omega (arith, ap (λ (x : Bid). x.amount) (get_or-eq_default b.bids no_bid {n = i} (omega arith)))
]

pub greatest_most : (b : Book) → Sound b → (d : ℕ) → greatest b d ≤ 6000000
unfolding greatest greatest_without
greatest_most b s d =
    let most : greatest b d ≤ 1000000 * clients b = best_most _ _ 1000000 (amount_most b s) _ _ _ in
    omega (arith, s.n_high)
