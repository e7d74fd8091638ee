-- An example: an auction of two winners whose bids of 50 and 40 are set against one bid of 50 by another, with the certificate of the
-- controls, and other discounts with denominators of their own. So the theorems on auctions and on fractions are not empty. Cited by
-- nothing. Assumes nothing.
use mathlib.Core.Path.{◌≡◌, refl}
use mathlib.Core.Bool.{Bool, true, false, cond}
use Prim.Native.Nat.{ℕ, zero, suc, ◌+◌, ◌*◌, ◌≤◌, ◌<◌}
use native.Mathlib.Omega.{arith}
use lib.Dec.{lit≤, lit<}
use Rattle.sets.specs.Sums.{sum}
use Rattle.sets.specs.Sets.{has}
use Rattle.pricing.specs.Auction.{Auction, NoneBetter}
use Rattle.pricing.specs.Fractions.{Fraction, over, whole, plus, AtMost, Equal, total}
use Rattle.pricing.specs.Discounts.{Proper, ReserveKept, SetsKept, NoneAbove, own, Unlike, Inferior}
use Rattle.pricing.proofs.Controls.{pair, by_set, none, good, good_certified}
use Rattle.pricing.proofs.Suffice.{sets_suffice}
use Rattle.pricing.proofs.Best.{fraction_optimal, fraction_sets_suffice}

-- THE AUCTION. Two allocations: the winners' bids (true), and the other bid (false)
rest : Bool → ℕ
rest true = 0
rest false = 50

gets : Bool → ℕ → ℕ
gets true = pair 50 40
gets false = none

without : ℕ → ℕ
without zero = 90
without (suc s) = 50

unbeaten : (s : ℕ) (a : Bool) → s < 4 → rest a + sum 2 (λ k. cond (has s k) 0 (gets a k)) ≤ without s
unfolding rest gets without sum has
unbeaten zero true l = lit≤ tt
unbeaten zero false l = lit≤ tt
unbeaten (suc zero) true l = lit≤ tt
unbeaten (suc zero) false l = lit≤ tt
unbeaten (suc (suc zero)) true l = lit≤ tt
unbeaten (suc (suc zero)) false l = lit≤ tt
unbeaten (suc (suc (suc zero))) true l = lit≤ tt
unbeaten (suc (suc (suc zero))) false l = lit≤ tt
unbeaten (suc (suc (suc (suc s)))) a l = omega arith

attained : (s : ℕ) → s < 4 → (a : Bool) × (rest a + sum 2 (λ k. cond (has s k) 0 (gets a k)) ≡ without s)
unfolding rest gets without sum has
attained zero l = (true, refl)
attained (suc zero) l = (false, refl)
attained (suc (suc zero)) l = (false, refl)
attained (suc (suc (suc zero))) l = (false, refl)
attained (suc (suc (suc (suc s)))) l = absurd (omega arith)

market : Auction 2
market = record { Allocation = Bool; rest = rest; gets = gets; without = without; unbeaten = unbeaten; attained = attained }

surplus : (s : ℕ) → s < 4 → by_set 40 40 40 s + without s ≡ sum 2 (pair 50 40)
unfolding without sum
surplus zero l = refl
surplus (suc zero) l = refl
surplus (suc (suc zero)) l = refl
surplus (suc (suc (suc s))) l = refl

good_kept : NoneBetter market 1 (pair 50 40) (pair 20 20)
unfolding market
good_kept = (sets_suffice market (pair 50 40) (by_set 40 40 40) surplus 1 (pair 20 20) within).1 good_certified.sets
  where
    within : (k : ℕ) → k < 2 → pair 20 20 k ≤ 1 * pair 50 40 k
    within zero l = lit≤ tt
    within (suc k) l = lit≤ tt

-- OTHER DISCOUNTS: 31 / 2 and 98 / 4 have the same sum, 40
other : ℕ → Fraction
other zero = over 31 2
other (suc k) = over 98 4

other_proper : Proper 2 other
unfolding Proper other over
other_proper zero l = lit≤ tt
other_proper (suc k) l = lit≤ tt

other_reserve : ReserveKept 2 (pair 50 40) other
unfolding ReserveKept AtMost other whole over
other_reserve zero l = lit≤ tt
other_reserve (suc k) l = lit≤ tt

other_sets : SetsKept 2 (by_set 40 40 40) other
unfolding SetsKept AtMost total plus other whole over has
other_sets zero p l = lit≤ tt
other_sets (suc zero) p l = lit≤ tt
other_sets (suc (suc zero)) p l = lit≤ tt
other_sets (suc (suc (suc zero))) p l = lit≤ tt
other_sets (suc (suc (suc (suc s)))) p l = absurd (omega arith)

other_unlike : Unlike 2 other (own good)
unfolding Unlike Equal own other over
other_unlike = (0, lit< tt, λ e. omega arith)

other_kept : NoneAbove market (pair 50 40) other
unfolding market
other_kept = (fraction_sets_suffice market (pair 50 40) (by_set 40 40 40) surplus other other_proper other_reserve).1 other_sets

other_inferior : Inferior 2 (by_set 40 40 40) other (own good)
other_inferior =
    fraction_optimal good (by_set 40 40 40) (pair 50 40) good_certified.positive good_certified.balances
    other other_proper other_reserve other_sets other_unlike
