-- What the bounds imply: a discount is at most the bound of its winner alone, and lesser discounts are within the same bounds, as numbers
-- over one denominator and as fractions each with its own. Cited by whoever lowers accepted discounts. Assumes nothing.
use mathlib.Core.Path.{sym, subst}
use Prim.Native.Nat.{ℕ, ◌*◌, ◌≤◌, ◌<◌}
use native.Mathlib.Nat.{le_trans, le_of_eq, mul_comm, mul-le-mul_left, one-le-mul}
use Rattle.sets.specs.Sets.{single}
use Rattle.sets.proofs.Members.{single_positive, single_lt}
use Rattle.sets.proofs.Sets.{sum_in_le, sum_in_single}
use Rattle.pricing.specs.Fractions.{Fraction, AtMost}
use Rattle.pricing.specs.Certificate.{WithinReserve, WithinSets}
use Rattle.pricing.specs.Discounts.{Proper, ReserveKept, SetsKept}
use Rattle.pricing.proofs.Fractions.{Is}
use Rattle.pricing.proofs.Denominators.{Common, common, scaled}
use Rattle.pricing.proofs.Discounts.{at_most_same, reserve_whole, sets_whole}

-- the set of one winner
pub within_single : (w q : ℕ) (σ d : ℕ → ℕ) → WithinSets w q σ d → (j : ℕ) → j < w → d j ≤ q * σ (single j)
unfolding WithinSets
within_single w q σ d sets j l =
    le_trans (le_of_eq (sym (sum_in_single w j d l))) (sets (single j) (single_positive j) (single_lt w j l))

-- where no winner could claim more than ρ alone, the bounds of sets are enough
pub reserve_of_sets : (w q : ℕ) (σ ρ d : ℕ → ℕ) → ((j : ℕ) → j < w → σ (single j) ≤ ρ j) → WithinSets w q σ d → WithinReserve w q ρ d
unfolding WithinReserve
reserve_of_sets w q σ ρ d h sets j l = le_trans (within_single w q σ d sets j l) (mul-le-mul_left q (h j l))

-- lesser discounts
pub within_reserve_lesser : (w q : ℕ) (ρ d e : ℕ → ℕ) → ((k : ℕ) → k < w → e k ≤ d k) → WithinReserve w q ρ d → WithinReserve w q ρ e
unfolding WithinReserve
within_reserve_lesser w q ρ d e h reserve j l = le_trans (h j l) (reserve j l)

pub within_sets_lesser : (w q : ℕ) (σ d e : ℕ → ℕ) → ((k : ℕ) → k < w → e k ≤ d k) → WithinSets w q σ d → WithinSets w q σ e
unfolding WithinSets
within_sets_lesser w q σ d e h sets L p l = le_trans (sum_in_le w L e d h) (sets L p l)

-- two lists of fractions over one denominator, the product of a denominator of each
module _ (w : ℕ) (d e : ℕ → Fraction) (proper : Proper w d) (proper' : Proper w e) (h : (k : ℕ) → k < w → AtMost (e k) (d k)) where
  high : Common w d
  high = common w d proper

  low : Common w e
  low = common w e proper'

  den : ℕ
  den = high.den * low.den

  positive : 1 ≤ den
  unfolding den
  positive = one-le-mul high.positive low.positive

  greater : (k : ℕ) → k < w → Is den (d k) (high.num k * low.den)
  unfolding den
  greater k l = scaled low.den (high.each k l)

  lesser : (k : ℕ) → k < w → Is den (e k) (low.num k * high.den)
  unfolding den
  lesser k l = subst (λ (D : ℕ). Is D (e k) (low.num k * high.den)) (mul_comm low.den high.den) (scaled high.den (low.each k l))

  below : (k : ℕ) → k < w → low.num k * high.den ≤ high.num k * low.den
  below k l = (at_most_same positive (lesser k l) (greater k l)).0 (h k l)

  pub reserve_kept_lesser : (ρ : ℕ → ℕ) → ReserveKept w ρ d → ReserveKept w ρ e
  reserve_kept_lesser ρ kept =
      (reserve_whole w den positive e (λ k. low.num k * high.den) lesser ρ).1
      (within_reserve_lesser w den ρ (λ k. high.num k * low.den) (λ k. low.num k * high.den) below
      ((reserve_whole w den positive d (λ k. high.num k * low.den) greater ρ).0 kept))

  pub sets_kept_lesser : (σ : ℕ → ℕ) → SetsKept w σ d → SetsKept w σ e
  sets_kept_lesser σ kept =
      (sets_whole w den positive e (λ k. low.num k * high.den) lesser σ).1
      (within_sets_lesser w den σ (λ k. high.num k * low.den) (λ k. low.num k * high.den) below
      ((sets_whole w den positive d (λ k. high.num k * low.den) greater σ).0 kept))
