-- Discounts as fractions, each with a denominator of its own: their bounds, their sum, their distance, and what an auction allows. Cited by
-- the statements on accepted discounts. Assumes nothing: these are definitions.
use Rattle.std.specs.Prelude.{cond, ◌⊎◌, ℕ, ◌^◌, ◌≤◌, ◌<◌}
use Rattle.sets.specs.Sets.{has, single}
use Rattle.pricing.specs.Fractions.{Fraction, over, whole, plus, minus, gap, square, AtMost, Less, Equal, total}
use Rattle.pricing.specs.Certificate.{Certificate}
use Rattle.pricing.specs.Auction.{Auction}

-- no denominator is zero
unfoldable pub Proper : (w : ℕ) → (d : ℕ → Fraction) → Type 0
Proper w d = (j : ℕ) → j < w → 1 ≤ (d j).den

-- no discount is above its winner's bound
unfoldable pub ReserveKept : (w : ℕ) → (ρ : ℕ → ℕ) → (d : ℕ → Fraction) → Type 0
ReserveKept w ρ d = (j : ℕ) → j < w → AtMost (d j) (whole (ρ j))

-- the discounts of no set add up to more than the set's bound
unfoldable pub SetsKept : (w : ℕ) → (σ : ℕ → ℕ) → (d : ℕ → Fraction) → Type 0
SetsKept w σ d = (L : ℕ) → 1 ≤ L → L < 2 ^ w → AtMost (total w (λ j. cond (has L j) (d j) (whole 0))) (whole (σ L))

-- no allocation is worth more than the winning one once each winner's amounts are lowered by its discount, but not below zero
unfoldable pub NoneAbove : {w : ℕ} → Auction w → (win : ℕ → ℕ) → (d : ℕ → Fraction) → Type 0
NoneAbove {w} m win d =
    (a : m.Allocation) →
    AtMost (plus (whole (m.rest a)) (total w (λ k. minus (whole (m.gets a k)) (d k)))) (total w (λ k. minus (whole (win k)) (d k)))

-- the discounts that a certificate gives
unfoldable pub own : Certificate → (winner : ℕ) → Fraction
own c j = over (c.X j) c.q

-- the total of squared distances from what each winner could claim alone
unfoldable pub spread : (w : ℕ) → (σ : ℕ → ℕ) → (d : ℕ → Fraction) → Fraction
spread w σ d = total w (λ j. square (gap (whole (σ (single j))) (d j)))

-- some discount of d has another value than that of e
unfoldable pub Unlike : (w : ℕ) → (d e : ℕ → Fraction) → Type 0
Unlike w d e = (j : ℕ) × (j < w) × (¬ Equal (d j) (e j))

-- d has a lesser sum than e, or an equal sum and a greater distance
unfoldable pub Inferior : (w : ℕ) → (σ : ℕ → ℕ) → (d e : ℕ → Fraction) → Type 0
Inferior w σ d e = Less (total w d) (total w e) ⊎ (Equal (total w d) (total w e) × Less (spread w σ e) (spread w σ d))
