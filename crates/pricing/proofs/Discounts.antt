-- Discounts as fractions over a common denominator: each statement on the fractions is the one on the numbers. Cited by the theorems on
-- discounts as fractions. Assumes nothing.
use mathlib.Core.Path.{◌≡◌}
use mathlib.Core.Bool.{cond}
use mathlib.Core.Logic.{⊎_map, ◌↔◌}
use Prim.Native.Nat.{ℕ, ◌*◌, ◌-◌, ◌^◌, ◌≤◌, ◌<◌}
use native.Mathlib.Nat.{le_refl, one-le-pow, mul-le-mul_right, le_of_mul-le-mul_right}
use native.Mathlib.Omega.{arith}
use Rattle.sets.specs.Sums.{sum}
use Rattle.sets.specs.Sets.{has, sum_in, single}
use Rattle.pricing.specs.Fractions.{Fraction, whole, minus, gap, square, AtMost, Less, Equal, total}
use Rattle.pricing.specs.Certificate.{WithinReserve, WithinSets, apart, distance, Worse}
use Rattle.pricing.specs.Auction.{Auction, NoneBetter}
use Rattle.pricing.specs.Discounts.{ReserveKept, SetsKept, NoneAbove, spread, Inferior}
use Rattle.pricing.proofs.Fractions.{Is, over_is, whole_is, zero_is, plus_is, minus_is, gap_is, square_of, cond_is, total_is}
use Rattle.pricing.proofs.Fractions.{at_most, less, equal}

-- against a whole number
pub under_whole : {D m : ℕ} {f : Fraction} (n : ℕ) → 1 ≤ D → Is D f m → AtMost f (whole n) ↔ m ≤ D * n
unfolding whole
under_whole {D} {m} n d x =
    let t = at_most d (le_refl 1) x (over_is n 1 (le_refl 1)) in
    (λ h. omega (arith, t.0 h), λ h. t.1 (omega arith))

-- over the same denominator
pub at_most_same : {D m n : ℕ} {f g : Fraction} → 1 ≤ D → Is D f m → Is D g n → AtMost f g ↔ m ≤ n
at_most_same {D} d x y =
    (λ h. le_of_mul-le-mul_right {k = D} ((at_most d d x y).0 h) d, λ h. (at_most d d x y).1 (mul-le-mul_right D h))

module _ (w D : ℕ) (positive : 1 ≤ D) (d : ℕ → Fraction) (y : ℕ → ℕ) (each : (j : ℕ) → j < w → Is D (d j) (y j)) where
  pub reserve_whole : (ρ : ℕ → ℕ) → ReserveKept w ρ d ↔ WithinReserve w D ρ y
  unfolding ReserveKept WithinReserve
  reserve_whole ρ =
      (λ h j l. (under_whole (ρ j) positive (each j l)).0 (h j l), λ h j l. (under_whole (ρ j) positive (each j l)).1 (h j l))

  sum_in_is : (L : ℕ) → Is D (total w (λ j. cond (has L j) (d j) (whole 0))) (sum_in w L y)
  unfolding sum_in
  sum_in_is L =
      total_is w D (λ j. cond (has L j) (d j) (whole 0)) (λ j. cond (has L j) (y j) 0) (λ j l. cond_is (has L j) (each j l) (zero_is D))

  pub sets_whole : (σ : ℕ → ℕ) → SetsKept w σ d ↔ WithinSets w D σ y
  unfolding SetsKept WithinSets
  sets_whole σ =
      (λ h L p l. (under_whole (σ L) positive (sum_in_is L)).0 (h L p l), λ h L p l. (under_whole (σ L) positive (sum_in_is L)).1 (h L p l))

  pub spread_is : (σ : ℕ → ℕ) → Is (D ^ 2) (spread w σ d) (distance w D σ y)
  unfolding spread distance
  spread_is σ =
      total_is w (D ^ 2) (λ j. square (gap (whole (σ (single j))) (d j))) (λ j. apart (D * σ (single j)) (y j) ^ 2)
      (λ j l. square_of (gap_is (whole_is D (σ (single j))) (each j l)))

  lowered_is : (g : ℕ → ℕ) → Is D (total w (λ k. minus (whole (g k)) (d k))) (sum w (λ k. D * g k - y k))
  lowered_is g = total_is w D (λ k. minus (whole (g k)) (d k)) (λ k. D * g k - y k) (λ k l. minus_is (whole_is D (g k)) (each k l))

  pub none_whole : (m : Auction w) (win : ℕ → ℕ) → NoneAbove m win d ↔ NoneBetter m D win y
  unfolding NoneAbove NoneBetter
  none_whole m win = (
    λ h a. (at_most_same positive (plus_is (whole_is D (m.rest a)) (lowered_is (m.gets a))) (lowered_is win)).0 (h a),
    λ h a. (at_most_same positive (plus_is (whole_is D (m.rest a)) (lowered_is (m.gets a))) (lowered_is win)).1 (h a),
  )

-- two lists of discounts, each over its denominator
module _ (w : ℕ) (σ : ℕ → ℕ) (q r : ℕ) (x y : ℕ → ℕ) (e d : ℕ → Fraction) (p : 1 ≤ q) (o : 1 ≤ r)
    (f : (j : ℕ) → j < w → Is q (e j) (x j)) (g : (j : ℕ) → j < w → Is r (d j) (y j)) where
  sums_less : Less (total w d) (total w e) ↔ sum w y * q < sum w x * r
  sums_less = less o p (total_is w r d y g) (total_is w q e x f)

  sums_equal : Equal (total w d) (total w e) ↔ sum w y * q ≡ sum w x * r
  sums_equal = equal o p (total_is w r d y g) (total_is w q e x f)

  spreads_less : Less (spread w σ e) (spread w σ d) ↔ distance w q σ x * r ^ 2 < distance w r σ y * q ^ 2
  spreads_less = less (one-le-pow 2 q p) (one-le-pow 2 r o) (spread_is w q p e x f σ) (spread_is w r o d y g σ)

  pub inferior_whole : Inferior w σ d e ↔ Worse w σ q x r y
  unfolding Worse Inferior
  inferior_whole = (
    ⊎_map sums_less.0 (λ t. (sums_equal.0 t.0, spreads_less.0 t.1)),
    ⊎_map sums_less.1 (λ t. (sums_equal.1 t.0, spreads_less.1 t.1)),
  )
