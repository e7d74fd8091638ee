-- When p is the nearest to a: the inequality for one winner from the stationarity of its distance, and its sum over the winners. The eight
-- numbers of a winner are plain variables here. Cited by the proof that certified discounts are best. Assumes nothing.
use mathlib.Core.Path.{◌≡◌, ap}
use mathlib.Core.Logic.{◌≢◌}
use Prim.Native.Nat.{ℕ, zero, suc, ◌+◌, ◌*◌, ◌≤◌, ◌<◌}
use native.Mathlib.Nat.{le_refl}
use native.Mathlib.Omega.{arith}
use Rattle.sets.specs.Sums.{sum}
use Rattle.sets.proofs.Sums.{term_le}
use Rattle.pricing.proofs.Squares.{square_gap, square_gap_positive, square_gap_expand}

-- a - p is v + n + l - u - k, where k stands against p only and l against t only: then (a - t) ^ 2 is at least
-- (a - p) ^ 2 + (p - t) ^ 2 + 2 (v + n - u) (p - t)
pub gain : (a p t u v n k l : ℕ) → a + k + u ≡ v + n + l + p → k * p ≤ k * t → l * t ≤ l * p →
    square_gap a p + square_gap p t + 2 * (u * t) + 2 * (v * p) + 2 * (n * p)
    ≤ square_gap a t + 2 * (v * t) + 2 * (u * p) + 2 * (n * t)
gain a p t u v n k l e zero-side reserve-side =
    omega (arith, square_gap_expand a p, square_gap_expand p t, square_gap_expand a t, ap (λ (z : ℕ). z * p) e, ap (λ (z : ℕ). z * t) e)

-- such inequalities added up
sum_gain : (w : ℕ) (A B C m p t : ℕ → ℕ) (u v : ℕ) →
    ((j : ℕ) → j < w →
    A j + B j + 2 * (u * t j) + 2 * (v * p j) + 2 * (m j * p j) ≤ C j + 2 * (v * t j) + 2 * (u * p j) + 2 * (m j * t j)) →
    sum w A + sum w B + 2 * (u * sum w t) + 2 * (v * sum w p) + 2 * sum w (λ j. m j * p j)
    ≤ sum w C + 2 * (v * sum w t) + 2 * (u * sum w p) + 2 * sum w (λ j. m j * t j)
unfolding sum
sum_gain zero A B C m p t u v h = omega arith
sum_gain (suc w) A B C m p t u v h =
    omega (arith, sum_gain w A B C m p t u v (λ j l. h j (omega arith)), h w (le_refl (suc w)))

-- with equal sums, and sets that p meets, any other t is farther
pub nearest : (w : ℕ) (a p t m : ℕ → ℕ) (u v : ℕ) →
    ((j : ℕ) → j < w →
    square_gap (a j) (p j) + square_gap (p j) (t j) + 2 * (u * t j) + 2 * (v * p j) + 2 * (m j * p j)
    ≤ square_gap (a j) (t j) + 2 * (v * t j) + 2 * (u * p j) + 2 * (m j * t j)) →
    sum w t ≡ sum w p → sum w (λ j. m j * t j) ≤ sum w (λ j. m j * p j) → (j : ℕ) → j < w → p j ≢ t j →
    sum w (λ i. square_gap (a i) (p i)) < sum w (λ i. square_gap (a i) (t i))
nearest w a p t m u v gains totals sets j l d =
    omega (
      arith,
      sum_gain w (λ i. square_gap (a i) (p i)) (λ i. square_gap (p i) (t i))
          (λ i. square_gap (a i) (t i)) m p t u v gains,
      ap (λ (z : ℕ). u * z) totals,
      ap (λ (z : ℕ). v * z) totals,
      term_le w (λ i. square_gap (p i) (t i)) j l,
      square_gap_positive (p j) (t j) d,
    )
