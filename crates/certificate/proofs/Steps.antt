-- The steps of loops that test or add up one number after another, over an index from 0 or over the sets from 1. Cited by the
-- attributes and proofs of the functions with a loop. Assumes nothing.
use mathlib.Core.Path.{◌≡◌, refl, sym, ap, ◌∙◌}
use mathlib.Core.Bool.{Bool, true, ◌&&◌}
use Prim.Native.Nat.{ℕ, suc, ◌+◌, ◌-◌, ◌^◌, ◌≤◌, min}
use native.Mathlib.Numerals.{add-one}
use native.Mathlib.Omega.{arith}
use Rattle.sets.specs.Sums.{sum}
use Rattle.sets.specs.Sets.{over_sets}
use Rattle.numbers.proofs.Shifts.{few_sets}
use Rattle.pricing.specs.Questions.{every, every_set}

-- ONE NUMBER AFTER ANOTHER
pub every_none : (p : ℕ → Bool) → every 0 p ≡ true
unfolding every
every_none p = refl

pub every_next : (p : ℕ → Bool) (n : ℕ) → every (n + 1) p ≡ (every n p && p n)
unfolding every
every_next p n = ap (λ (k : ℕ). every k p) (add-one n)

pub sum_none : (f : ℕ → ℕ) → sum 0 f ≡ 0
unfolding sum
sum_none f = refl

pub sum_next : (f : ℕ → ℕ) (n : ℕ) → sum (n + 1) f ≡ sum n f + f n
unfolding sum
sum_next f n = ap (λ (k : ℕ). sum k f) (add-one n)

-- ONE SET AFTER ANOTHER. Those from 1 and before a set
unfoldable pub every_before : (set : ℕ) → (p : ℕ → Bool) → Bool
every_before n p = every (n - 1) (λ i. p (suc i))

unfoldable pub sum_before : (set : ℕ) → (f : ℕ → ℕ) → ℕ
sum_before n f = sum (n - 1) (λ i. f (suc i))

next : (n : ℕ) → 1 ≤ n → suc (n - 1) ≡ n
next n l = omega arith

step : (n : ℕ) → 1 ≤ n → n + 1 - 1 ≡ n - 1 + 1
step n l = omega arith

pub every_before_none : (p : ℕ → Bool) → every_before 1 p ≡ true
unfolding every_before every
every_before_none p = refl

pub every_before_next : (p : ℕ → Bool) (n : ℕ) → 1 ≤ n → every_before (n + 1) p ≡ (every_before n p && p n)
unfolding every_before
every_before_next p n l =
    ap (λ (k : ℕ). every k (λ i. p (suc i))) (step n l) ∙ every_next (λ i. p (suc i)) (n - 1)
    ∙ ap (λ (k : ℕ). every_before n p && p k) (next n l)

pub every_set_before : (p : ℕ → Bool) (w : ℕ) → w ≤ 6 → every_set w p ≡ every_before (2 ^ min w 6) p
unfolding every_before every_set
every_set_before p w few = ap (λ (n : ℕ). every_before n p) (sym (few_sets few refl))

pub sum_before_none : (f : ℕ → ℕ) → sum_before 1 f ≡ 0
unfolding sum_before sum
sum_before_none f = refl

pub sum_before_next : (f : ℕ → ℕ) (n : ℕ) → 1 ≤ n → sum_before (n + 1) f ≡ sum_before n f + f n
unfolding sum_before
sum_before_next f n l =
    ap (λ (k : ℕ). sum k (λ i. f (suc i))) (step n l) ∙ sum_next (λ i. f (suc i)) (n - 1)
    ∙ ap (λ (k : ℕ). sum_before n f + f k) (next n l)

pub over_sets_before : (f : ℕ → ℕ) (w : ℕ) → w ≤ 6 → over_sets w f ≡ sum_before (2 ^ min w 6) f
unfolding sum_before over_sets
over_sets_before f w few = ap (λ (n : ℕ). sum_before n f) (sym (few_sets few refl))

-- where the sets of at most six winners end
pub end_few : (w : ℕ) → w ≤ 6 → 2 ^ min w 6 ≡ 2 ^ w
end_few w few = few_sets few refl

-- all of them, for the attributes of functions with a loop
pub ruleset steps = (
  every_none,
  every_next,
  sum_none,
  sum_next,
  every_before_none,
  every_before_next,
  every_set_before,
  sum_before_none,
  sum_before_next,
  over_sets_before,
  end_few,
)
