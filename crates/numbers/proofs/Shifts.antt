-- What `1 << k` computes for k up to six: it loses no bit, and is at most 64. Cited by the proofs of functions that go through the sets of
-- up to six winners, in every layer. Assumes nothing.
use mathlib.Core.Path.{◌≡◌, refl, ap, ◌∙◌}
use Prim.Native.Nat.{ℕ, ◌*◌, ◌%◌, ◌^◌, ◌≤◌, min}
use native.Mathlib.Nat.{mod-eq_of_lt, one-mul, min-eq_left}
use native.Mathlib.Omega.{arith}
use lib.Pow.{pow_pos, pow_mono}

pub power_most : (k : ℕ) → k ≤ 6 → 2 ^ k ≤ 64
power_most k l = pow_mono l

pub power_shift : (k : ℕ) → k ≤ 6 → 1 * 2 ^ k % 2 ^ 64 ≡ 2 ^ k
power_shift k l = ap (λ (n : ℕ). n % 2 ^ 64) (one-mul (2 ^ k)) ∙ mod-eq_of_lt (omega (arith, power_most k l))

pub shifted : (k : ℕ) → k ≤ 6 → (1 * 2 ^ k % 2 ^ 64 ≡ 2 ^ k) × (1 ≤ 1 * 2 ^ k % 2 ^ 64) × (1 * 2 ^ k % 2 ^ 64 ≤ 64)
shifted k l = rw (power_shift k l) (refl, pow_pos k, power_most k l)

-- what `sets_end` answers for at most six winners
pub few_sets : {w end : ℕ} → w ≤ 6 → end ≡ 2 ^ min w 6 → end ≡ 2 ^ w
few_sets l e = e ∙ ap (λ (k : ℕ). 2 ^ k) (min-eq_left l)
