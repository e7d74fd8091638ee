-- The set of the numbers below n that pass a test, from the last down to t: with each number more the set doubles. Cited by the proof of
-- src/client_sets.rt. Assumes nothing.
use mathlib.Core.Path.{◌≡◌, refl, sym, ap, ap₂, fun_ext, ◌∙◌}
use mathlib.Core.Bool.{Bool, true, false, cond}
use mir.Val.{bool_byte}
use Prim.Native.Nat.{ℕ, suc, ◌+◌, ◌*◌, ◌-◌, ◌^◌, ◌≤◌, ◌<◌}
use native.Mathlib.Nat.{pow-suc}
use native.Mathlib.Omega.{arith}
use Rattle.sets.specs.Sets.{set_of}

-- a test as a number
pub bit_is : (b : Bool) → bool_byte b ≡ cond b 1 0
bit_is true = refl
bit_is false = refl

bit_most : (b : Bool) → cond b 1 0 ≤ 1
bit_most true = omega arith
bit_most false = omega arith

pub from_last_next : (n : ℕ) (q : ℕ → Bool) (t set now : ℕ) (b : Bool) → 0 < t → t ≤ n → set ≡ set_of (n - t) (λ i. q (t + i))
    → b ≡ q (t - 1) → now ≡ cond b 1 0 + 2 * set → now ≡ set_of (n - (t - 1)) (λ i. q (t - 1 + i))
unfolding set_of
from_last_next n q t set now b some few es eb en =
    let longer : n - (t - 1) ≡ suc (n - t) = omega arith in
    let here : t - 1 + 0 ≡ t - 1 = omega arith in
    let later : (i : ℕ) → t - 1 + suc i ≡ t + i = λ i. omega arith in
    rw longer (en ∙ ap₂ (λ (x : Bool) (y : ℕ). cond x 1 0 + 2 * y) (eb ∙ ap q (sym here))
    (es ∙ ap (λ (f : ℕ → Bool). set_of (n - t) f) (fun_ext (λ i. ap q (sym (later i))))))

-- and it stays below the sets' end
pub from_last_few : (n t set now : ℕ) (b : Bool) → 0 < t → t ≤ n → set < 2 ^ (n - t) → now ≡ cond b 1 0 + 2 * set
    → now < 2 ^ (n - (t - 1))
from_last_few n t set now b some few l e =
    let longer : n - (t - 1) ≡ suc (n - t) = omega arith in
    rw longer (omega (arith, pow-suc 2 (n - t), bit_most b))

-- once all are passed
pub from_last_all : (n t set : ℕ) (q : ℕ → Bool) → t ≡ 0 → set ≡ set_of (n - t) (λ i. q (t + i)) → set ≡ set_of n q
from_last_all n t set q z e =
    let all : n - 0 ≡ n = omega arith in
    let from : (i : ℕ) → 0 + i ≡ i = λ i. omega arith in
    rw (z, all) at e ∙ ap (λ (f : ℕ → Bool). set_of n f) (fun_ext (λ i. ap q (from i)))
