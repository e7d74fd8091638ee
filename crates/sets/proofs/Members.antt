-- Which numbers are members of a set: the empty set, the sets of one, the set of those that pass a test, and that a set is its members.
-- Cited by the laws of sums over sets and by whoever makes a set. Everything goes by the lowest bit and the half. Assumes nothing.
use mathlib.Core.Path.{◌≡◌, refl, sym, ap, fun_ext, ◌∙◌}
use mathlib.Core.Bool.{Bool, true, false, cond, true≢false}
use mathlib.Core.Logic.{◌≢◌}
use Prim.Native.Nat.{ℕ, zero, suc, ◌+◌, ◌*◌, ◌/◌, ◌%◌, ◌^◌, ◌≤◌, ◌<◌}
use native.Mathlib.Nat.{le_trans, le_of_suc-le-suc, not-suc-le-zero, zero-div, div-one, div-eq_of_lt, one-mul, pow-suc}
use native.Mathlib.Numerals.{one-add}
use native.Mathlib.Omega.{arith}
use lib.Bits as Bits
use lib.Bits.{bit_and}
use lib.Dec.{eqb, eqb-zero-suc, eqb-suc-zero, eqb-suc-suc}
use lib.Pow.{high, pow_pos, pow_mono, pow-lt, shr-shr}
use borrow.Author.Tests.{eqb-true, eqb-false, eq-eqb, ne_eqb}
use Rattle.sets.specs.Sets.{has, single, set_of}

-- what `(s >> k) & 1` computes
pub and_mask : (s k : ℕ) → bit_and (s / 2 ^ k) 1 ≡ s / 2 ^ k % 2
and_mask s k = Bits.and_mask (s / 2 ^ k) 1

-- a number where k is a member, and 0 where it is not, by the bit that is shifted down and masked
pub bit_held : (s k n : ℕ) → bit_and (s / 2 ^ k) 1 ≡ 1 → n ≡ cond (has s k) n 0
unfolding has
bit_held s k n e = ap (λ (b : Bool). cond b n 0) (sym (eq-eqb (s / 2 ^ k % 2) 1 (sym (and_mask s k) ∙ e)))

pub bit_none : (s k n : ℕ) → bit_and (s / 2 ^ k) 1 ≢ 1 → 0 ≡ cond (has s k) n 0
unfolding has
bit_none s k n e = ap (λ (b : Bool). cond b n 0) (sym (ne_eqb (s / 2 ^ k % 2) 1 (λ h. e (and_mask s k ∙ h))))

-- THE LOWEST BIT, AND THE HALF
pub has_low : (s : ℕ) → has s 0 ≡ eqb (s % 2) 1
unfolding has
has_low s = ap (λ (z : ℕ). eqb (z % 2) 1) (div-one s)

pub has_half : (s k : ℕ) → has s (suc k) ≡ has (s / 2) k
unfolding has
has_half s k = ap (λ (z : ℕ). eqb (z % 2) 1) (ap (λ (z : ℕ). s / 2 ^ z) (sym (one-add k)) ∙ sym (shr-shr s 1 k))

-- THE EMPTY SET
pub has_zero : (k : ℕ) → has 0 k ≡ false
unfolding has
has_zero k = ap (λ (z : ℕ). eqb (z % 2) 1) (zero-div (2 ^ k))

pub has_positive : (s k : ℕ) → has s k ≡ true → 1 ≤ s
has_positive zero k e = absurd (true≢false (sym e ∙ has_zero k))
has_positive (suc s) k e = omega arith

pub has_above : (w s k : ℕ) → s < 2 ^ w → w ≤ k → has s k ≡ false
unfolding has
has_above w s k l h = ap (λ (z : ℕ). eqb (z % 2) 1) (div-eq_of_lt (le_trans l (pow_mono h)))

-- A SET IS ITS MEMBERS
low_bits : (s t : ℕ) → eqb (s % 2) 1 ≡ eqb (t % 2) 1 → s % 2 ≡ t % 2
low_bits s t e = go (eqb (s % 2) 1) refl
  where
    go : (b : Bool) → eqb (s % 2) 1 ≡ b → s % 2 ≡ t % 2
    go true p = eqb-true (s % 2) 1 p ∙ sym (eqb-true (t % 2) 1 (sym e ∙ p))
    go false p =
        let m : s % 2 ≢ 1 = eqb-false (s % 2) 1 p in
        let n : t % 2 ≢ 1 = eqb-false (t % 2) 1 (sym e ∙ p) in
        omega arith

pub set_ext : (w s t : ℕ) → s < 2 ^ w → t < 2 ^ w → ((k : ℕ) → k < w → has s k ≡ has t k) → s ≡ t
set_ext zero s t l m h = omega arith
set_ext (suc w) s t l m h =
    omega (
      arith,
      set_ext w (s / 2) (t / 2) (omega arith) (omega arith) (λ k o. sym (has_half s k) ∙ h (suc k) (omega arith) ∙ has_half t k),
      low_bits s t (sym (has_low s) ∙ h 0 (omega arith) ∙ has_low t),
    )

-- THE SET OF THOSE THAT PASS A TEST
bit_le : (b : Bool) → cond b 1 0 ≤ 1
bit_le true = omega arith
bit_le false = omega arith

bit_rest : (b : Bool) (n : ℕ) → (cond b 1 0 + 2 * n) / 2 ≡ n
bit_rest b n = omega (arith, bit_le b)

odd : (n : ℕ) → (1 + 2 * n) % 2 ≡ 1
odd n = omega arith

even : (n : ℕ) → (0 + 2 * n) % 2 ≡ 0
even n = omega arith

bit_low : (b : Bool) (n : ℕ) → eqb ((cond b 1 0 + 2 * n) % 2) 1 ≡ b
bit_low true n = ap (λ (z : ℕ). eqb z 1) (odd n)
bit_low false n = ap (λ (z : ℕ). eqb z 1) (even n)

pub set_of_lt : (w : ℕ) (p : ℕ → Bool) → set_of w p < 2 ^ w
unfolding set_of
set_of_lt zero p = omega arith
set_of_lt (suc w) p = omega (arith, set_of_lt w (λ k. p (suc k)), bit_le (p 0))

pub has_set_of : (w : ℕ) (p : ℕ → Bool) (k : ℕ) → k < w → has (set_of w p) k ≡ p k
unfolding set_of
has_set_of zero p k l = absurd (not-suc-le-zero l)
has_set_of (suc w) p zero l = has_low (set_of (suc w) p) ∙ bit_low (p 0) (set_of w (λ k. p (suc k)))
has_set_of (suc w) p (suc k) l =
    has_half (set_of (suc w) p) k ∙ ap (λ (z : ℕ). has z k) (bit_rest (p 0) (set_of w (λ i. p (suc i))))
    ∙ has_set_of w (λ i. p (suc i)) k (le_of_suc-le-suc l)

-- one member more
pub set_of_add : (w x : ℕ) (p q : ℕ → Bool) → x < w → p x ≡ false → q x ≡ true → ((k : ℕ) → k ≢ x → q k ≡ p k) →
    set_of w p + 2 ^ x ≡ set_of w q
unfolding set_of
set_of_add zero x p q l a b same = absurd (omega arith)
set_of_add (suc w) zero p q l a b same =
    let tails : set_of w (λ k. q (suc k)) ≡ set_of w (λ k. p (suc k))
    = ap (λ (f : ℕ → Bool). set_of w f) (fun_ext (λ k. same (suc k) (λ e. omega arith))) in
    rw (a, b) (omega (arith, tails))
set_of_add (suc w) (suc x) p q l a b same =
    let heads : q 0 ≡ p 0 = same 0 (λ e. omega arith) in
    let tails = set_of_add w x (λ k. p (suc k)) (λ k. q (suc k)) (le_of_suc-le-suc l) a b (λ k n. same (suc k) (λ e. n (omega arith))) in
    rw (heads) (omega (arith, tails, pow-suc 2 x))

-- THE SETS OF ONE
power_even : (j : ℕ) → 2 ^ suc j % 2 ≡ 0
power_even j = omega (arith, pow-suc 2 j)

power_half : (j : ℕ) → 2 ^ suc j / 2 ≡ 2 ^ j
power_half j = omega (arith, pow-suc 2 j)

pub has_single : (j k : ℕ) → has (single j) k ≡ eqb j k
unfolding single
has_single zero zero = has_low 1
has_single zero (suc k) = has_half 1 k ∙ has_zero k ∙ sym (eqb-zero-suc k)
has_single (suc j) zero = has_low (2 ^ suc j) ∙ ap (λ (z : ℕ). eqb z 1) (power_even j) ∙ sym (eqb-suc-zero j)
has_single (suc j) (suc k) = has_half (2 ^ suc j) k ∙ ap (λ (z : ℕ). has z k) (power_half j) ∙ has_single j k ∙ sym (eqb-suc-suc j k)

pub single_positive : (j : ℕ) → 1 ≤ single j
unfolding single
single_positive j = pow_pos j

pub single_lt : (w j : ℕ) → j < w → single j < 2 ^ w
unfolding single
single_lt w j l = pow-lt l

-- SETS THAT REPEAT. A set from 2 ^ j on has place j, and of the places before it those of the set that it repeats
pub has_last : (j M : ℕ) → M < 2 ^ j → has (2 ^ j + M) j ≡ true
unfolding has
has_last j M l =
    let one : (2 ^ j + M) / 2 ^ j ≡ 1 = sym (ap (λ (x : ℕ). (x + M) / 2 ^ j) (one-mul (2 ^ j))) ∙ high 1 j l in
    ap (λ (x : ℕ). eqb (x % 2) 1) one

pub has_same : (j M i : ℕ) → i < j → has (2 ^ j + M) i ≡ has M i
has_same zero M i l = absurd (omega arith)
has_same (suc j) M zero l =
    let low : (2 ^ suc j + M) % 2 ≡ M % 2 = omega (arith, pow-suc 2 j) in
    has_low (2 ^ suc j + M) ∙ ap (λ (x : ℕ). eqb x 1) low ∙ sym (has_low M)
has_same (suc j) M (suc i) l =
    let half : (2 ^ suc j + M) / 2 ≡ 2 ^ j + M / 2 = omega (arith, pow-suc 2 j) in
    has_half (2 ^ suc j + M) i ∙ ap (λ (x : ℕ). has x i) half ∙ has_same j (M / 2) i (le_of_suc-le-suc l) ∙ sym (has_half M i)
