-- The laws of sums over a set's members and over sets, and their exchange: what the sets of each member carry, added over the members, is
-- what the members of each set carry, added over the sets. Cited by the laws of certificates and of auctions. Assumes nothing.
use mathlib.Core.Path.{◌≡◌, refl, sym, ap, ◌∙◌}
use mathlib.Core.Bool.{Bool, true, false, cond}
use mathlib.Core.Logic.{◌≢◌}
use Prim.Native.Nat.{ℕ, zero, suc, ◌+◌, ◌*◌, ◌-◌, ◌^◌, ◌≤◌, ◌<◌}
use native.Mathlib.Nat.{mul_comm, mul-zero, le_refl, not-suc-le-zero}
use native.Mathlib.Omega.{arith}
use borrow.Author.Tests.{eq-eqb, ne_eqb}
use Rattle.sets.specs.Sums.{sum}
use Rattle.sets.specs.Sets.{has, sum_in, over_sets, holding, single}
use Rattle.sets.proofs.Sums.{sum_ext, sum_le, sum_zero, sum_add, sum_mul, sum_swap, sum_one, sum_tight, term_positive}
use Rattle.sets.proofs.Members.{has_single, has_zero}

-- OVER A SET'S MEMBERS
pub sum_in_ext : (w s : ℕ) (f g : ℕ → ℕ) → ((k : ℕ) → k < w → f k ≡ g k) → sum_in w s f ≡ sum_in w s g
unfolding sum_in
sum_in_ext w s f g h =
    sum_ext w (λ k. cond (has s k) (f k) 0) (λ k. cond (has s k) (g k) 0) (λ k l. ap (λ (z : ℕ). cond (has s k) z 0) (h k l))

in_le : (b : Bool) {m n : ℕ} → m ≤ n → cond b m 0 ≤ cond b n 0
in_le true l = l
in_le false l = le_refl 0

pub sum_in_le : (w s : ℕ) (f g : ℕ → ℕ) → ((k : ℕ) → k < w → f k ≤ g k) → sum_in w s f ≤ sum_in w s g
unfolding sum_in
sum_in_le w s f g h = sum_le w (λ k. cond (has s k) (f k) 0) (λ k. cond (has s k) (g k) 0) (λ k l. in_le (has s k) (h k l))

in_mul : (b : Bool) (c n : ℕ) → cond b (c * n) 0 ≡ c * cond b n 0
in_mul true c n = refl
in_mul false c n = sym (mul-zero c)

pub sum_in_mul : (w s c : ℕ) (f : ℕ → ℕ) → sum_in w s (λ k. c * f k) ≡ c * sum_in w s f
unfolding sum_in
sum_in_mul w s c f =
    sum_ext w (λ k. cond (has s k) (c * f k) 0) (λ k. c * cond (has s k) (f k) 0) (λ k l. in_mul (has s k) c (f k))
    ∙ sum_mul w c (λ k. cond (has s k) (f k) 0)

in_out : (b : Bool) (n : ℕ) → n ≡ cond b n 0 + cond b 0 n
in_out true n = omega arith
in_out false n = omega arith

-- those in the set and those outside it are all
pub sum_in_out : (w s : ℕ) (f : ℕ → ℕ) → sum w f ≡ sum_in w s f + sum w (λ k. cond (has s k) 0 (f k))
unfolding sum_in
sum_in_out w s f =
    sum_ext w f (λ k. cond (has s k) (f k) 0 + cond (has s k) 0 (f k)) (λ k l. in_out (has s k) (f k))
    ∙ sum_add w (λ k. cond (has s k) (f k) 0) (λ k. cond (has s k) 0 (f k))

pub sum_in_zero : (w : ℕ) (f : ℕ → ℕ) → sum_in w 0 f ≡ 0
unfolding sum_in
sum_in_zero w f = sum_zero w (λ k. cond (has 0 k) (f k) 0) (λ k l. ap (λ (b : Bool). cond b (f k) 0) (has_zero k))

pub sum_in_single : (w j : ℕ) (f : ℕ → ℕ) → j < w → sum_in w (single j) f ≡ f j
unfolding sum_in
sum_in_single w j f l = sum_one w (λ k. cond (has (single j) k) (f k) 0) j l others ∙ value
  where
    others : (k : ℕ) → k < w → k ≢ j → cond (has (single j) k) (f k) 0 ≡ 0
    others k m e = ap (λ (b : Bool). cond b (f k) 0) (has_single j k ∙ ne_eqb j k (λ p. e (sym p)))

    value : cond (has (single j) j) (f j) 0 ≡ f j
    value = ap (λ (b : Bool). cond b (f j) 0) (has_single j j ∙ eq-eqb j j refl)

-- OVER THE SETS
pub over_ext : (w : ℕ) (f g : ℕ → ℕ) → ((s : ℕ) → 1 ≤ s → s < 2 ^ w → f s ≡ g s) → over_sets w f ≡ over_sets w g
unfolding over_sets
over_ext w f g h = sum_ext (2 ^ w - 1) (λ i. f (suc i)) (λ i. g (suc i)) (λ i l. h (suc i) (omega arith) (omega arith))

pub over_le : (w : ℕ) (f g : ℕ → ℕ) → ((s : ℕ) → 1 ≤ s → s < 2 ^ w → f s ≤ g s) → over_sets w f ≤ over_sets w g
unfolding over_sets
over_le w f g h = sum_le (2 ^ w - 1) (λ i. f (suc i)) (λ i. g (suc i)) (λ i l. h (suc i) (omega arith) (omega arith))

pub over_mul : (w c : ℕ) (f : ℕ → ℕ) → over_sets w (λ s. c * f s) ≡ c * over_sets w f
unfolding over_sets
over_mul w c f = sum_mul (2 ^ w - 1) c (λ i. f (suc i))

-- equal sums of terms of which none is above its partner are equal set by set
pub over_tight : (w : ℕ) (f g : ℕ → ℕ) → ((s : ℕ) → 1 ≤ s → s < 2 ^ w → f s ≤ g s) → over_sets w g ≤ over_sets w f →
    (s : ℕ) → 1 ≤ s → s < 2 ^ w → f s ≡ g s
unfolding over_sets
over_tight w f g h e zero p l = absurd (not-suc-le-zero p)
over_tight w f g h e (suc i) p l =
    sum_tight (2 ^ w - 1) (λ k. f (suc k)) (λ k. g (suc k)) (λ k m. h (suc k) (omega arith) (omega arith)) e i (omega arith)

-- a member of which the sets carry something is in a set that carries something
pub holding_positive : (w k : ℕ) (f : ℕ → ℕ) → 1 ≤ holding w k f → (s : ℕ) × (1 ≤ s) × (s < 2 ^ w) × (has s k ≡ true) × (1 ≤ f s)
unfolding holding over_sets
holding_positive w k f h = found (term_positive (2 ^ w - 1) (λ i. cond (has (suc i) k) (f (suc i)) 0) h)
  where
    held : (b : Bool) (n : ℕ) → 1 ≤ cond b n 0 → (b ≡ true) × (1 ≤ n)
    held true n l = (refl, l)
    held false n l = absurd (not-suc-le-zero l)

    found : (i : ℕ) × (i < 2 ^ w - 1) × (1 ≤ cond (has (suc i) k) (f (suc i)) 0) →
        (s : ℕ) × (1 ≤ s) × (s < 2 ^ w) × (has s k ≡ true) × (1 ≤ f s)
    found t =
        let l : t.0 < 2 ^ w - 1 = t.1 in
        let b = held (has (suc t.0) k) (f (suc t.0)) t.2 in
        (suc t.0, omega arith, omega arith, b.0, b.1)

-- THE EXCHANGE
factor_held : (b : Bool) (m n : ℕ) → m * cond b n 0 ≡ n * cond b m 0
factor_held true m n = mul_comm m n
factor_held false m n = mul-zero m ∙ sym (mul-zero n)

factor_in : (w s : ℕ) (n : ℕ) (x : ℕ → ℕ) → sum w (λ k. x k * cond (has s k) n 0) ≡ n * sum_in w s x
unfolding sum_in
factor_in w s n x =
    sum_ext w (λ k. x k * cond (has s k) n 0) (λ k. n * cond (has s k) (x k) 0) (λ k l. factor_held (has s k) (x k) n)
    ∙ sum_mul w n (λ k. cond (has s k) (x k) 0)

pub exchange : (w : ℕ) (x y : ℕ → ℕ) → sum w (λ k. x k * holding w k y) ≡ over_sets w (λ s. y s * sum_in w s x)
unfolding holding over_sets
exchange w x y =
    sum_ext w (λ k. x k * holding w k y) (λ k. sum (2 ^ w - 1) (λ i. x k * cond (has (suc i) k) (y (suc i)) 0))
    (λ k l. sym (sum_mul (2 ^ w - 1) (x k) (λ i. cond (has (suc i) k) (y (suc i)) 0)))
    ∙ sum_swap w (2 ^ w - 1) (λ k i. x k * cond (has (suc i) k) (y (suc i)) 0)
    ∙ sum_ext (2 ^ w - 1) (λ i. sum w (λ k. x k * cond (has (suc i) k) (y (suc i)) 0)) (λ i. y (suc i) * sum_in w (suc i) x)
    (λ i l. factor_in w (suc i) (y (suc i)) x)
