-- Bounds for sets suffice: no allocation of the lowered amounts is worth more than the winning one exactly where the discounts of each set
-- of winners stay within what the set adds to the greatest value. Cited by the theorems on discounts as fractions. Assumes nothing.
use mathlib.Core.Path.{◌≡◌, sym, ap, ◌∙◌}
use mathlib.Core.Bool.{Bool, true, false, cond}
use mathlib.Core.Logic.{◌↔◌}
use Prim.Native.Nat.{ℕ, zero, suc, ◌+◌, ◌*◌, ◌-◌, ◌^◌, ◌≤◌, ◌<◌}
use native.Mathlib.Nat.{mul-le-mul_left}
use native.Mathlib.Omega.{arith}
use lib.Dec.{leb}
use borrow.Author.Tests.{leb-true, leb-false}
use Rattle.sets.specs.Sums.{sum}
use Rattle.sets.specs.Sets.{has, sum_in, set_of}
use Rattle.sets.proofs.Sums.{sum_ext, sum_le, sum_add, sum_mul}
use Rattle.sets.proofs.Members.{set_of_lt, has_set_of}
use Rattle.sets.proofs.Sets.{sum_in_mul, sum_in_out, sum_in_zero}
use Rattle.pricing.specs.Certificate.{WithinSets}
use Rattle.pricing.specs.Auction.{Auction, NoneBetter}

-- LOWERED AMOUNTS, term by term and in total
sum_out_mul : (w s c : ℕ) (f : ℕ → ℕ) → sum w (λ k. cond (has s k) 0 (c * f k)) ≡ c * sum w (λ k. cond (has s k) 0 (f k))
sum_out_mul w s c f =
    omega (arith, sum_in_out w s (λ k. c * f k), sum_mul w c f, sum_in_mul w s c f, ap (λ (z : ℕ). c * z) (sum_in_out w s f))

-- at most the discounts are taken off, and just they where nothing stops at zero
lowered_least : (w q : ℕ) (g d : ℕ → ℕ) → q * sum w g ≤ sum w (λ k. q * g k - d k) + sum w d
lowered_least w q g d =
    omega (
      arith,
      sum_mul w q g,
      sum_add w (λ k. q * g k - d k) d,
      sum_le w (λ k. q * g k) (λ k. q * g k - d k + d k) (λ k l. omega arith),
    )

lowered_exact : (w q : ℕ) (g d : ℕ → ℕ) → ((k : ℕ) → k < w → d k ≤ q * g k) → sum w (λ k. q * g k - d k) + sum w d ≡ q * sum w g
lowered_exact w q g d h =
    sym (sum_add w (λ k. q * g k - d k) d)
    ∙ sum_ext w (λ k. q * g k - d k + d k) (λ k. q * g k) (λ k l. omega (arith, h k l)) ∙ sum_mul w q g

out_le : (b : Bool) (m n : ℕ) → cond b 0 m ≤ (m - n) + cond b 0 n
out_le true m n = omega arith
out_le false m n = omega arith

-- the lowered amounts are at least those outside a set, less their discounts
lowered_outside : (w q s : ℕ) (g d : ℕ → ℕ) →
    q * sum w (λ k. cond (has s k) 0 (g k)) ≤ sum w (λ k. q * g k - d k) + sum w (λ k. cond (has s k) 0 (d k))
lowered_outside w q s g d =
    omega (
      arith,
      sum_out_mul w s q g,
      sum_add w (λ k. q * g k - d k) (λ k. cond (has s k) 0 (d k)),
      sum_le w (λ k. cond (has s k) 0 (q * g k)) (λ k. q * g k - d k + cond (has s k) 0 (d k)) (λ k l. out_le (has s k) (q * g k) (d k)),
    )

-- the winners whose lowered amount is zero
stopped : (w q : ℕ) (g d : ℕ → ℕ) → ℕ
stopped w q g d = set_of w (λ k. leb (q * g k) (d k))

out_stopped : (b : Bool) (m n : ℕ) → leb m n ≡ b → (m - n) + cond b 0 n ≡ cond b 0 m
out_stopped true m n e = omega (arith, leb-true m n e)
out_stopped false m n e = omega (arith, leb-false m n e)

-- for that set the two are equal
lowered_stopped : (w q : ℕ) (g d : ℕ → ℕ) →
    sum w (λ k. q * g k - d k) + sum w (λ k. cond (has (stopped w q g d) k) 0 (d k))
    ≡ q * sum w (λ k. cond (has (stopped w q g d) k) 0 (g k))
unfolding stopped
lowered_stopped w q g d =
    sym (sum_add w (λ k. q * g k - d k) (λ k. cond (has (stopped w q g d) k) 0 (d k)))
    ∙ sum_ext w (λ k. q * g k - d k + cond (has (stopped w q g d) k) 0 (d k)) (λ k. cond (has (stopped w q g d) k) 0 (q * g k))
    (λ k l. out_stopped (has (stopped w q g d) k) (q * g k) (d k) (sym (has_set_of w (λ i. leb (q * g i) (d i)) k l)))
    ∙ sum_out_mul w (stopped w q g d) q g

stopped_lt : (w q : ℕ) (g d : ℕ → ℕ) → stopped w q g d < 2 ^ w
unfolding stopped
stopped_lt w q g d = set_of_lt w (λ k. leb (q * g k) (d k))

-- BOUNDS FOR SETS SUFFICE
module _ {w : ℕ} (m : Auction w) (win σ : ℕ → ℕ) (surplus : (s : ℕ) → s < 2 ^ w → σ s + m.without s ≡ sum w win) (q : ℕ) (d : ℕ → ℕ) where
  -- the bound of the empty set needs no question
  within_any : WithinSets w q σ d → (s : ℕ) → s < 2 ^ w → sum_in w s d ≤ q * σ s
  unfolding WithinSets
  within_any sets zero l = omega (arith, sum_in_zero w d)
  within_any sets (suc s) l = sets (suc s) (omega arith) l

  -- the bound of the set of winners whose lowered amount is zero: for this direction the discounts need not be within what the winners get
  pub sets_enough : WithinSets w q σ d → NoneBetter m q win d
  unfolding NoneBetter
  sets_enough sets a =
      let s = stopped w q (m.gets a) d in
      let l = stopped_lt w q (m.gets a) d in
      omega (
        arith,
        within_any sets s l,
        lowered_stopped w q (m.gets a) d,
        lowered_least w q win d,
        sum_in_out w s d,
        mul-le-mul_left q (m.unbeaten s a l),
        ap (λ (z : ℕ). q * z) (surplus s l),
      )

  -- the allocation that is best without the set
  pub sets_needed : ((k : ℕ) → k < w → d k ≤ q * win k) → NoneBetter m q win d → WithinSets w q σ d
  unfolding NoneBetter WithinSets
  sets_needed within none L p l =
      let a = (m.attained L l).0 in
      omega (
        arith,
        none a,
        lowered_outside w q L (m.gets a) d,
        lowered_exact w q win d within,
        sum_in_out w L d,
        ap (λ (z : ℕ). q * z) (m.attained L l).1,
        ap (λ (z : ℕ). q * z) (surplus L l),
      )

  pub sets_suffice : ((k : ℕ) → k < w → d k ≤ q * win k) → NoneBetter m q win d ↔ WithinSets w q σ d
  sets_suffice within = (sets_needed within, sets_enough)
