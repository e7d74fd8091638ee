-- The test of each question is true exactly where what it asks holds. Cited by the controls, and by whoever rests on a test's answer.
-- Assumes nothing.
use mathlib.Core.Path.{◌≡◌, refl, sym, ap, ◌∙◌}
use mathlib.Core.Bool.{Bool, true, false, ◌&&◌, ◌||◌, false≢true, and-eq-true_iff}
use mathlib.Core.Logic.{◌≢◌, inl, inr, ◌↔◌}
use Prim.Native.Nat.{ℕ, zero, suc, ◌-◌, ◌^◌, ◌≤◌, ◌<◌}
use native.Mathlib.Nat.{le_refl, eq-or-lt_of_le, le_of_suc-le-suc, not-suc-le-zero}
use native.Mathlib.Omega.{arith}
use lib.Dec.{leb, eqb}
use lib.IntN.{ℤ, pos, negsuc}
use borrow.Author.Tests.{leb-true, le-leb, eqb-true, eqb-false, eq-eqb}
use Rattle.pricing.specs.Certificate.{Certificate, WithinReserve, WithinSets}
use Rattle.pricing.specs.Questions.{Question, within_reserve, within_sets, cover, totals, stationary}
use Rattle.pricing.specs.Questions.{slack_sets, slack_reserve, slack_zero}
use Rattle.pricing.specs.Questions.{Asks, every, every_set, same_signed, slack, test}

-- EVERY NUMBER, EVERY SET
every_passes : (n : ℕ) (p : ℕ → Bool) → every n p ≡ true → (k : ℕ) → k < n → p k ≡ true
unfolding every
every_passes zero p e k l = absurd (not-suc-le-zero l)
every_passes (suc n) p e k l =
    elim (eq-or-lt_of_le (le_of_suc-le-suc l)) [
      | inl m ↦ ap p m ∙ ((and-eq-true_iff (every n p) (p n)).0 e).1
      | inr m ↦ every_passes n p ((and-eq-true_iff (every n p) (p n)).0 e).0 k m
    ]

every_true : (n : ℕ) (p : ℕ → Bool) → ((k : ℕ) → k < n → p k ≡ true) → every n p ≡ true
unfolding every
every_true zero p h = refl
every_true (suc n) p h = ap (λ (b : Bool). b && p n) (every_true n p (λ k l. h k (omega arith))) ∙ h n (le_refl (suc n))

pub every_iff : (n : ℕ) (p : ℕ → Bool) (P : ℕ → Type 0) → ((k : ℕ) → (p k ≡ true) ↔ P k) → (every n p ≡ true) ↔ ((k : ℕ) → k < n → P k)
every_iff n p P h = (λ e k l. (h k).0 (every_passes n p e k l), λ f. every_true n p (λ k l. (h k).1 (f k l)))

pub every_set_iff : (w : ℕ) (p : ℕ → Bool) (P : ℕ → Type 0) → ((L : ℕ) → (p L ≡ true) ↔ P L) →
    (every_set w p ≡ true) ↔ ((L : ℕ) → 1 ≤ L → L < 2 ^ w → P L)
unfolding every_set
every_set_iff w p P h = (passes, λ f. t.1 (λ i l. f (suc i) (omega arith) (omega arith)))
  where
    t : (every (2 ^ w - 1) (λ i. p (suc i)) ≡ true) ↔ ((i : ℕ) → i < 2 ^ w - 1 → P (suc i))
    t = every_iff (2 ^ w - 1) (λ i. p (suc i)) (λ i. P (suc i)) (λ i. h (suc i))

    passes : every (2 ^ w - 1) (λ i. p (suc i)) ≡ true → (L : ℕ) → 1 ≤ L → L < 2 ^ w → P L
    passes e zero o l = absurd (not-suc-le-zero o)
    passes e (suc i) o l = t.0 e i (omega arith)

-- ONE NUMBER
pub leb_iff : (a b : ℕ) → (leb a b ≡ true) ↔ (a ≤ b)
leb_iff a b = (leb-true a b, le-leb a b)

pub eqb_iff : (a b : ℕ) → (eqb a b ≡ true) ↔ (a ≡ b)
eqb_iff a b = (eqb-true a b, eq-eqb a b)

same_signed_eq : (m n : ℤ) → same_signed m n ≡ true → m ≡ n
unfolding same_signed
same_signed_eq (pos m) (pos n) e = ap pos (eqb-true m n e)
same_signed_eq (pos m) (negsuc n) e = absurd (false≢true e)
same_signed_eq (negsuc m) (pos n) e = absurd (false≢true e)
same_signed_eq (negsuc m) (negsuc n) e = ap negsuc (eqb-true m n e)

same_signed_refl : (m : ℤ) → same_signed m m ≡ true
unfolding same_signed
same_signed_refl (pos m) = eq-eqb m m refl
same_signed_refl (negsuc m) = eq-eqb m m refl

same_signed_iff : (m n : ℤ) → (same_signed m n ≡ true) ↔ (m ≡ n)
same_signed_iff m n = (same_signed_eq m n, λ e. ap (λ z. same_signed m z) (sym e) ∙ same_signed_refl m)

slack_iff : (u a b : ℕ) → (slack u a b ≡ true) ↔ (u ≢ 0 → a ≡ b)
unfolding slack
slack_iff u a b = go (eqb u 0) refl
  where
    go : (t : Bool) → eqb u 0 ≡ t → ((t || eqb a b) ≡ true) ↔ (u ≢ 0 → a ≡ b)
    go true p = (λ e n. absurd (n (eqb-true u 0 p)), λ h. refl)
    go false p = (λ e n. eqb-true a b e, λ h. eq-eqb a b (h (eqb-false u 0 p)))

-- THE QUESTIONS
pub test_iff : (x : Question) (c : Certificate) (σ ρ : ℕ → ℕ) → (test x c σ ρ ≡ true) ↔ Asks x c σ ρ
unfolding test Asks WithinReserve WithinSets
test_iff within_reserve c σ ρ = every_iff c.w _ _ (λ j. leb_iff _ _)
test_iff within_sets c σ ρ = every_set_iff c.w _ _ (λ L. leb_iff _ _)
test_iff cover c σ ρ = every_iff c.w _ _ (λ j. leb_iff _ _)
test_iff totals c σ ρ = eqb_iff _ _
test_iff stationary c σ ρ = every_iff c.w _ _ (λ j. same_signed_iff _ _)
test_iff slack_sets c σ ρ = every_set_iff c.w _ _ (λ L. slack_iff _ _ _)
test_iff slack_reserve c σ ρ = every_iff c.w _ _ (λ j. slack_iff _ _ _)
test_iff slack_zero c σ ρ = every_iff c.w _ _ (λ j. slack_iff _ _ _)
