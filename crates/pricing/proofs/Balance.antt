-- The equation of stationarity, which has a number with a sign in it, as an equation of whole numbers. Cited by the proof that certified
-- discounts are best, and by the check of question 14. Assumes nothing.
use mathlib.Core.Path.{◌≡◌, sym, ap, ◌∙◌}
use mathlib.Core.Logic.{◌↔◌}
use Prim.Native.Nat.{ℕ, suc, ◌+◌}
use native.Mathlib.Omega.{arith}
use lib.IntN.{ℤ, pos, negsuc, nat_abs, ◌+ℤ◌, ◌-ℤ◌, +ℤ_assoc, +ℤ_comm, +ℤ_invl, +ℤ-neg_ℤ_cancel, -ℤ-+ℤ_cancel}

right_comm : (a b c : ℤ) → a +ℤ b +ℤ c ≡ a +ℤ c +ℤ b
right_comm a b c = +ℤ_assoc a b c ∙ ap (λ z. a +ℤ z) (+ℤ_comm b c) ∙ sym (+ℤ_assoc a c b)

-- what is added to both sides can be taken away
cancel : (a b c : ℤ) → a +ℤ c ≡ b +ℤ c → a ≡ b
cancel a b c e = sym (+ℤ-neg_ℤ_cancel a c) ∙ ap (λ z. z -ℤ c) e ∙ +ℤ-neg_ℤ_cancel b c

-- g is m - n: then a - x ≡ g + u + r - t says a + t + n ≡ m + u + r + x
module _ (g : ℤ) (m n : ℕ) (parts : g +ℤ pos n ≡ pos m) (a x u r t : ℕ) where
  -- both sides with x, t and n added
  left : pos a -ℤ pos x +ℤ pos x +ℤ pos t +ℤ pos n ≡ pos (a + t + n)
  left = ap (λ z. z +ℤ pos t +ℤ pos n) (-ℤ-+ℤ_cancel (pos a) (pos x))

  right : g +ℤ pos u +ℤ pos r -ℤ pos t +ℤ pos x +ℤ pos t +ℤ pos n ≡ pos (m + u + r + x)
  right =
      ap (λ z. z +ℤ pos n)
      (right_comm (g +ℤ pos u +ℤ pos r -ℤ pos t) (pos x) (pos t)
      ∙ ap (λ z. z +ℤ pos x) (-ℤ-+ℤ_cancel (g +ℤ pos u +ℤ pos r) (pos t)))
      ∙ right_comm (g +ℤ pos u +ℤ pos r) (pos x) (pos n)
      ∙ ap (λ z. z +ℤ pos x) (right_comm (g +ℤ pos u) (pos r) (pos n))
      ∙ ap (λ z. z +ℤ pos r +ℤ pos x) (right_comm g (pos u) (pos n))
      ∙ ap (λ z. z +ℤ pos u +ℤ pos r +ℤ pos x) parts

  pub balance_iff : (pos a -ℤ pos x ≡ g +ℤ pos u +ℤ pos r -ℤ pos t) ↔ (a + t + n ≡ m + u + r + x)
  balance_iff = (forth, back)
    where
      forth : pos a -ℤ pos x ≡ g +ℤ pos u +ℤ pos r -ℤ pos t → a + t + n ≡ m + u + r + x
      forth e = ap nat_abs (sym left ∙ ap (λ z. z +ℤ pos x +ℤ pos t +ℤ pos n) e ∙ right)

      back : a + t + n ≡ m + u + r + x → pos a -ℤ pos x ≡ g +ℤ pos u +ℤ pos r -ℤ pos t
      back e =
          cancel (pos a -ℤ pos x) (g +ℤ pos u +ℤ pos r -ℤ pos t) (pos x)
          (cancel (pos a -ℤ pos x +ℤ pos x) (g +ℤ pos u +ℤ pos r -ℤ pos t +ℤ pos x) (pos t)
          (cancel (pos a -ℤ pos x +ℤ pos x +ℤ pos t) (g +ℤ pos u +ℤ pos r -ℤ pos t +ℤ pos x +ℤ pos t) (pos n)
          (left ∙ ap pos e ∙ sym right)))

-- a number is its positive part less its negative part
unfoldable pub above_zero : ℤ → ℕ
above_zero (pos n) = n
above_zero (negsuc n) = 0

unfoldable pub below_zero : ℤ → ℕ
below_zero (pos n) = 0
below_zero (negsuc n) = suc n

parts : (g : ℤ) → g +ℤ pos (below_zero g) ≡ pos (above_zero g)
unfolding above_zero below_zero
parts (pos n) = ap pos (omega arith)
parts (negsuc n) = +ℤ_invl (pos (suc n))

pub balance : (a x u r t : ℕ) (g : ℤ) → pos a -ℤ pos x ≡ g +ℤ pos u +ℤ pos r -ℤ pos t →
    a + t + below_zero g ≡ above_zero g + u + r + x
balance a x u r t g = (balance_iff g (above_zero g) (below_zero g) (parts g) a x u r t).0
