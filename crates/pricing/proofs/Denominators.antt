-- Finitely many fractions have a common denominator. No division is used: one more fraction multiplies the denominator by its own. Cited by
-- the laws of discounts as fractions. Assumes nothing.
use mathlib.Core.Path.{◌≡◌, refl, sym, ap, subst}
use mathlib.Core.Bool.{Bool, cond}
use mathlib.Core.Logic.{inl, inr}
use Prim.Native.Nat.{ℕ, zero, suc, ◌*◌, ◌≤◌, ◌<◌}
use native.Mathlib.Nat.{le_refl, one-le-mul, eq-or-lt_of_le, le_of_suc-le-suc, not-suc-le-zero, ne_of_lt}
use native.Mathlib.Omega.{arith}
use lib.Dec.{eqb}
use borrow.Author.Tests.{eq-eqb, ne_eqb}
use Rattle.pricing.specs.Fractions.{Fraction}
use Rattle.pricing.specs.Discounts.{Proper}
use Rattle.pricing.proofs.Fractions.{Is}

-- each of the first w fractions is a number over one denominator
pub record Common (w : ℕ) (d : ℕ → Fraction) : Type 0 where
  pub den : ℕ
  pub positive : 1 ≤ den
  pub num : ℕ → ℕ
  pub each : (j : ℕ) → j < w → Is den (d j) (num j)

-- a fraction over D is one over a multiple of D
pub scaled : {D n : ℕ} {f : Fraction} (c : ℕ) → Is D f n → Is (D * c) f (n * c)
scaled {D} {n} {f} c x = record { proper = x.proper; equal = omega (arith, ap (λ (z : ℕ). z * c) x.equal) }

-- and a fraction is one over a multiple of its own denominator
itself : (f : Fraction) (D : ℕ) → 1 ≤ f.den → Is (D * f.den) f (D * f.num)
itself f D l = record { proper = l; equal = omega arith }

-- the numbers of the first w, and that of one more
more : (w : ℕ) → (num : ℕ → ℕ) → (next : ℕ) → ℕ → ℕ
more w num next j = cond (eqb j w) next (num j)

more_next : (w : ℕ) (num : ℕ → ℕ) (next : ℕ) → next ≡ more w num next w
unfolding more
more_next w num next = sym (ap (λ (b : Bool). cond b next (num w)) (eq-eqb w w refl))

more_first : (w : ℕ) (num : ℕ → ℕ) (next j : ℕ) → j < w → num j ≡ more w num next j
unfolding more
more_first w num next j l = sym (ap (λ (b : Bool). cond b next (num j)) (ne_eqb j w (ne_of_lt l)))

one_more : (w : ℕ) (d : ℕ → Fraction) → Common w d → 1 ≤ (d w).den → Common (suc w) d
one_more w d c l =
    record {
      den = c.den * (d w).den;
      positive = one-le-mul c.positive l;
      num = num;
      each = λ j m. elim (eq-or-lt_of_le (le_of_suc-le-suc m)) [ inl e ↦ last j e | inr h ↦ first j h ];
    }
  where
    next : ℕ
    next = c.den * (d w).num

    num : ℕ → ℕ
    num = more w (λ j. c.num j * (d w).den) next

    first : (j : ℕ) → j < w → Is (c.den * (d w).den) (d j) (num j)
    first j h =
        subst (λ (n : ℕ). Is (c.den * (d w).den) (d j) n) (more_first w (λ i. c.num i * (d w).den) next j h)
        (scaled (d w).den (c.each j h))

    last : (j : ℕ) → j ≡ w → Is (c.den * (d w).den) (d j) (num j)
    last j e =
        subst (λ (i : ℕ). Is (c.den * (d w).den) (d i) (num i)) (sym e)
        (subst (λ (n : ℕ). Is (c.den * (d w).den) (d w) n) (more_next w (λ i. c.num i * (d w).den) next) (itself (d w) c.den l))

pub common : (w : ℕ) (d : ℕ → Fraction) → Proper w d → Common w d
unfolding Proper
common zero d h = record { den = 1; positive = le_refl 1; num = λ j. 0; each = λ j l. absurd (not-suc-le-zero l) }
common (suc w) d h = one_more w d (common w d (λ j l. h j (omega arith))) (h w (le_refl (suc w)))
