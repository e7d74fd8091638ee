-- Cases on a test with the equation kept, and a choice made by a test. Cited by the other files of proofs/, and by the layers above.
-- Assumes nothing.
use mathlib.Core.Path.{◌≡◌, refl}
use mathlib.Core.Bool.{Bool, true, false, cond}
use mathlib.Core.Logic.{◌⊎◌, inl, inr}

pub either : (b : Bool) → (b ≡ true) ⊎ (b ≡ false)
either true = inl refl
either false = inr refl

module _ {A : Type 0} where
  -- what holds of both choices, each where it is made, holds of the choice
  pub cond_cases : (P : A → Type 0) (b : Bool) (x y : A) → (b ≡ true → P x) → (b ≡ false → P y) → P (cond b x y)
  cond_cases P true x y f g = f refl
  cond_cases P false x y f g = g refl

  pub cond_true : (b : Bool) (x y : A) → b ≡ true → cond b x y ≡ x
  cond_true b x y e = rw e

  pub cond_false : (b : Bool) (x y : A) → b ≡ false → cond b x y ≡ y
  cond_false b x y e = rw e
