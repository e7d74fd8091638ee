-- Rows of a function's values: how long they are, what stands at a place, and which are the same. Cited by the laws of a book that is a
-- value, and by the layers above. Assumes nothing.
use mathlib.Core.Path.{◌≡◌, refl, sym, ap, ◌∙◌}
use mathlib.Core.Bool.{cond}
use mathlib.Core.List.{List, ◌∷◌, map}
use Prim.Native.Nat.{ℕ, zero, suc, ◌+◌, ◌≤◌, ◌<◌}
use native.Mathlib.Nat.{le_of_suc-le-suc}
use native.Mathlib.Decide.{dec_lt}
use native.Mathlib.Omega.{arith}
use lib.Dec.{ltb}
use lib.ListN.{length, get_or, take, get_or-eq_default}
use lib.Seq.{ext_get_or}
use borrow.Author.Tests.{lt-ltb, le-ltb}
use Rattle.std.proofs.lemmas.List.{get_or-take, length-take-le}
use Rattle.book.specs.Lists.{row}

module _ {A : Type 0} where
  pub row_length : (t i : ℕ) (f : ℕ → A) → length (row t i f) ≡ t
  unfolding row
  row_length zero i f = refl
  row_length (suc t) i f = ap suc (row_length t (i + 1) f)

  -- the entry at a place, past the last none, and both in one
  pub row_at : (t i : ℕ) (f : ℕ → A) (j : ℕ) (d : A) → j < t → get_or (row t i f) j d ≡ f (i + j)
  unfolding row
  row_at zero i f j d l = absurd (omega arith)
  row_at (suc t) i f zero d l = ap f (omega arith)
  row_at (suc t) i f (suc j) d l = row_at t (i + 1) f j d (le_of_suc-le-suc l) ∙ ap f (omega arith)

  pub row_past : (t i : ℕ) (f : ℕ → A) (j : ℕ) (d : A) → t ≤ j → get_or (row t i f) j d ≡ d
  row_past t i f j d l = get_or-eq_default (row t i f) d (omega (arith, row_length t i f))

  pub row_entry : (t i : ℕ) (f : ℕ → A) (j : ℕ) (d : A) → get_or (row t i f) j d ≡ cond (ltb j t) (f (i + j)) d
  row_entry t i f j d = elim (dec_lt j t) [
    | yes l ↦ rw (lt-ltb j t l) (row_at t i f j d l)
    | no l ↦ rw (le-ltb j t (omega arith)) (row_past t i f j d (omega arith))
  ]

  -- functions that agree from a place on have the same row
  pub row_same : (t i j : ℕ) (f g : ℕ → A) → ((p : ℕ) → p < t → f (i + p) ≡ g (j + p)) → row t i f ≡ row t j g
  unfolding row
  row_same zero i j f g h = refl
  row_same (suc t) i j f g h =
      let head : f i ≡ g j = ap f (omega arith) ∙ h 0 (omega arith) ∙ ap g (omega arith) in
      let tail : row t (i + 1) f ≡ row t (j + 1) g
      = row_same t (i + 1) (j + 1) f g (λ p l. ap f (omega arith) ∙ h (suc p) (omega arith) ∙ ap g (omega arith)) in
      rw (head, tail)

-- the first of a list, as a row, and what a function makes of a row
pub taken_row : {A : Type 0} (d : A) (m : ℕ) (xs : List A) → m ≤ length xs → take m xs ≡ row m 0 (λ i. get_or xs i d)
taken_row d m xs l =
    let long : length (take m xs) ≡ m = length-take-le m xs l in
    ext_get_or d (take m xs) _ (long ∙ sym (row_length m 0 (λ i. get_or xs i d))) (λ i k.
    let inside : i < m = omega arith in
    let here : 0 + i ≡ i = omega arith in
    get_or-take m xs i d inside ∙ sym (rw (row_at m 0 (λ i. get_or xs i d) i d inside, here)))

pub row_made : {A X : Type 0} (f : X → A) (m i : ℕ) (g : ℕ → X) → map f (row m i g) ≡ row m i (λ j. f (g j))
unfolding row
row_made f zero i g = refl
row_made f (suc m) i g = ap (◌∷◌ (f (g i))) (row_made f m (i + 1) g)

pub made_row : {A X : Type 0} (f : X → A) (d : X) (m : ℕ) (xs : List X) → m ≤ length xs
    → map f (take m xs) ≡ row m 0 (λ i. f (get_or xs i d))
made_row f d m xs l = ap (map f) (taken_row d m xs l) ∙ row_made f m 0 (λ i. get_or xs i d)
