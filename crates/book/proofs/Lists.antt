-- A test of all, from a loop that ends with the first no: where each that is passed is good all are, and one that is not is the answer; and
-- from a chain, which says that it is true exactly where each is good. Cited by the proofs of src/tables.rt, src/asked.rt and src/paid.rt.
-- Assumes nothing.
use mathlib.Core.Path.{◌≡◌, refl, sym, ap, ◌∙◌}
use mathlib.Core.Bool.{Bool, true, false, ◌&&◌, true≢false}
use mathlib.Core.List.{List, [], ◌∷◌, map}
use mathlib.Core.Logic.{◌↔◌}
use Prim.Native.Nat.{ℕ, ◌+◌, ◌≤◌, ◌<◌}
use native.Mathlib.Nat.{le_of_eq}
use native.Mathlib.Omega.{arith}
use lib.ListN.{length, get_or}
use borrow.Author.Count.{below_more}
use Rattle.std.specs.Prelude.{IsTrue, EachIndex}
use Rattle.book.specs.Lists.{all, row}
use Rattle.book.proofs.RowLaws.{row_length, row_at}
use Rattle.book.proofs.Tests.{all_true, true_all}

pub no_more : (t : Bool) → (t ≡ true → ⊥) → t ≡ false
no_more true h = absurd (h refl)
no_more false h = refl

module _ {A : Type 0} (p : A → Bool) (d : A) where
  pub all_passed : (xs : List A) (i : ℕ) → length xs ≤ i → ((j : ℕ) → j < i → p (get_or xs j d) ≡ true) → true ≡ all p xs
  all_passed xs i l h = sym (true_all p d xs (λ j k. h j (omega arith)))

  pub one_not : (xs : List A) (i : ℕ) → i < length xs → p (get_or xs i d) ≡ false → false ≡ all p xs
  one_not xs i l e = sym (no_more (all p xs) (λ h. true≢false (sym (all_true p d xs h i l) ∙ e)))

  -- the same of a row
  pub row_passed : (m i : ℕ) (f : ℕ → A) → m ≤ i → ((j : ℕ) → j < i → p (f j) ≡ true) → true ≡ all p (row m 0 f)
  row_passed m i f l h =
      all_passed (row m 0 f) m (le_of_eq (row_length m 0 f)) (λ j k.
      let here : 0 + j ≡ j = omega arith in
      rw (row_at m 0 f j d k, here) (h j (omega arith)))

  pub row_not : (m i : ℕ) (f : ℕ → A) → i < m → p (f i) ≡ false → false ≡ all p (row m 0 f)
  row_not m i f l e =
      let here : 0 + i ≡ i = omega arith in
      one_not (row m 0 f) i (omega (arith, row_length m 0 f)) (rw (row_at m 0 f i d l, here) e)

  -- where each is passed but the last, the answer is that of the last
  pub row_last : (m i : ℕ) (f : ℕ → A) (t : Bool) → m ≡ i + 1 → ((j : ℕ) → j < i → p (f j) ≡ true) → t ≡ p (f i) → t ≡ all p (row m 0 f)
  row_last m i f true e h q = row_passed m (i + 1) f (omega arith) (below_more _ _ h (sym q))
  row_last m i f false e h q = row_not m i f (omega arith) (sym q)

all_map : {A X : Type 0} (p : A → Bool) (f : X → A) (xs : List X) → all (λ x. p (f x)) xs ≡ all p (map f xs)
unfolding all
all_map p f [] = refl
all_map p f (x ∷ xs) = ap (λ (t : Bool). p (f x) && t) (all_map p f xs)

module _ {X : Type 0} (d : X) where
  pub all_each : (p : X → Bool) (xs : List X) (t : Bool) → (IsTrue t ↔ EachIndex xs (λ k. p (get_or xs k d) ≡ true)) → t ≡ all p xs
  all_each p xs true h = sym (true_all p d xs (h.0 refl))
  all_each p xs false h = sym (no_more (all p xs) (λ e. true≢false (sym (h.1 (all_true p d xs e)))))

  -- the same of what a function makes of each
  pub all_each_made : {A : Type 0} (p : A → Bool) (f : X → A) (xs : List X) (t : Bool)
      → (IsTrue t ↔ EachIndex xs (λ k. p (f (get_or xs k d)) ≡ true)) → t ≡ all p (map f xs)
  all_each_made p f xs t h = all_each (λ x. p (f x)) xs t h ∙ all_map p f xs
