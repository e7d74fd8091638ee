-- An array that is filled from a place on reads as a column of a sheet: a number of each of w winners, or of each of their non-empty sets.
-- Cited by the proofs of the loop that fills columns and of what is read by it. Assumes nothing.
use mathlib.Core.Path.{◌≡◌, refl, sym, ap, fun_ext, ◌∙◌}
use mathlib.Core.Bool.{Bool, cond, ◌&&◌}
use mathlib.Core.List.{List}
use Prim.Native.Nat.{ℕ, ◌^◌, ◌≤◌, ◌<◌}
use native.Mathlib.Decide.{dec_lt}
use native.Mathlib.Omega.{arith}
use lib.Dec.{leb, ltb}
use lib.ListN.{replicate, length-replicate}
use borrow.Author.Tests.{le-leb, lt-leb, lt-ltb, le-ltb}
use Rattle.sets.proofs.Filled.{Filled, zeros_at}
use Rattle.certificate.specs.Figures.{at}
use Rattle.demands.specs.Sheet.{of_winner, of_set}
use Rattle.judge.specs.Columns.{Column}

-- numbers from a place on, and 0 before it
unfoldable pub from_place : (first : ℕ) → (f : ℕ → ℕ) → (i : ℕ) → ℕ
from_place first f i = cond (leb first i) (f i) 0

module _ (first : ℕ) (f : ℕ → ℕ) where
  pub at_place : (i : ℕ) → first ≤ i → from_place first f i ≡ f i
  unfolding from_place
  at_place i l = ap (λ (b : Bool). cond b (f i) 0) (le-leb first i l)

  pub before_place : (i : ℕ) → i < first → from_place first f i ≡ 0
  unfolding from_place
  before_place i l = ap (λ (b : Bool). cond b (f i) 0) (lt-leb first i l)

-- nothing is filled yet: all before the first place is 0
pub column_none : (n first : ℕ) (f : ℕ → ℕ) → Filled n (from_place first f) first (replicate n 0)
column_none n first f = record {
  long = length-replicate n 0;
  below = λ i l. zeros_at n i ∙ sym (before_place first f i l);
  above = λ i l. zeros_at n i;
}

-- up to the end, or with nothing to fill, it is the column
pub column_full : (n first end : ℕ) (f : ℕ → ℕ) (i : ℕ) (xs : List ℕ) → first ≤ i → end ≤ i → i ≤ end
    → Filled n (from_place first f) i xs → Column first end f xs
column_full n first end f i xs low high stop h k =
    elim (dec_lt k first) [
      | yes l ↦ h.below k (omega arith) ∙ before_place first f k l ∙ sym (rw (lt-leb first k l) refl)
      | no g ↦
          elim (dec_lt k end) [
            | yes l ↦
                h.below k (omega arith) ∙ at_place first f k (omega arith)
                ∙ sym (rw (le-leb first k (omega arith), lt-ltb k end l) refl)
            | no past ↦ h.above k (omega arith) ∙ sym (rw (le-leb first k (omega arith), le-ltb k end (omega arith)) refl)
          ]
    ]

module _ (w : ℕ) (f : ℕ → ℕ) (xs : List ℕ) where
  -- a number of each of w winners
  pub winners_read : Column 0 w f xs → at xs ≡ of_winner w f
  unfolding of_winner
  winners_read h = fun_ext (λ j. h j ∙ ap (λ (b : Bool). cond (b && ltb j w) (f j) 0) (le-leb 0 j (omega arith)))

  -- a number of each of their non-empty sets
  pub sets_read : (end : ℕ) → end ≡ 2 ^ w → Column 1 end f xs → at xs ≡ of_set w f
  unfolding of_set
  sets_read end e h = fun_ext (λ L. h L ∙ ap (λ (n : ℕ). cond (leb 1 L && ltb L n) (f L) 0) e)
