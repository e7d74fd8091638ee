-- What is read of a sheet: it has as many winners as its w says; the numbers of winners and sets stand at their places and are 0 elsewhere,
-- as in an array that is filled up with zeros; and how long it can be. Cited by the demands and by the sheet's reader. Assumes nothing.
use mathlib.Core.Path.{◌≡◌, refl, ap₂}
use mathlib.Core.Bool.{◌&&◌}
use mathlib.Core.List.{List}
use Prim.Native.Nat.{ℕ, ◌^◌, ◌≤◌, ◌<◌}
use native.Mathlib.Omega.{arith}
use lib.Dec.{leb, ltb}
use lib.Pow.{pow_mono}
use lib.ListN.{length}
use borrow.Author.Tests.{le-leb, lt-ltb, le-ltb}
use Rattle.market.proofs.Bools.{cond_true, cond_false}
use Rattle.book.proofs.Next.{bytes_length}
use Rattle.demands.specs.Sheet.{sheet_w, sheet_formula, of_winner, of_set, numbers_in, sheet_in}

pub sheet_winners : (ss : List ℕ) → length (sheet_in ss).bids ≡ (sheet_in ss).numbers.w
unfolding sheet_in numbers_in
sheet_winners ss = bytes_length (sheet_w ss) 4 ss

-- from 20 bytes, with no winner, to 950, with six
pub sheet_formula_most : (w : ℕ) → w ≤ 6 → sheet_formula w ≤ 950
unfolding sheet_formula
sheet_formula_most w l = omega (arith, pow_mono {i = w} {j = 6} l)

-- A NUMBER OF EACH WINNER
module _ (w : ℕ) (f : ℕ → ℕ) (j : ℕ) where
  pub of_winner_at : j < w → of_winner w f j ≡ f j
  unfolding of_winner
  of_winner_at l = cond_true (ltb j w) (f j) 0 (lt-ltb j w l)

  pub of_winner_past : w ≤ j → of_winner w f j ≡ 0
  unfolding of_winner
  of_winner_past l = cond_false (ltb j w) (f j) 0 (le-ltb j w l)

-- A NUMBER OF EACH SET
module _ (w : ℕ) (f : ℕ → ℕ) (L : ℕ) where
  pub of_set_at : 1 ≤ L → L < 2 ^ w → of_set w f L ≡ f L
  unfolding of_set
  of_set_at p l = cond_true (leb 1 L && ltb L (2 ^ w)) (f L) 0 (ap₂ ◌&&◌ (le-leb 1 L p) (lt-ltb L (2 ^ w) l))

  pub of_set_past : 2 ^ w ≤ L → of_set w f L ≡ 0
  unfolding of_set
  of_set_past l = cond_false (leb 1 L && ltb L (2 ^ w)) (f L) 0 (ap₂ ◌&&◌ (le-leb 1 L (omega (arith, positive))) (le-ltb L (2 ^ w) l))
    where
      positive : 1 ≤ 2 ^ w
      positive = pow_mono {i = 0} {j = w} (omega arith)

pub of_set_empty : (w : ℕ) (f : ℕ → ℕ) → of_set w f 0 ≡ 0
unfolding of_set
of_set_empty w f = refl
