-- Question 6 by the number of winners: refused at once where there are too many, else decided by version and lengths. Cited by the
-- attribute of the test. Assumes nothing.
use mathlib.Core.Path.{◌≡◌, refl}
use mathlib.Core.Bool.{Bool, true, false, ◌&&◌}
use mathlib.Core.List.{List}
use Prim.Native.Nat.{ℕ, ◌≤◌, ◌<◌, min}
use native.Mathlib.Omega.{arith}
use lib.Dec.{leb, eqb}
use lib.ListN.{length}
use borrow.Author.Tests.{lt-leb, le-leb}
use Rattle.book.specs.Bytes.{byte}
use Rattle.book.specs.Book.{Book, clients}
use Rattle.demands.specs.Sheet.{sheet_w, sheet_long, sheet_formula}
use Rattle.demands.specs.Questions.{form_good}

-- the test in the middle of three decides, or falls out
middle_no : (a c : Bool) → false ≡ ((a && false) && c)
middle_no true c = refl
middle_no false c = refl

middle_yes : (a c : Bool) → (a && c) ≡ ((a && true) && c)
middle_yes true c = refl
middle_yes false c = refl

module _ (b : Book) (n : ℕ) (bs : List ℕ) (e : clients b ≡ min n 6) where
  pub many_refused : min n 6 < sheet_w bs → false ≡ form_good b bs
  unfolding form_good
  many_refused l = rw (lt-leb (sheet_w bs) (clients b) (omega arith)) (middle_no (leb 4 (length bs) && eqb (byte 0 bs) 1) _)

  pub few_decided : sheet_w bs ≤ min n 6 → ((leb 4 (length bs) && eqb (byte 0 bs) 1)
      && (eqb (sheet_long bs) (sheet_formula (sheet_w bs)) && eqb (length bs) (sheet_formula (sheet_w bs)))) ≡ form_good b bs
  unfolding form_good
  few_decided l = rw (le-leb (sheet_w bs) (clients b) (omega arith)) (middle_yes (leb 4 (length bs) && eqb (byte 0 bs) 1) _)

-- what the attribute of the test cites
pub ruleset form_tests = (many_refused, few_decided)
