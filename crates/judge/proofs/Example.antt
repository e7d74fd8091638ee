-- Controls: the shortest sheet, with no winner, is read over any book, and is refused with one byte more or with another version. So the
-- contract of `read` leaves both answers. Cited by nobody. Assumes nothing.
use mathlib.Core.Path.{◌≡◌, refl, ap, ◌∙◌}
use mathlib.Core.Bool.{Bool, cond}
use mathlib.Core.List.{List, [], ◌∷◌, ◌++◌}
use mathlib.Core.Logic.{◌≢◌}
use Prim.Native.Nat.{ℕ, min, zero-le}
use native.Mathlib.Omega.{arith}
use lib.Dec.{lit≤}
use lib.ListN.{replicate}
use Rattle.book.specs.Bytes.{field}
use Rattle.book.specs.Book.{Book}
use Rattle.demands.specs.Sheet.{sheet_w, sheet_long, sheet_formula}
use Rattle.demands.specs.Questions.{form_good}
use Rattle.demands.proofs.Form.{Form as Formed, form_facts, facts_form}
use Rattle.judge.specs.declared.sheet.SheetReading.{SheetReading}
use Rattle.judge.specs.Reading.{SheetRead}
use Rattle.std.specs.Prelude.{Result, Err}
use Rattle.questions.specs.Numbers.{number_of, number_in}
use Rattle.questions.specs.declared.Question.{Question}
use Rattle.questions.specs.declared.Question.TheVariants.{Form}
use Rattle.questions.proofs.Numbers.{refused_by}
use Rattle.judge.proofs.Outcomes.{bare_book, bare_clients}
use Rattle.judge.proofs.NumberedTests.{answered_no, answered_yes}

-- version 1, length 20, w 0, q 1, s 1, G 0
abbrev shortest : List ℕ
shortest = 1 ∷ 0 ∷ 20 ∷ 0 ∷ 0 ∷ 0 ∷ 0 ∷ 1 ∷ 0 ∷ 0 ∷ 0 ∷ 1 ∷ replicate 8 0

-- and one byte more
abbrev longer : List ℕ
longer = shortest ++ (0 ∷ [])

module _ (n : ℕ) (r : Result SheetReading Question) where
  -- what is said of every book is said of one of n clients
  abbrev any_book : Book
  any_book = bare_book (min n 6)

  read_form : (part : List ℕ) → SheetRead part n r → number_in r ≡ 0 → Formed any_book part
  read_form part read z =
      form_facts any_book part
      (answered_yes (form_good any_book part) 6 (number_in r) (omega arith) (read.numbered any_book (bare_clients (min n 6))) (omega arith))

  shortest_read : SheetRead shortest n r → number_in r ≡ 0
  unfolding sheet_w sheet_long sheet_formula field
  shortest_read read =
      read.numbered any_book (bare_clients (min n 6))
      ∙ ap (λ (t : Bool). cond t 0 6)
      (facts_form any_book shortest (record { there = lit≤ tt; version = refl; winners = zero-le; own = refl; whole = refl }))

  longer_refused : SheetRead longer n r → number_in r ≢ 0
  unfolding sheet_w sheet_formula
  longer_refused read z = omega (arith, (read_form longer read z).whole)

  -- by question 6
  longer_form : SheetRead longer n r → number_in r ≡ number_of Form
  longer_form read =
      let some = longer_refused read in
      (answered_no (form_good any_book longer) 6 (number_in r) (read.numbered any_book (bare_clients (min n 6))) (omega arith)).1

  -- and nothing beside it
  longer_nothing : SheetRead longer n r → r ≡ Err Form
  longer_nothing read = refused_by r Form (longer_form read)

  version_refused : (more : List ℕ) → SheetRead (2 ∷ more) n r → number_in r ≢ 0
  version_refused more read z = omega (arith, (read_form (2 ∷ more) read z).version)
