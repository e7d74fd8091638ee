-- What is judged: a book, and the bytes of a sheet (FORMAT, "Sheet"); and the number that the questions give it, 0 for acceptance. The
-- book was read, and the sheet's bytes follow it in the input; or it is a value, and the bytes come beside it. Cited by the demands, the
-- answer and the contracts of judging. Assumes nothing: these are definitions.
use Rattle.std.specs.Prelude.{◌≡◌, cond, List, ℕ, eqb, drop}
use Rattle.book.specs.Book.{Book}
use Rattle.book.specs.Layout.{book_long, book_in}
use Rattle.book.specs.Questions.{book_refusal}
use Rattle.book.specs.Value.{book_of, sound_number}
use Rattle.book.specs.declared.value.Book.{Book as Arrays}
use Rattle.demands.specs.Sheet.{Sheet, sheet_in}
use Rattle.demands.specs.Questions.{form_good, judged}

-- a book with the number of the first of questions 1 to 5 that it fails, and the bytes of a sheet
pub record Call : Type 0 where
  pub refusal : ℕ
  pub book : Book
  pub part : List ℕ

-- what follows the last byte of the book
unfoldable pub sheet_part : (input : List ℕ) → List ℕ
sheet_part bs = drop (book_long bs) bs

-- the call of an input
abbrev pub call_in : (input : List ℕ) → Call
call_in bs = record { refusal = book_refusal bs; book = book_in bs; part = sheet_part bs }

-- the call of a book that is a value, and bytes
abbrev pub call_of : Arrays → (part : List ℕ) → Call
call_of v ss = record { refusal = sound_number v; book = book_of v; part = ss }

abbrev pub sheet : Call → Sheet
sheet c = sheet_in c.part

-- questions 1 to 5 to the book, 6 to the bytes, 7 to 15 to the sheet
unfoldable pub call_refusal : Call → ℕ
call_refusal c =
    let number = judged c.book (sheet c) in
    let after_book = cond (form_good c.book c.part) number 6 in
    cond (eqb c.refusal 0) after_book c.refusal

abbrev pub input_refusal : (input : List ℕ) → ℕ
input_refusal bs = call_refusal (call_in bs)

abbrev pub Accepted : Call → Type 0
Accepted c = call_refusal c ≡ 0
