-- What the bytes of a sheet give over a book that is a value: a refusal by question 6, or the sheet that arrays hold, and the answer to it.
-- Cited by the attributes of `judged` and `judged_sheet`, and by the proof of the second. Assumes nothing.
use mathlib.Core.Path.{◌≡◌, sym, ap, ◌∙◌}
use mathlib.Core.Bool.{true}
use mathlib.Core.List.{List}
use Prim.Native.Nat.{ℕ, ◌≤◌, ◌<◌, min}
use native.Mathlib.Omega.{arith}
use Rattle.std.specs.Prelude.{Ok, Err}
use Rattle.questions.specs.Numbers.{number_of}
use Rattle.questions.specs.declared.Question.{Question}
use Rattle.questions.proofs.Numbers.{number_range}
use Rattle.book.specs.Book.{clients}
use Rattle.book.specs.Value.{book_of, sound_number}
use Rattle.book.specs.declared.value.Book.{Book as Arrays}
use Rattle.book.proofs.Held.{held_clients}
use Rattle.demands.specs.Sheet.{sheet_in}
use Rattle.demands.specs.Call.{call_of}
use Rattle.demands.specs.Questions.{form_good, judged}
use Rattle.demands.specs.Answer.{acceptance, refusal, answer_of}
use Rattle.judge.specs.Reading.{sheet_of, SheetRead}
use Rattle.judge.specs.declared.sheet.SheetReading.{SheetReading}
use Rattle.judge.proofs.Judging.{refused_form, refused_sheet, accepted_sheet}
use Rattle.judge.proofs.NumberedTests.{answered_no, answered_yes}

module _ (v : Arrays) (part : List ℕ) (sound : sound_number v ≡ 0) (n : ℕ) (of_n : n ≡ v.n) where
  -- the number of clients, as question 6 takes it
  clients_here : clients (book_of v) ≡ min n 6
  clients_here = held_clients v ∙ ap (λ (k : ℕ). min k 6) (sym of_n)

  pub form_no : (q : Question) → SheetRead part n (Err q) → refusal (number_of q) ≡ answer_of (call_of v part)
  form_no q read =
      let no = answered_no (form_good (book_of v) part) 6 (number_of q) (read.numbered (book_of v) clients_here) (number_range q).0 in
      ap refusal no.1 ∙ refused_form (call_of v part) sound no.0

  module _ (s : SheetReading) (read : SheetRead part n (Ok s)) (m : ℕ) (e : m ≡ judged (book_of v) (sheet_of s)) where
    form_yes : form_good (book_of v) part ≡ true
    form_yes =
        answered_yes (form_good (book_of v) part) 6 0 (omega arith) (read.numbered (book_of v) clients_here) (omega arith)

    judged_part : m ≡ judged (book_of v) (sheet_in part)
    judged_part = e ∙ ap (judged (book_of v)) read.held

    pub sheet_no : 0 < m → refusal m ≡ answer_of (call_of v part)
    sheet_no = refused_sheet (call_of v part) sound form_yes m judged_part

    pub sheet_yes : m ≤ 0 → acceptance (book_of v) (sheet_of s) ≡ answer_of (call_of v part)
    sheet_yes l = ap (acceptance (book_of v)) read.held ∙ accepted_sheet (call_of v part) sound form_yes m judged_part l
