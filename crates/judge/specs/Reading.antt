-- What reading a sheet gives: the contract of `read`. The layers above take what they need of a sheet from here. Assumes nothing: these
-- are definitions.
use Rattle.std.specs.Prelude.{◌≡◌, Bool, cond, List, ℕ, min, take, Result, IfOk}
use Rattle.questions.specs.declared.Question.{Question}
use Rattle.questions.specs.Numbers.{number_in}
use Rattle.sets.specs.Tables.{tabulate}
use Rattle.market.specs.Market.{at}
use Rattle.book.specs.Book.{Book, clients}
use Rattle.certificate.specs.declared.ranges.Figures.{Figures}
use Rattle.certificate.specs.Figures.{certificate}
use Rattle.demands.specs.Sheet.{Sheet, sheet_in}
use Rattle.demands.specs.Questions.{form_good}
use Rattle.judge.specs.declared.sheet.SheetReading.{SheetReading}

-- question 6 over every book of n clients, where more than six count as six: a sheet is read into arrays of six, and a book has no more
abbrev pub FormIs : (part : List ℕ) → (n : ℕ) → (good : Bool) → Type 0
FormIs part n good = (b : Book) → clients b ≡ min n 6 → good ≡ form_good b part

-- the sheet that arrays hold: the first w of the bid numbers, and the certificate of the figures
abbrev pub sheet_held : (bids : List ℕ) → Figures → Sheet
sheet_held is f = record { bids = take f.w is; numbers = certificate f }

-- the sheet that was read into them
abbrev pub sheet_of : SheetReading → Sheet
sheet_of s = sheet_held s.bids s.figures

-- what is read of the bytes after a book of n clients
pub record SheetRead (part : List ℕ) (n : ℕ) (r : Result SheetReading Question) : Type 0 where
  -- the sheet where question 6 is answered by yes, else its number
  pub numbered : (b : Book) → clients b ≡ min n 6 → number_in r ≡ cond (form_good b part) 0 6
  -- the sheet's bid numbers with zeros after them, and with the figures the sheet
  pub bids : IfOk r (λ s. s.bids ≡ tabulate 6 (at (sheet_in part).bids))
  pub held : IfOk r (λ s. sheet_of s ≡ sheet_in part)
