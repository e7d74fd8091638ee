-- What the private functions that put questions 7 to 15 ask, and the answer that a result stands for. No public function asks anything.
-- Assumes nothing: these are definitions.
use Rattle.std.specs.Prelude.{◌≡◌, List, ℕ, ◌^◌, ◌<◌, get_or, Result, Ok, Err}
use Rattle.questions.specs.declared.Question.{Question}
use Rattle.questions.specs.Numbers.{number_of}
use Rattle.book.specs.Book.{Book}
use Rattle.demands.specs.Sheet.{Sheet}
use Rattle.demands.specs.Winners.{sigma, rho}
use Rattle.demands.specs.Questions.{certificate_tests, first_no}
use Rattle.demands.specs.Answer.{Answer, refusal}
use Rattle.judge.specs.declared.prices.Accepted.{Accepted}

-- questions 10 to 15 in a row
unfoldable pub certificate_judged : Book → Sheet → ℕ
certificate_judged b h = first_no 10 (certificate_tests h.numbers (sigma b h.bids) (rho b h.bids))

-- what they rest on, beside what is known of the book and the figures: a table holds σ of every set of a sheet's winners
abbrev pub SigmaHeld : Book → Sheet → (table : List ℕ) → Type 0
SigmaHeld b h table = (L : ℕ) → L < 2 ^ h.numbers.w → get_or table L 0 ≡ sigma b h.bids L

-- the answer that an acceptance stands for
abbrev pub accepted_in : Accepted → Answer
accepted_in a = record { number = 0; w = a.w; q = a.q; prices = a.prices }

-- the answer that a result stands for: an acceptance, or the refusal of a question
abbrev pub answer_with : Result Accepted Question → Answer
answer_with (Ok accepted) = accepted_in accepted
answer_with (Err question) = refusal (number_of question)
