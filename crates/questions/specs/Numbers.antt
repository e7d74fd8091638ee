-- The questions' numbers, and the number of an answer that may be a refusal (FORMAT, "Questions"). The contracts of every layer cite them.
-- Assumes nothing: these are definitions.
use Rattle.std.specs.Prelude.{◌≡◌, ℕ, Result, Ok, Err}
use Rattle.questions.specs.declared.Question.{Question}
use Rattle.questions.specs.declared.Question.TheVariants.{Version, Counts, Tables, Bids, Reserves, Form, Ranges, Combination}
use Rattle.questions.specs.declared.Question.TheVariants.{Value, WithinReserve, WithinSets, Cover, Totals, Stationary, Slack, Clients}

-- 1 to 5 of a book, 6 of a sheet's form, 7 of its numbers, 8 and 9 of its winners, 10 to 15 of its discounts and multipliers; 16 of clients
-- that are named beside a book
abbrev pub number_of : Question → ℕ
number_of Version = 1
number_of Counts = 2
number_of Tables = 3
number_of Bids = 4
number_of Reserves = 5
number_of Form = 6
number_of Ranges = 7
number_of Combination = 8
number_of Value = 9
number_of WithinReserve = 10
number_of WithinSets = 11
number_of Cover = 12
number_of Totals = 13
number_of Stationary = 14
number_of Slack = 15
number_of Clients = 16

-- the number of an answer: 0, or that of the question that is answered no
abbrev pub number_in : {A : Type 0} → Result A Question → ℕ
number_in (Ok a) = 0
number_in (Err question) = number_of question

-- EACH QUESTION HAS A NUMBER OF ITS OWN: no two questions have one. proofs/Numbers.antt shows it
unfoldable pub OneNumberEach : Type 0
OneNumberEach = (p q : Question) → number_of p ≡ number_of q → p ≡ q
