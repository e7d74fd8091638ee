-- What the numbers of questions say: each question has a number of its own, and it is from 1 to 16, so that an answer has the number 0
-- exactly where it is `Ok`. Cited by the layers above. Assumes nothing.
use Rattle.std.specs.Prelude.{◌≡◌, List, [], ◌∷◌, ◌-◌, ◌≤◌, Result, Ok, Err, IsOk, get_or, refl}
use Rattle.questions.specs.declared.Question.{Question}
use Rattle.questions.specs.declared.Question.TheVariants.{Version, Counts, Tables, Bids, Reserves, Form, Ranges, Combination}
use Rattle.questions.specs.declared.Question.TheVariants.{Value, WithinReserve, WithinSets, Cover, Totals, Stationary, Slack, Clients}
use Rattle.questions.specs.Numbers.{number_of, number_in, OneNumberEach}
use Rattle.std.proofs.Common.{sym, ap, ◌∙◌, rules, arith}

-- the questions in their order
questions : List Question
questions =
    Version ∷ Counts ∷ Tables ∷ Bids ∷ Reserves ∷ Form ∷ Ranges ∷ Combination ∷ Value ∷ WithinReserve ∷ WithinSets ∷ Cover ∷ Totals
    ∷ Stationary ∷ Slack ∷ Clients ∷ []

-- question q stands at its number, the first at 1
stands : (q : Question) → get_or questions (number_of q - 1) Version ≡ q
unfolding questions
stands Version = refl
stands Counts = refl
stands Tables = refl
stands Bids = refl
stands Reserves = refl
stands Form = refl
stands Ranges = refl
stands Combination = refl
stands Value = refl
stands WithinReserve = refl
stands WithinSets = refl
stands Cover = refl
stands Totals = refl
stands Stationary = refl
stands Slack = refl
stands Clients = refl

pub one_number_each : OneNumberEach
unfolding OneNumberEach
one_number_each p q same =
    sym (stands p) ∙ ap (λ n. get_or questions (n - 1) Version) same ∙ stands q

pub number_range : (q : Question) → (1 ≤ number_of q) × (number_of q ≤ 16)
number_range Version = (omega arith, omega arith)
number_range Counts = (omega arith, omega arith)
number_range Tables = (omega arith, omega arith)
number_range Bids = (omega arith, omega arith)
number_range Reserves = (omega arith, omega arith)
number_range Form = (omega arith, omega arith)
number_range Ranges = (omega arith, omega arith)
number_range Combination = (omega arith, omega arith)
number_range Value = (omega arith, omega arith)
number_range WithinReserve = (omega arith, omega arith)
number_range WithinSets = (omega arith, omega arith)
number_range Cover = (omega arith, omega arith)
number_range Totals = (omega arith, omega arith)
number_range Stationary = (omega arith, omega arith)
number_range Slack = (omega arith, omega arith)
number_range Clients = (omega arith, omega arith)

-- an answer is `Ok` exactly where its number is 0
pub ok_at_zero : {A : Type 0} (r : Result A Question) → number_in r ≡ 0 → IsOk r
ok_at_zero (Ok a) zero = search rules
ok_at_zero (Err q) zero = search (rules, number_range q)

-- and has a question's number only where that question refuses it, so that nothing else is in it
pub refused_by : {A : Type 0} (r : Result A Question) (q : Question) → number_in r ≡ number_of q → r ≡ Err q
unfolding OneNumberEach
refused_by (Ok a) q e = absurd (omega (arith, e, number_range q))
refused_by (Err p) q e = ap Err (one_number_each p q e)
