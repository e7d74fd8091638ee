-- What weighing a list of bids answers: the book's own number; 8 where they are no combination by strictly rising client; 9 where their
-- value is not v; else v, their clients, and σ of every set of them (FORMAT, "Terms", questions 8 and 9). The contract of `weigh`. Assumes
-- nothing: these are definitions.
use Rattle.std.specs.Prelude.{◌≡◌, Bool, false, ◌&&◌, cond, List, map, ◌++◌, ℕ, ◌^◌, ◌<◌, leb, eqb, length, get_or, take, replicate}
use Rattle.std.specs.Prelude.{Result, IfOk}
use Rattle.questions.specs.Numbers.{number_in}
use Rattle.questions.specs.declared.Question.{Question}
use Rattle.market.specs.Combination.{is_combination}
use Rattle.book.specs.Book.{Book, client_of, clients, supplies}
use Rattle.winners.specs.Combinations.{market, worth, CombinationsAgree}
use Rattle.winners.specs.Greatest.{greatest, GreatestValue}
use Rattle.winners.specs.Surplus.{SurplusIs}
use Rattle.winners.specs.Surpluses.{surplus_table}
use Rattle.winners.specs.declared.weighing.Weighed.{Weighed}

-- at most six bids, and question 8
unfoldable pub choice_good : Book → (bids : List ℕ) → Bool
choice_good b is = leb (length is) 6 && is_combination (market b) (clients b) (supplies b) is

-- the number, behind the book's own: 8, then 9
unfoldable pub weigh_refusal : (refusal : ℕ) → Book → (bids : List ℕ) → ℕ
weigh_refusal n b is = cond (eqb n 0) (cond (choice_good b is) (cond (eqb (worth b is) (greatest b 0)) 0 9) 8) n

-- the bids' clients
unfoldable pub owners_of : Book → (bids : List ℕ) → List ℕ
owners_of b is = map (λ i. client_of b i) is

-- a list with zeros after it, six entries in all
unfoldable pub six : List ℕ → List ℕ
six xs = take 6 (xs ++ replicate 6 0)

-- v, the bids' clients, and σ of every set of them
pub record WinnersWeighed (b : Book) (bids : List ℕ) (a : Weighed) : Type 0 where
  -- every field by value
  pub valued : a.value ≡ greatest b 0
  pub owned : a.clients ≡ six (owners_of b bids)
  pub tabled : a.sigma ≡ surplus_table b (owners_of b bids)
  -- the value is unbeaten by any combination and attained by one, and each entry is σ in words
  pub greatest : GreatestValue b (λ c. false) a.value
  pub surpluses : (L : ℕ) → L < 2 ^ length bids → SurplusIs b (owners_of b bids) L (get_or a.sigma L 0)

pub record WeighedIs (refusal : ℕ) (b : Book) (bids : List ℕ) (r : Result Weighed Question) : Type 0 where
  pub numbered : number_in r ≡ weigh_refusal refusal b bids
  pub weighed : IfOk r (WinnersWeighed b bids)
  -- question 8's test is a combination by rising client, accepted or not
  pub agree : CombinationsAgree b bids
