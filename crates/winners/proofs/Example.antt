-- What the contracts promise of the book of the worked call A, computed: its greatest value, 110; σ of every set of its clients; and its
-- bids, weighed and refused. With client 3 withdrawn it is the book of call C. Nothing cites it. Assumes nothing.
use mathlib.Core.Path.{◌≡◌, ap}
use mathlib.Core.List.{List, [], ◌∷◌, ◌++◌}
use Prim.Native.Nat.{ℕ}
use native.Mathlib.Omega.{arith}
use lib.ListN.{replicate}
use Rattle.std.specs.Prelude.{Result, Ok, Err, IfOk}
use Rattle.questions.specs.Numbers.{number_in}
use Rattle.questions.specs.declared.Question.{Question}
use Rattle.questions.specs.declared.Question.TheVariants.{Combination as CombinationAsked, Value as ValueAsked}
use Rattle.questions.proofs.Numbers.{number_range, refused_by}
use Rattle.sets.specs.Sets.{has}
use Rattle.sets.specs.Tables.{tabulate}
use Rattle.market.specs.Market.{fits, less}
use Rattle.market.specs.Greatest.{open_to, choose, best}
use Rattle.market.specs.Combination as Market·
use Rattle.book.specs.Book.{Bid, Book, clients, standing, no_bid, bid_at, client_of, supplies}
use Rattle.winners.specs.Combinations.{market, amount_of}
use Rattle.winners.specs.Greatest.{without, greatest_without, discarded, greatest}
use Rattle.winners.specs.Surplus.{any, picked, surplus}
use Rattle.winners.specs.Value.{value_refusal, value_of}
use Rattle.winners.specs.Worth.{WorthIs}
use Rattle.winners.specs.Surpluses.{rising_to, list_good, list_refusal, surplus_table, SurplusesAre}
use Rattle.winners.specs.Weighed.{choice_good, weigh_refusal, owners_of, six, WinnersWeighed, WeighedIs}
use Rattle.winners.specs.declared.weighing.Weighed.{Weighed}

-- what an answer computes with
unfoldable computed : Unit {0}
unfolding has tabulate fits less open_to choose best Market·.worth Market·.rising_from Market·.is_combination clients standing no_bid
    bid_at client_of supplies market amount_of without greatest_without discarded greatest any picked surplus value_refusal value_of
    rising_to list_good list_refusal surplus_table choice_good weigh_refusal owners_of six
computed = tt

-- THE BOOK, with the third client's bid first: so bid 2 is client 1's, and bid 3 client 2's
abbrev bid : (client hours amount : ℕ) → Bid
bid client hours amount = record { client = client; hours = hours ∷ []; amount = amount }

abbrev book : (third_status : ℕ) → Book
book third = record {
  kinds = record { supply = 2; reserve = 10 } ∷ [];
  statuses = 0 ∷ 0 ∷ third ∷ [];
  bids = bid 3 2 70 ∷ bid 1 1 60 ∷ bid 2 1 50 ∷ [];
}

-- six entries of which the first two are given
abbrev two : (first second : ℕ) → List ℕ
two first second = first ∷ second ∷ replicate 4 0

-- THE GREATEST VALUE: call J, and a book that is refused
module _ (number value : ℕ) where
  third_discarded : WorthIs 0 (book 0) 4 number value → (number ≡ 0) × (value ≡ 110)
  unfolding computed
  third_discarded k = (k.numbered, k.valued)

  fourth_discarded : WorthIs 0 (book 0) 8 number value → (number ≡ 16) × (value ≡ 0)
  unfolding computed
  fourth_discarded k = (k.numbered, k.valued)

  book_refused : WorthIs 5 (book 0) 8 number value → (number ≡ 5) × (value ≡ 0)
  unfolding computed
  book_refused k = (k.numbered, k.valued)

  -- σ OF EVERY SET of all clients; of a list that does not rise there is none
  module _ (sigma : List ℕ) where
    all_clients : SurplusesAre 0 (book 0) (1 ∷ 2 ∷ 3 ∷ []) number value sigma
        → (number ≡ 0) × (value ≡ 110) × (sigma ≡ (0 ∷ 40 ∷ 40 ∷ 40 ∷ 0 ∷ 60 ∷ 50 ∷ 110 ∷ []) ++ replicate 56 0)
    unfolding computed
    all_clients k = (k.numbered, k.valued, k.tabled)

    not_rising : SurplusesAre 0 (book 0) (2 ∷ 2 ∷ []) number value sigma → (number ≡ 16) × (value ≡ 0) × (sigma ≡ replicate 64 0)
    unfolding computed
    not_rising k = (k.numbered, k.valued, k.tabled)

-- BIDS WEIGHED: every field, and the question that is answered no
abbrev found : (first second both : ℕ) → Weighed
found first second both = record { value = 110; clients = two 1 2; sigma = 0 ∷ first ∷ second ∷ both ∷ replicate 60 0 }

module _ (b : Book) (bids : List ℕ) (s : Weighed) where
  whole : (answer : Result Weighed Question) → number_in answer ≡ 0
      → ((a : Weighed) → WinnersWeighed b bids a → (a.value ≡ s.value) × (a.clients ≡ s.clients) × (a.sigma ≡ s.sigma))
      → IfOk answer (WinnersWeighed b bids) → answer ≡ Ok s
  whole (Ok a) e same k = let (v, c, t) = same a k in ap Ok (λ i. record { value = v i; clients = c i; sigma = t i })
  whole (Err q) e same k = absurd (omega (arith, e, number_range q))

module _ (answer : Result Weighed Question) where
  winners_a : WeighedIs 0 (book 0) (2 ∷ 3 ∷ []) answer → answer ≡ Ok (found 40 40 40)
  unfolding computed
  winners_a k = whole (book 0) (2 ∷ 3 ∷ []) (found 40 40 40) answer k.numbered (λ a w. (w.valued, w.owned, w.tabled)) k.weighed

  -- client 3 is withdrawn
  winners_c : WeighedIs 0 (book 1) (2 ∷ 3 ∷ []) answer → answer ≡ Ok (found 60 50 110)
  unfolding computed
  winners_c k = whole (book 1) (2 ∷ 3 ∷ []) (found 60 50 110) answer k.numbered (λ a w. (w.valued, w.owned, w.tabled)) k.weighed

  -- client 3 alone, as in call H, and withdrawn
  third_alone : WeighedIs 0 (book 0) (1 ∷ []) answer → answer ≡ Err ValueAsked
  unfolding computed
  third_alone k = refused_by answer ValueAsked k.numbered

  third_withdrawn : WeighedIs 0 (book 1) (1 ∷ []) answer → answer ≡ Err CombinationAsked
  unfolding computed
  third_withdrawn k = refused_by answer CombinationAsked k.numbered
