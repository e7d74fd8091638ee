-- Combinations of a book's bids (FORMAT, "Terms"), as lists of bid numbers in any order: the book seen as a market of which the bids of
-- standing clients may be taken. Every layer above speaks of combinations through this file. Assumes nothing: these are definitions.
use Rattle.std.specs.Prelude.{◌≡◌, true, List, ◌↔◌, ℕ, length}
use Rattle.book.specs.Book.{Book, bid_at, client_of, clients, standing, supplies}
use Rattle.market.specs.Market.{Market}
use Rattle.market.specs.Combination as Market·

-- what the book sells
unfoldable pub market : Book → Market
market b = record {
  bids = length b.bids;
  owner = λ i. client_of b i;
  hours = λ i. (bid_at b i).hours;
  may = λ i. standing b (client_of b i);
}

unfoldable pub amount_of : Book → (bid : ℕ) → ℕ
amount_of b i = (bid_at b i).amount

-- at most one bid of each standing client, hours of each kind totalling no more than the supply
abbrev pub Combination : Book → (bids : List ℕ) → Type 0
Combination b is = Market·.Combination (market b) (clients b) (supplies b) is

-- by strictly rising client
abbrev pub Rising : Book → (bids : List ℕ) → Type 0
Rising b is = Market·.Rising (market b) is

-- its value, the sum of its amounts
abbrev pub worth : Book → (bids : List ℕ) → ℕ
worth b is = Market·.worth (amount_of b) is

-- QUESTION 8: the test in one pass with the hours left is a combination by strictly rising client
unfoldable pub CombinationsAgree : Book → (bids : List ℕ) → Type 0
CombinationsAgree b is = (Market·.is_combination (market b) (clients b) (supplies b) is ≡ true) ↔ (Combination b is × Rising b is)
