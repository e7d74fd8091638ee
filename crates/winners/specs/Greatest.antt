-- The greatest value of a book with some clients discarded (FORMAT, "Terms"): the recursion on the clients left over the book's market, of
-- which only clients that stay are kept. And what it means to be the greatest: unbeaten and attained. proofs/Greatest.antt shows that the
-- recursion gives it. Assumes nothing: these are definitions.
use Rattle.std.specs.Prelude.{Bool, false, not, ◌≡◌, List, ℕ, zero, suc, ◌≤◌, ◌<◌, length}
use Rattle.sets.specs.Sets.{has}
use Rattle.market.specs.Market.{Market, at}
use Rattle.market.specs.Restrict.{only}
use Rattle.market.specs.Greatest.{best}
use Rattle.book.specs.Book.{Book, client_of, clients, supplies}
use Rattle.winners.specs.Combinations.{market, amount_of, Combination, worth}

-- the market without the clients that are out
unfoldable pub without : Book → (out : ℕ → Bool) → Market
without b out = only (λ c. not (out c)) (market b)

-- the greatest value without them
unfoldable pub greatest_without : Book → (out : ℕ → Bool) → ℕ
greatest_without b out = best (without b out) (amount_of b) (clients b) 1 (supplies b)

-- a discard number's bit 0 is client 1
unfoldable pub discarded : (discard : ℕ) → (client : ℕ) → Bool
discarded d zero = false
discarded d (suc c) = has d c

unfoldable pub greatest : Book → (discard : ℕ) → ℕ
greatest b d = greatest_without b (discarded d)

-- none of the bids is of a client that is out
unfoldable pub NoneOut : Book → (out : ℕ → Bool) → List ℕ → Type 0
NoneOut b out is = (k : ℕ) → k < length is → out (client_of b (at is k)) ≡ false

-- v is the greatest value of a combination without the clients that are out
pub record GreatestValue (b : Book) (out : ℕ → Bool) (v : ℕ) : Type 0 where
  pub unbeaten : (is : List ℕ) → Combination b is → NoneOut b out is → worth b is ≤ v
  pub attained : (is : List ℕ) × Combination b is × NoneOut b out is × (worth b is ≡ v)
