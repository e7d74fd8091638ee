-- Books of bids as values (FORMAT, "Book"): kinds of hour, clients' statuses, bids. Read from bytes in Layout. The layers above speak of
-- a book through these definitions. Assumes nothing: these are definitions.
use Rattle.std.specs.Prelude.{Bool, false, List, [], ◌∷◌, map, ℕ, zero, suc, ◌+◌, ◌*◌, eqb, length, get_or}

-- a kind of hour (a lot category): hours for sale, and the reserve price of one
pub record Kind : Type 0 where
  pub supply : ℕ
  pub reserve : ℕ

-- a package bid: whose it is, the hours of each kind, and the amount for all of them together
pub record Bid : Type 0 where
  pub client : ℕ
  pub hours : List ℕ
  pub amount : ℕ

pub record Book : Type 0 where
  pub kinds : List Kind
  pub statuses : List ℕ
  pub bids : List Bid

-- clients are numbered from 1
unfoldable pub clients : Book → ℕ
clients b = length b.statuses

-- a client stands when its status is 0; nobody is client 0, and nobody stands past the last
unfoldable pub standing : Book → (client : ℕ) → Bool
standing b zero = false
standing b (suc c) = eqb (get_or b.statuses c 1) 0

-- what is read where there is no bid
unfoldable pub no_bid : Bid
no_bid = record { client = 0; hours = []; amount = 0 }

-- bids are numbered from 1
unfoldable pub bid_at : Book → (number : ℕ) → Bid
bid_at b zero = no_bid
bid_at b (suc i) = get_or b.bids i no_bid

unfoldable pub client_of : Book → (number : ℕ) → ℕ
client_of b i = (bid_at b i).client

unfoldable pub supplies : Book → List ℕ
supplies b = map (λ k. k.supply) b.kinds

-- the reserves of hours: of each kind, as many times the kind's reserve
unfoldable pub reserves_of : (hours : List ℕ) → List Kind → ℕ
reserves_of [] ks = 0
reserves_of (h ∷ hs) [] = 0
reserves_of (h ∷ hs) (k ∷ ks) = h * k.reserve + reserves_of hs ks
