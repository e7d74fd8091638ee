-- What the judging knows of winners, given by their bid numbers and numbered from 0: their clients, σ of a set of them and ρ of each
-- (FORMAT, "Terms"). The questions and every statement on discounts cite it. Assumes nothing: these are definitions.
use Rattle.std.specs.Prelude.{List, map, ℕ, ◌-◌}
use Rattle.market.specs.Market.{at}
use Rattle.book.specs.Book.{Book, bid_at, client_of, reserves_of}
use Rattle.winners.specs.Combinations.{amount_of}
use Rattle.winners.specs.Surplus.{surplus}

-- the winners' clients, one for each winner
unfoldable pub clients_of : Book → (winners : List ℕ) → List ℕ
clients_of b is = map (client_of b) is

-- σ: the greatest value less the greatest value with the clients of the set's winners discarded
unfoldable pub sigma : Book → (winners : List ℕ) → (set : ℕ) → ℕ
sigma b is L = surplus b (clients_of b is) L

-- what winner j offers; past the last winner 0
unfoldable pub win : Book → (winners : List ℕ) → (j : ℕ) → ℕ
win b is j = amount_of b (at is j)

-- the reserves of the hours of winner j
unfoldable pub reserves : Book → (winners : List ℕ) → (j : ℕ) → ℕ
reserves b is j = reserves_of (bid_at b (at is j)).hours b.kinds

-- ρ: the amount less the reserves. In a sound book nothing stops at zero here (question 5)
unfoldable pub rho : Book → (winners : List ℕ) → (j : ℕ) → ℕ
rho b is j = win b is j - reserves b is j
