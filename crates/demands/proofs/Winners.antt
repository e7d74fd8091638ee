-- The winners' clients by their places, and what is 0 past the last winner; ρ is at most the amount. Cited by the laws of auctions, of
-- prices and of judging. Assumes nothing.
use mathlib.Core.Path.{◌≡◌, ap}
use mathlib.Core.List.{List}
use Prim.Native.Nat.{ℕ, ◌≤◌}
use native.Mathlib.Omega.{arith}
use lib.ListN.{length, length-map, get_or-map, get_or-eq_default}
use Rattle.market.specs.Market.{at}
use Rattle.book.specs.Book.{Book, no_bid, bid_at, client_of}
use Rattle.winners.specs.Combinations.{amount_of}
use Rattle.demands.specs.Winners.{clients_of, win, rho}

-- the client of winner k
abbrev pub client : Book → (winners : List ℕ) → (k : ℕ) → ℕ
client b is k = client_of b (at is k)

module _ (b : Book) (is : List ℕ) where
  pub clients_length : length (clients_of b is) ≡ length is
  unfolding clients_of
  clients_length = length-map is (client_of b)

  pub clients_at : (k : ℕ) → at (clients_of b is) k ≡ client b is k
  unfolding clients_of client_of bid_at no_bid
  clients_at k = get_or-map (client_of b) is k 0

  pub win_past : (j : ℕ) → length is ≤ j → win b is j ≡ 0
  unfolding win amount_of bid_at no_bid
  win_past j l = ap (amount_of b) (get_or-eq_default is 0 l)

  pub rho_most : (j : ℕ) → rho b is j ≤ win b is j
  unfolding rho
  rho_most j = omega arith

  pub rho_past : (j : ℕ) → length is ≤ j → rho b is j ≡ 0
  rho_past j l = omega (arith, rho_most j, win_past j l)
