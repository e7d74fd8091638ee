-- What the search for full combinations asks and answers: the greatest value of a set of clients where nobody passes, in whatever market
-- the rows lay out. Known values of smaller sets are its ceilings. Cited by the contracts of src/. Assumes nothing: these are definitions.
use Rattle.std.specs.Prelude.{◌≡◌, true, List, ℕ, ◌-◌, ◌^◌, ◌≤◌, ◌<◌, max, length, get_or}
use Rattle.market.specs.Market.{Market, fits}
use Rattle.market.specs.Members.{full}
use Rattle.winners.specs.ClientSets.{clients_in, First}
use Rattle.winners.specs.Lanes.{Left}
use Rattle.winners.specs.Rows.{RowsHeld}
use Rattle.winners.specs.declared.row.Row.{Row}

-- the largest weight, 2^53, and what six clients come to at the most
abbrev pub weight_most : ℕ
weight_most = 9007199254740992

abbrev pub found_most : ℕ
found_most = 54043195528445952

-- what is left of a set when its first clients are taken from it, one or more
pub data Tail : (set rest : ℕ) → Type 0 where
  one : {s c : ℕ} → First s c → Tail s (s - 2 ^ (c - 1))
  next : {s c r : ℕ} → First s c → Tail (s - 2 ^ (c - 1)) r → Tail s r

-- by set, numbers that bound what the clients left reach with no more than these hours, where nobody passes
abbrev pub Ceilings : (m : Market) (wt : ℕ → ℕ) (values : List ℕ) (set : ℕ) (left : List ℕ) → Type 0
Ceilings m wt values s ls =
    (r : ℕ) → Tail s r → (hours : List ℕ) → fits hours ls ≡ true → full m wt (clients_in r) hours ≤ get_or values r 0

-- some market whose rows and ceilings are there, the number of the set's clients, and numbers few enough to be added up
pub record Searchable (ahead set used floor : ℕ) (rows : List Row) (values : List ℕ) : Type 0 where
  pub m : Market
  pub wt : ℕ → ℕ
  pub k : ℕ
  pub hours : List ℕ
  pub held : RowsHeld m wt k m.bids rows
  pub left : Left k hours used
  pub ceilings : Ceilings m wt values set hours
  pub weights_few : (i : ℕ) → wt i ≤ weight_most
  pub clients_left : ahead ≡ length (clients_in set)
  pub some_left : 1 ≤ ahead
  pub set_few : set < 64
  pub floor_few : floor ≤ found_most

-- the larger of the floor and of the greatest value of the set's clients where nobody passes
pub record Searched (set used floor : ℕ) (rows : List Row) (values : List ℕ) (value : ℕ) : Type 0 where
  pub is : (m : Market) (wt : ℕ → ℕ) (k : ℕ) (hours : List ℕ) → RowsHeld m wt k m.bids rows → Left k hours used
      → Ceilings m wt values set hours → value ≡ max floor (full m wt (clients_in set) hours)
