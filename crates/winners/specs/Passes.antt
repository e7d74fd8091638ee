-- The pass over all sets of clients, from few clients to many: what it looks up, and what it answers for each set. Cited by the contracts
-- of src/pass.rt. Assumes nothing: these are definitions.
use Rattle.std.specs.Prelude.{◌≡◌, true, false, List, [], ◌⊎◌, ℕ, ◌+◌, ◌-◌, ◌^◌, ◌≤◌, ◌<◌, length, get_or}
use Rattle.sets.specs.Sets.{has}
use Rattle.market.specs.Market.{Market}
use Rattle.market.specs.Members.{reach, leasts, trimmed, Least, RowOf, Heaviest}
use Rattle.winners.specs.ClientSets.{clients_in}
use Rattle.winners.specs.Full.{weight_most}
use Rattle.winners.specs.Lanes.{Asked, Left}
use Rattle.winners.specs.Rows.{weight_at, hours_at, row_of, RowsHeld}
use Rattle.winners.specs.Taken.{Room, LeastsHeld}
use Rattle.winners.specs.declared.row.Row.{Row}

-- by set, the largest of the values without one of its clients, of those that are not in the set `left`; 0 where there are none
pub record FloorPast (left set : ℕ) (values : List ℕ) (floor : ℕ) : Type 0 where
  pub covers : (j : ℕ) → j < 6 → has set j ≡ true → has left j ≡ false → get_or values (set - 2 ^ j) 0 ≤ floor
  pub there : (floor ≡ 0) ⊎ ((j : ℕ) × (j < 6) × (has set j ≡ true) × (floor ≡ get_or values (set - 2 ^ j) 0))

-- the rows of a market with least hours taken off
pub record LaidOut (m : Market) (wt : ℕ → ℕ) (k : ℕ) (least : ℕ → List ℕ) (rows : List Row) : Type 0 where
  pub low : Least m least
  pub trims : RowsHeld (trimmed least m) wt k m.bids rows
  pub weights_few : (i : ℕ) → wt i ≤ weight_most

-- who is not in the set `held` has no bid
abbrev pub IdleBut : (m : Market) (held : ℕ) → Type 0
IdleBut m held = (j : ℕ) → j < 6 → has held j ≡ false → RowOf m m.bids (1 + j) []

-- by set, what its clients reach with the whole supply, for the sets below n; 0 for the others
pub record ValuesTo (m : Market) (wt : ℕ → ℕ) (supply : List ℕ) (n : ℕ) (values : List ℕ) : Type 0 where
  pub long : length values ≡ 64
  pub below : (s : ℕ) → s < n → get_or values s 0 ≡ reach m wt (clients_in s) supply
  pub above : (s : ℕ) → n ≤ s → get_or values s 0 ≡ 0

-- some market that is laid out, a supply, and by client a bid, its head
pub record OnSale (rows : List Row) : Type 0 where
  pub m : Market
  pub wt : ℕ → ℕ
  pub k : ℕ
  pub supply : List ℕ
  pub least : ℕ → List ℕ
  pub head : ℕ → ℕ
  pub laid : LaidOut m wt k least rows

-- the hours of the clients' heads
abbrev pub head_hours : {rows : List Row} → OnSale rows → (c : ℕ) → List ℕ
head_hours s c = s.m.hours (s.head c)

-- a client's head is its heaviest bid, whose weight stands first in its row
pub record Headed {rows : List Row} (s : OnSale rows) (c : ℕ) : Type 0 where
  pub heaviest : Heaviest s.m s.wt c (s.head c)
  pub some : 1 ≤ length (row_of rows c)
  pub weighs : weight_at (row_of rows c) 0 ≡ s.wt (s.head c)

-- the same for each client of a set
abbrev pub HeadsIn : {rows : List Row} → OnSale rows → (set : ℕ) → Type 0
HeadsIn s set = (c : ℕ) → 1 ≤ c → c ≤ 6 → has set (c - 1) ≡ true → Headed s c

-- what the least hours of a set's clients take of the supply, what their heads take, and the values of the sets below it
pub record Weighable (set used heads : ℕ) (rows : List Row) (values : List ℕ) : Type 0 where
  pub sale : OnSale rows
  pub room : Room sale.k sale.supply (leasts sale.least (clients_in set)) used
  pub headed : HeadsIn sale set
  pub heads_room : Room sale.k sale.supply (leasts (head_hours sale) (clients_in set)) heads
  pub known : ValuesTo sale.m sale.wt sale.supply set values
  pub some : 1 ≤ set
  pub few : set < 64

-- the value of the set, in whatever market that is
abbrev pub SetWeighed : (set used heads : ℕ) (rows : List Row) (values : List ℕ) (value : ℕ) → Type 0
SetWeighed set used heads rows values value =
    (w : Weighable set used heads rows values) → value ≡ reach w.sale.m w.sale.wt (clients_in set) w.sale.supply

-- who has a bid, what is used of the supply where nothing is taken, and by client least hours and what heads ask for above these
pub record Passable (held used : ℕ) (rows : List Row) (numbers : List ℕ) : Type 0 where
  pub sale : OnSale rows
  pub idle : IdleBut sale.m held
  pub left : Left sale.k sale.supply used
  pub leasts : LeastsHeld sale.k sale.least numbers
  pub headed : HeadsIn sale held
  pub heads_asked : (c : ℕ) → 1 ≤ c → c ≤ 6 → has held (c - 1) ≡ true
      → Asked sale.k (head_hours sale c) (get_or numbers c 0 + hours_at (row_of rows c) 0)

-- the values of all sets, in whatever market that is
abbrev pub SetsWeighed : (held used : ℕ) (rows : List Row) (numbers values : List ℕ) → Type 0
SetsWeighed held used rows numbers values =
    (p : Passable held used rows numbers) → ValuesTo p.sale.m p.sale.wt p.sale.supply 64 values
