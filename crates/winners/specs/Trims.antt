-- Least hours: for each client the least hours of each kind among its bids, which are taken off them. Cited by what private functions ask
-- and answer. Assumes nothing: these are definitions.
use Rattle.std.specs.Prelude.{◌≡◌, true, List, ℕ, ◌-◌, ◌≤◌, ◌<◌, length, get_or}
use Rattle.market.specs.Market.{Market, at, fits}
use Rattle.market.specs.Members.{trimmed}
use Rattle.winners.specs.Lanes.{Asked}
use Rattle.winners.specs.Rows.{weight_at, hours_at, row_of, RowHeld}
use Rattle.winners.specs.declared.row.Offer.{Offer}
use Rattle.winners.specs.declared.row.Row.{Row}

-- a number holds hours that each of the first d offers asks for at least, of whatever kinds the offers' numbers hold hours
pub record LeastTo (d : ℕ) (offers : List Offer) (least : ℕ) : Type 0 where
  pub found : (k : ℕ) (asked : ℕ → List ℕ) → k ≤ 4 → ((e : ℕ) → e < length offers → Asked k (asked e) (hours_at offers e))
      → (hours : List ℕ) × Asked k hours least × ((e : ℕ) → e < d → e < length offers → fits hours (asked e) ≡ true)

-- the same of all offers
abbrev pub LeastIn : (offers : List Offer) → (least : ℕ) → Type 0
LeastIn os least = LeastTo (length os) os least

-- each offer asks for a number less, and weighs what it weighed
pub record TakenOff (least : ℕ) (before after : List Offer) : Type 0 where
  pub count : length after ≡ length before
  pub weights : (d : ℕ) → d < length before → weight_at after d ≡ weight_at before d
  pub hours : (d : ℕ) → d < length before → hours_at after d ≡ hours_at before d - least

-- offers have their client's least hours taken off, which a number holds
pub record RowTrimmed (m : Market) (wt : ℕ → ℕ) (k n t : ℕ) (offers : List Offer) (number : ℕ) : Type 0 where
  pub row : List ℕ
  pub least : List ℕ
  pub asked : Asked k least number
  pub low : (d : ℕ) → d < length row → fits least (m.hours (at row d)) ≡ true
  pub held : RowHeld (trimmed (λ c. least) m) wt k n t offers row

-- offers are settled: whatever row they are of, its least hours are taken off
pub record Settled (before after : List Offer) (number : ℕ) : Type 0 where
  pub trims : (m : Market) (wt : ℕ → ℕ) (k n t : ℕ) (row : List ℕ) → k ≤ 4 → RowHeld m wt k n t before row
      → RowTrimmed m wt k n t after number

-- the rows from that of client 1 up to that of client end - 1, with their least hours, which stand by client, taken off
abbrev pub TrimmedTo : (m : Market) (wt : ℕ → ℕ) (k n end : ℕ) (rows : List Row) (leasts : List ℕ) → Type 0
TrimmedTo m wt k n end rows leasts =
    (t : ℕ) → 1 ≤ t → t < end → RowTrimmed m wt k n t (row_of rows t) (get_or leasts t 0)
