-- What the private functions over lists of clients ask of their caller, and the array that they fill. No public function asks anything.
-- Assumes nothing: these are definitions.
use Rattle.std.specs.Prelude.{◌≡◌, true, List, ℕ, ◌+◌, ◌^◌, ◌≤◌, ◌<◌, length, get_or}
use Rattle.sets.specs.Sets.{set_of}
use Rattle.winners.specs.Surplus.{picked}
use Rattle.winners.specs.Surpluses.{rising_to}

-- at most six clients from 1 to 6, strictly rising
pub record RisingList (clients : List ℕ) : Type 0 where
  pub few : length clients ≤ 6
  pub rising : rising_to 6 0 clients ≡ true

-- room for the sets of one client more, and for its bit in each byte
pub record RoomToDouble (discards : List ℕ) (end bit : ℕ) : Type 0 where
  pub long : length discards ≡ 64
  pub few : end ≤ 32
  pub low : bit ≤ 32
  pub most : (L : ℕ) → L < end → get_or discards L 0 < 64

-- the entries below end as they were, and after them the first of these once more, each with the bit
pub record Doubled (discards : List ℕ) (end bit set : ℕ) (out : List ℕ) : Type 0 where
  pub kept : (L : ℕ) → L < end → get_or out L 0 ≡ get_or discards L 0
  pub added : (L : ℕ) → L < set → get_or out (end + L) 0 ≡ get_or discards L 0 + bit

-- by set number, the clients that the set picks from the list, as a set
abbrev pub Discards : (clients : List ℕ) → List ℕ → Type 0
Discards cs ds = (L : ℕ) → L < 2 ^ length cs → get_or ds L 0 ≡ set_of 6 (λ j. picked cs L (1 + j))
