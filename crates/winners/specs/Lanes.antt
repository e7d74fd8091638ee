-- The hours of several kinds as one number: a lane of 16 bits for each kind, the first kind lowest. Cited by the contracts of
-- src/lanes.rt and of the search. Assumes nothing: these are definitions.
use Rattle.std.specs.Prelude.{◌≡◌, List, [], ◌∷◌, ℕ, zero, suc, ◌+◌, ◌*◌, ◌-◌, ◌/◌, ◌^◌, ◌≤◌, ◌<◌, length, get_or}
use Rattle.std.specs.Int.Bits.{bit_and}
use Rattle.market.specs.Market.{less}

-- the guards of four lanes: bit 8 of each
abbrev pub guards : ℕ
guards = 72058693566333184

-- 255 in each of four lanes: the most that hours asked, or hours used, come to
abbrev pub lanes_full : ℕ
lanes_full = 71777214294589695

-- the hours asked
unfoldable pub packed : List ℕ → ℕ
packed [] = 0
packed (h ∷ hs) = h + 65536 * packed hs

-- the hours used, in n lanes: what those left lack of 255; past the last of them none is left
unfoldable pub used : (n : ℕ) (left : List ℕ) → ℕ
used zero ls = 0
used (suc n) [] = 255 + 65536 * used n []
used (suc n) (l ∷ ls) = 255 - l + 65536 * used n ls

-- every bit of n lanes
unfoldable pub ones : (n : ℕ) → ℕ
ones zero = 0
ones (suc n) = 65535 + 65536 * ones n

-- every entry is a byte
abbrev pub Bytes : List ℕ → Type 0
Bytes xs = (i : ℕ) → get_or xs i 0 < 256

-- a number holds the hours of k kinds, packed
pub record Asked (k : ℕ) (hours : List ℕ) (number : ℕ) : Type 0 where
  pub kinds : length hours ≡ k
  pub bytes : Bytes hours
  pub packs : number ≡ packed hours

-- a number holds the hours used where these are left, of k kinds
pub record Left (k : ℕ) (hours : List ℕ) (number : ℕ) : Type 0 where
  pub kinds : length hours ≡ k
  pub kinds_few : k ≤ 4
  pub bytes : Bytes hours
  pub lanes : number ≡ used 4 hours

-- what the lanes of a exceed those of b by: by the guards, from which b is taken, and the lanes whose guard stays
unfoldable pub over_lanes : (a b : ℕ) → ℕ
over_lanes a b =
    let above = bit_and (a + guards - b) guards in
    bit_and (a + guards - b) (above - above / 2 ^ 8)

-- a number holds, lane by lane, the smaller of what two others hold
abbrev pub SmallerLanes : (first second least : ℕ) → Type 0
SmallerLanes a b r = (k : ℕ) (xs ys : List ℕ) → k ≤ 4 → Asked k xs a → Asked k ys b → Asked k (less xs (less xs ys)) r
