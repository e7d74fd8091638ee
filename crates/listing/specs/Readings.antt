-- What was read of an input, and the printed text of every input of which that can have been read.
-- The contract of `price_list_of` cites it. Assumes nothing: these are definitions.
use Rattle.std.specs.Prelude.{◌≡◌, List, ℕ, ◌<◌, ◌≤◌, length, take}
use Rattle.text.specs.declared.Text.{Text}
use Rattle.listing.specs.Listing.{Listed}

-- these bytes are what reading the input leaves, where there is room for `room` bytes
pub record ReadFrom (input : List ℕ) (room : ℕ) (read : List ℕ) : Type 0 where
  -- the input begins with them
  pub begins : take (length read) input ≡ read
  -- and is longer only where there is no room left
  pub longer_if_full : length read < length input → room ≤ length read

-- t is the printed text of every such input, whole
unfoldable pub ListedRead : (room : ℕ) → (read : List ℕ) → Text → Type 0
ListedRead room read t = (input : List ℕ) → ReadFrom input room read → Listed input t
