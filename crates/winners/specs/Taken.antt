-- The hours that a set's clients take, for each set: their least hours, or in their place those of their heaviest bids. Cited by what
-- private functions ask and answer. Assumes nothing: these are definitions.
use Rattle.std.specs.Prelude.{◌≡◌, true, List, ℕ, ◌≤◌, ◌<◌, eqb, get_or, slice_index_or}
use Rattle.std.specs.Int.Bits.{bit_and}
use Rattle.market.specs.Market.{fits, less}
use Rattle.market.specs.Members.{leasts}
use Rattle.winners.specs.ClientSets.{clients_in, Within}
use Rattle.winners.specs.Lanes.{guards, Asked, Left}
use Rattle.winners.specs.declared.taken.Taken.{Taken}

-- a number has its guards clear if and only if hours fit the supply, and holds then what is used once they are taken
pub record Room (k : ℕ) (supply hours : List ℕ) (number : ℕ) : Type 0 where
  pub clear : eqb (bit_and number guards) 0 ≡ fits hours supply
  pub left : fits hours supply ≡ true → Left k (less supply hours) number

-- numbers by client hold the clients' least hours
abbrev pub LeastsHeld : (k : ℕ) → (least : ℕ → List ℕ) → (numbers : List ℕ) → Type 0
LeastsHeld k least xs = (c : ℕ) → 1 ≤ c → c ≤ 6 → Asked k (least c) (get_or xs c 0)

-- what stands past the last set, and by set
abbrev pub no_taken : Taken
no_taken = record { least = 0; heads = 0 }

abbrev pub taken_at : (taken : List Taken) → (set : ℕ) → Taken
taken_at ts s = slice_index_or ts s no_taken

-- for each set below n of clients of one set, whether its clients' hours fit the supply, and what they leave
abbrev pub TakenTo : (k : ℕ) (supply : List ℕ) (least : ℕ → List ℕ) (held n : ℕ) (number : ℕ → ℕ) → Type 0
TakenTo k supply least held n number =
    (set : ℕ) → set < n → Within set held → Room k supply (leasts least (clients_in set)) (number set)
