-- The market of a package auction: bids on hours of several kinds, whose they are, and which of them may be taken. Every other file of
-- the crate is about such a market; what a bid is worth is no part of it but an argument where it is wanted.
-- Assumes nothing: these are definitions.
use Rattle.std.specs.Prelude.{Bool, true, false, ◌&&◌, List, [], ◌∷◌, ℕ, ◌-◌, ◌≤◌, leb, length, get_or}

-- Bids are numbered 1 to `bids`, and clients from 1.
pub record Market : Type 0 where
  pub bids : ℕ  -- how many there are
  pub owner : (bid : ℕ) → ℕ  -- whose it is
  pub hours : (bid : ℕ) → List ℕ  -- what it asks of each kind
  pub may : (bid : ℕ) → Bool  -- may it be taken at all

-- entry k of a list, counted from 0; past its end 0
abbrev pub at : List ℕ → (k : ℕ) → ℕ
at xs k = get_or xs k 0

-- of each kind no more is asked than is left, and nothing of a kind that is not there
unfoldable pub fits : (hours left : List ℕ) → Bool
fits [] ls = true
fits (h ∷ hs) [] = false
fits (h ∷ hs) (l ∷ ls) = leb h l && fits hs ls

-- what is left of each kind once these hours are taken
unfoldable pub less : (left hours : List ℕ) → List ℕ
less [] hs = []
less (l ∷ ls) [] = l ∷ ls
less (l ∷ ls) (h ∷ hs) = (l - h) ∷ less ls hs

-- no bid asks for a kind of which there is no supply
abbrev pub Supplied : Market → (supply : List ℕ) → Type 0
Supplied m supply = (i : ℕ) → 1 ≤ i → i ≤ m.bids → length (m.hours i) ≤ length supply
