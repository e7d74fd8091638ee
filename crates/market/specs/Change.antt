-- What the laws of change compare: a market with more bids, a supply of more hours, and clients under other numbers. proofs/Compare.antt
-- and proofs/Renumber.antt hold the laws. Assumes nothing: these are definitions.
use Rattle.std.specs.Prelude.{◌≡◌, true, List, ℕ, ◌≤◌, ◌<◌, length}
use Rattle.market.specs.Market.{Market, at}

-- the second market has the first's bids, and each that may be taken may be taken there
pub record Widens (m m' : Market) : Type 0 where
  pub bids : m.bids ≤ m'.bids
  pub owner : (i : ℕ) → 1 ≤ i → i ≤ m.bids → m'.owner i ≡ m.owner i
  pub hours : (i : ℕ) → 1 ≤ i → i ≤ m.bids → m'.hours i ≡ m.hours i
  pub may : (i : ℕ) → 1 ≤ i → i ≤ m.bids → m.may i ≡ true → m'.may i ≡ true

-- each kind that the second supply has, the first has too, and no more of it
pub record Covers (supply supply' : List ℕ) : Type 0 where
  pub kinds : length supply' ≤ length supply
  pub enough : (kind : ℕ) → kind < length supply' → at supply kind ≤ at supply' kind

-- one of the clients 1 to n
abbrev pub Client : (n c : ℕ) → Type 0
Client n c = (1 ≤ c) × (c ≤ n)

-- the same market, client c having the number π c
abbrev pub renumbered : (π : ℕ → ℕ) → Market → Market
renumbered π m = record { bids = m.bids; owner = λ i. π (m.owner i); hours = m.hours; may = m.may }

-- π takes the clients 1 to n to clients 1 to n, no two to one, since ρ takes them back, and makes a client's bid of no other
pub record Renumbering (m : Market) (n : ℕ) (π ρ : ℕ → ℕ) : Type 0 where
  pub there : (c : ℕ) → Client n c → Client n (π c)
  pub back : (c : ℕ) → Client n c → ρ (π c) ≡ c
  pub others : (i : ℕ) → 1 ≤ i → i ≤ m.bids → Client n (π (m.owner i)) → Client n (m.owner i)
