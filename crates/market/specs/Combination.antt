-- What a combination of bids is, and which value is the greatest, with no word on how to find it: a combination is a list of bid numbers
-- in any order. The promises of the layers above are about these. Assumes nothing: these are definitions.
use Rattle.std.specs.Prelude.{◌≡◌, Bool, true, ◌&&◌, List, [], ◌∷◌, ◌≢◌, ℕ, ◌+◌, ◌≤◌, ◌<◌, leb, ltb, length}
use Rattle.market.specs.Market.{Market, at, fits, less}

-- the weights of the bids, added up
unfoldable pub worth : (weight : ℕ → ℕ) → List ℕ → ℕ
worth wt [] = 0
worth wt (i ∷ is) = wt i + worth wt is

-- the hours of one kind that the bids ask for together
abbrev pub hours_of : Market → (kind : ℕ) → List ℕ → ℕ
hours_of m kind is = worth (λ i. at (m.hours i) kind) is

-- at most one bid of each of the clients 1 to n, each of which may be taken, their hours of each kind totalling no more than the supply
pub record Combination (m : Market) (n : ℕ) (supply : List ℕ) (is : List ℕ) : Type 0 where
  pub numbers : (k : ℕ) → k < length is → (1 ≤ at is k) × (at is k ≤ m.bids)
  pub eligible : (k : ℕ) → k < length is → m.may (at is k) ≡ true
  pub owners : (k : ℕ) → k < length is → (1 ≤ m.owner (at is k)) × (m.owner (at is k) ≤ n)
  pub one_each : (j k : ℕ) → j < k → k < length is → m.owner (at is j) ≢ m.owner (at is k)
  pub within : (kind : ℕ) → kind < length supply → hours_of m kind is ≤ at supply kind

-- the bids stand by strictly rising client
unfoldable pub Rising : Market → List ℕ → Type 0
Rising m is = (j k : ℕ) → j < k → k < length is → m.owner (at is j) < m.owner (at is k)

-- no combination is worth more than v, and one, by rising client, is worth v
pub record Greatest (m : Market) (n : ℕ) (supply : List ℕ) (weight : ℕ → ℕ) (v : ℕ) : Type 0 where
  pub unbeaten : (is : List ℕ) → Combination m n supply is → worth weight is ≤ v
  pub attained : (is : List ℕ) × Combination m n supply is × Rising m is × (worth weight is ≡ v)

-- the test in one pass: the next number is a bid's, of a client after c and up to n, may be taken, and fits in what is left; so on
unfoldable pub rising_from : Market → (n c : ℕ) → (left : List ℕ) → List ℕ → Bool
rising_from m n c ls [] = true
rising_from m n c ls (i ∷ is) =
    ((leb 1 i && leb i m.bids) && ((ltb c (m.owner i) && leb (m.owner i) n) && m.may i))
    && (fits (m.hours i) ls && rising_from m n (m.owner i) (less ls (m.hours i)) is)

-- the bids, as they stand, are a combination by rising client
unfoldable pub is_combination : Market → (n : ℕ) → (supply : List ℕ) → List ℕ → Bool
is_combination m n supply is = rising_from m n 0 supply is
