-- A combination in the form of a vector: one entry for each client from some client on, the number of the bid taken or 0 for none. The
-- proofs reason over this form, and the layers above write sums over clients with it. Assumes nothing: these are definitions.
use Rattle.std.specs.Prelude.{◌≡◌, true, cond, List, [], ◌∷◌, ℕ, zero, suc, ◌+◌, ◌≤◌, eqb}
use Rattle.market.specs.Market.{Market, less}
use Rattle.market.specs.Greatest.{open_to}

-- the clients c, c + 1, .. may take the vector's bids one after the other, out of what is left
abbrev pub Feasible : Market → (c : ℕ) → (left : List ℕ) → (vector : List ℕ) → Type 0
Feasible m c ls [] = Unit {0}
Feasible m c ls (zero ∷ is) = Feasible m (suc c) ls is
Feasible m c ls (suc i ∷ is) =
    (suc i ≤ m.bids) × (open_to m c ls (suc i) ≡ true) × Feasible m (suc c) (less ls (m.hours (suc i))) is

-- the weight of an entry: 0 for none
abbrev pub entry : (weight : ℕ → ℕ) → (bid : ℕ) → ℕ
entry wt zero = 0
entry wt (suc i) = wt (suc i)

-- the weights of a vector's entries, added up
unfoldable pub taken : (weight : ℕ → ℕ) → (vector : List ℕ) → ℕ
taken wt [] = 0
taken wt (i ∷ is) = entry wt i + taken wt is

-- the bids that a vector takes, by rising client
unfoldable pub bids_of : (vector : List ℕ) → List ℕ
bids_of [] = []
bids_of (zero ∷ is) = bids_of is
bids_of (suc i ∷ is) = suc i ∷ bids_of is

-- client c's bid in a list, 0 if there is none
unfoldable pub bid_of : Market → (c : ℕ) → List ℕ → ℕ
bid_of m c [] = 0
bid_of m c (i ∷ is) = cond (eqb (m.owner i) c) i (bid_of m c is)

-- the vector of the clients c, c + 1, .. (k of them) for the bids of a list
unfoldable pub vector_of : Market → (k c : ℕ) → List ℕ → List ℕ
vector_of m zero c is = []
vector_of m (suc k) c is = bid_of m c is ∷ vector_of m k (suc c) is
