-- Clients as a list of members: what they reach, what they reach where nobody passes, the least hours that each of them takes in any case,
-- and one member's bids as a row. The files of proofs/ from Reach to Split, in the order of proofs/Lib.antt, hold the laws.
-- Assumes nothing: these are definitions.
use Rattle.std.specs.Prelude.{◌≡◌, Bool, true, cond, List, [], ◌∷◌, ℕ, zero, suc, ◌+◌, ◌≤◌, ◌<◌, max, length}
use Rattle.market.specs.Market.{Market, at, fits, less}
use Rattle.market.specs.Greatest.{choose}

-- hours added up, kind by kind
unfoldable pub more : (hours others : List ℕ) → List ℕ
more [] ys = ys
more (x ∷ xs) [] = x ∷ xs
more (x ∷ xs) (y ∷ ys) = (x + y) ∷ more xs ys

-- the greatest value that the members reach with the hours left: each passes, or takes a bid of its own that fits
unfoldable pub reach : Market → (weight : ℕ → ℕ) → (members left : List ℕ) → ℕ
reach m wt [] ls = 0
reach m wt (c ∷ cs) ls = choose m wt m.bids c ls (reach m wt cs ls) (λ rs. reach m wt cs rs)

-- the same where nobody passes; from a member on that has no bid that fits, nothing is reached
unfoldable pub full : Market → (weight : ℕ → ℕ) → (members left : List ℕ) → ℕ
full m wt [] ls = 0
full m wt (c ∷ cs) ls = choose m wt m.bids c ls 0 (λ rs. full m wt cs rs)

-- the clients c, c + 1, .. (k of them) that are kept
unfoldable pub members : (keep : ℕ → Bool) → (k c : ℕ) → List ℕ
members keep zero c = []
members keep (suc k) c = let rest = members keep k (suc c) in cond (keep c) (c ∷ rest) rest

-- the members but for the one at place d, counted from 0
unfoldable pub without : (d : ℕ) → (members : List ℕ) → List ℕ
without d [] = []
without zero (c ∷ cs) = cs
without (suc d) (c ∷ cs) = c ∷ without d cs

-- the members' least hours, added up
unfoldable pub leasts : (least : ℕ → List ℕ) → (members : List ℕ) → List ℕ
leasts least [] = []
leasts least (c ∷ cs) = more (least c) (leasts least cs)

-- the same market, from each of whose bids its client's least hours are taken
abbrev pub trimmed : (least : ℕ → List ℕ) → Market → Market
trimmed least m =
    record { bids = m.bids; owner = m.owner; hours = λ i. less (m.hours i) (least (m.owner i)); may = m.may }

-- no bid that may be taken asks for less of any kind than its client's least hours
abbrev pub Least : Market → (least : ℕ → List ℕ) → Type 0
Least m least = (i : ℕ) → 1 ≤ i → i ≤ m.bids → m.may i ≡ true → fits (least (m.owner i)) (m.hours i) ≡ true

-- the largest of `pass` and of what is reached by taking any one of the bids of a row that fits, where `on` is what the later members reach
unfoldable pub choose_in : Market → (weight : ℕ → ℕ) → (row left : List ℕ) → (pass : ℕ) → (on : List ℕ → ℕ) → ℕ
choose_in m wt [] ls p on = p
choose_in m wt (i ∷ is) ls p on =
    let after = choose_in m wt is ls p on in
    let taking = max after (wt i + on (less ls (m.hours i))) in
    cond (fits (m.hours i) ls) taking after

-- the row holds, in some order, those of the bids 1 to n that are client c's and may be taken, and no others
pub record RowOf (m : Market) (n c : ℕ) (row : List ℕ) : Type 0 where
  pub numbers : (k : ℕ) → k < length row → (1 ≤ at row k) × (at row k ≤ n)
  pub owners : (k : ℕ) → k < length row → m.owner (at row k) ≡ c
  pub eligible : (k : ℕ) → k < length row → m.may (at row k) ≡ true
  pub whole : (i : ℕ) → 1 ≤ i → i ≤ n → m.owner i ≡ c → m.may i ≡ true → (k : ℕ) × (k < length row) × (at row k ≡ i)

-- no bid of the row weighs more than the one before
unfoldable pub Falling : (weight : ℕ → ℕ) → (row : List ℕ) → Type 0
Falling wt row = (k : ℕ) → suc k < length row → wt (at row (suc k)) ≤ wt (at row k)

-- bid i is client c's and may be taken, and none of c's that may be taken weighs more
pub record Heaviest (m : Market) (wt : ℕ → ℕ) (c i : ℕ) : Type 0 where
  pub low : 1 ≤ i
  pub high : i ≤ m.bids
  pub own : m.owner i ≡ c
  pub eligible : m.may i ≡ true
  pub most : (j : ℕ) → 1 ≤ j → j ≤ m.bids → m.owner j ≡ c → m.may j ≡ true → wt j ≤ wt i
