-- A combination in parts: each bid by itself (Candidate), every two bids (of different clients), and the hours together. The definition
-- says it by index, and these laws by recursion on the list. The other files on combinations cite them. Assumes nothing.
use mathlib.Core.Path.{◌≡◌}
use mathlib.Core.Bool.{true}
use mathlib.Core.List.{List}
use mathlib.Core.Logic.{◌≢◌}
use Prim.Native.Nat.{ℕ, ◌≤◌, ◌<◌}
use native.Mathlib.Nat.{ne_of_lt}
use lib.ListN.{length}
use Rattle.market.specs.Market.{Market, at}
use Rattle.market.specs.Combination.{Combination, Rising, hours_of}
use Rattle.market.proofs.Each.{Each, Pairwise, each_at, each_if, pairwise_at, pairwise_if}

-- a bid that a combination of the clients 1 to n may hold
pub record Candidate (m : Market) (n i : ℕ) : Type 0 where
  pub first : 1 ≤ i
  pub last : i ≤ m.bids
  pub eligible : m.may i ≡ true
  pub owner_first : 1 ≤ m.owner i
  pub owner_last : m.owner i ≤ n

-- two bids of different clients
abbrev pub Apart : Market → ℕ → ℕ → Type 0
Apart m i j = m.owner i ≢ m.owner j

-- two bids, the first of an earlier client
abbrev pub Before : Market → ℕ → ℕ → Type 0
Before m i j = m.owner i < m.owner j

-- the hours together are within the supply
abbrev pub Within : Market → (supply : List ℕ) → List ℕ → Type 0
Within m supply is = (kind : ℕ) → kind < length supply → hours_of m kind is ≤ at supply kind

module _ (m : Market) (n : ℕ) (supply is : List ℕ) where
  pub combination_candidates : Combination m n supply is → Each (Candidate m n) is
  combination_candidates c =
      each_if (Candidate m n) is
      (λ k l. record {
        first = (c.numbers k l).0;
        last = (c.numbers k l).1;
        eligible = c.eligible k l;
        owner_first = (c.owners k l).0;
        owner_last = (c.owners k l).1;
      })

  pub combination_apart : Combination m n supply is → Pairwise (Apart m) is
  combination_apart c = pairwise_if (Apart m) is c.one_each

  pub combination_if : Each (Candidate m n) is → Pairwise (Apart m) is → Within m supply is → Combination m n supply is
  combination_if e p w =
      let at_each = each_at (Candidate m n) is e in
      record {
        numbers = λ k l. ((at_each k l).first, (at_each k l).last);
        eligible = λ k l. (at_each k l).eligible;
        owners = λ k l. ((at_each k l).owner_first, (at_each k l).owner_last);
        one_each = pairwise_at (Apart m) is p;
        within = w;
      }

module _ (m : Market) where
  pub rising_before : (is : List ℕ) → Rising m is → Pairwise (Before m) is
  unfolding Rising
  rising_before is r = pairwise_if (Before m) is r

  pub before_rising : (is : List ℕ) → Pairwise (Before m) is → Rising m is
  unfolding Rising
  before_rising is p = pairwise_at (Before m) is p

  pub before_apart : (is : List ℕ) → Pairwise (Before m) is → Pairwise (Apart m) is
  before_apart is p = pairwise_if (Apart m) is (λ j k l h. ne_of_lt (pairwise_at (Before m) is p j k l h))
