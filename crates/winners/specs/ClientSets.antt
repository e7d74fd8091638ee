-- Sets of clients as numbers below 64: bit c - 1 stands for client c. Cited by what private functions ask and answer. Assumes nothing:
-- these are definitions.
use Rattle.std.specs.Prelude.{◌≡◌, true, false, List, ℕ, ◌-◌, ◌^◌, ◌≤◌, ◌<◌}
use Rattle.sets.specs.Sets.{has}
use Rattle.market.specs.Members.{members}

-- a set's clients, by rising client
abbrev pub clients_in : (set : ℕ) → List ℕ
clients_in s = members (λ c. has s (c - 1)) 6 1

-- c is the set's first client
pub record First (set c : ℕ) : Type 0 where
  pub low : 1 ≤ c
  pub high : c ≤ 6
  pub there : has set (c - 1) ≡ true
  pub none : (j : ℕ) → j < c - 1 → has set j ≡ false

-- r is the set without its first client
pub record Others (set r : ℕ) : Type 0 where
  pub fewer : r < set
  pub is : (c : ℕ) → First set c → r ≡ set - 2 ^ (c - 1)

-- every client of the set is one of the other
abbrev pub Within : (set other : ℕ) → Type 0
Within s o = (j : ℕ) → has s j ≡ true → has o j ≡ true
