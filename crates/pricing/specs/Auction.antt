-- An auction in the abstract, as far as the bounds of its winners' discounts go: what each allocation gives to each of w winners and to all
-- others, and the greatest value without a set of winners. Any kind of bids with such values is an instance. Cited by the law that bounds
-- for sets suffice. Assumes nothing: this is a definition.
use Rattle.std.specs.Prelude.{◌≡◌, cond, ℕ, ◌+◌, ◌*◌, ◌-◌, ◌^◌, ◌≤◌, ◌<◌}
use Rattle.sets.specs.Sums.{sum}
use Rattle.sets.specs.Sets.{has}

-- an auction with w winners, numbered from 0
pub record Auction (w : ℕ) : Type 1 where
  pub Allocation : Type 0
  -- what everybody but the winners gets
  pub rest : Allocation → ℕ
  -- what a winner gets
  pub gets : Allocation → (winner : ℕ) → ℕ
  -- the greatest value that leaves out the winners of a set: no allocation gives the others more, and one gives as much
  pub without : (set : ℕ) → ℕ
  pub unbeaten : (s : ℕ) (a : Allocation) → s < 2 ^ w → rest a + sum w (λ k. cond (has s k) 0 (gets a k)) ≤ without s
  pub attained : (s : ℕ) → s < 2 ^ w → (a : Allocation) × (rest a + sum w (λ k. cond (has s k) 0 (gets a k)) ≡ without s)

-- no allocation is worth more than the winning one once each winner's amounts are lowered by its discount d k / q, but not below zero
unfoldable pub NoneBetter : {w : ℕ} → Auction w → (q : ℕ) → (win d : ℕ → ℕ) → Type 0
NoneBetter {w} m q win d = (a : m.Allocation) → q * m.rest a + sum w (λ k. q * m.gets a k - d k) ≤ sum w (λ k. q * win k - d k)
