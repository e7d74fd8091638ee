-- The worth of a combination as a sum over the clients 1 to n: of each one's bid, if it has one, the weight. proofs/VectorOf.antt and
-- the layers above cite it. Assumes nothing.
use mathlib.Core.Path.{◌≡◌, refl, sym, ◌∙◌}
use mathlib.Core.Bool.{true, false, cond}
use mathlib.Core.List.{List, [], ◌∷◌}
use mathlib.Core.Logic.{◌≢◌, ⊎_elim}
use Prim.Native.Nat.{ℕ, zero, suc, ◌+◌, ◌-◌, ◌≤◌}
use native.Mathlib.Nat.{not-suc-le-zero}
use native.Mathlib.Omega.{arith}
use lib.Dec.{eqb}
use borrow.Author.Tests.{eqb-true, eq-eqb, ne_eqb}
use Rattle.market.specs.Market.{Market}
use Rattle.market.specs.Combination.{Combination, worth}
use Rattle.sets.specs.Sums.{sum}
use Rattle.market.specs.Vector.{entry, bid_of}
use Rattle.market.proofs.Bools.{either, cond_true, cond_false}
use Rattle.market.proofs.Each.{Each, Pairwise, each_map}
use Rattle.sets.proofs.Sums.{sum_ext, sum_zero, sum_add, sum_one}
use Rattle.market.proofs.Parts.{Candidate, Apart, combination_candidates, combination_apart}
use Rattle.market.proofs.BidOf.{bid_of_none}

pub entry_bid : (wt : ℕ → ℕ) (i : ℕ) → 1 ≤ i → entry wt i ≡ wt i
entry_bid wt zero l = absurd (not-suc-le-zero l)
entry_bid wt (suc i) l = refl

-- the weight of a bid of client c, 0 of any other bid
abbrev pub at_client : Market → (wt : ℕ → ℕ) → (c i : ℕ) → ℕ
at_client m wt c i = cond (eqb (m.owner i) c) (wt i) 0

pub at_client_own : (m : Market) (wt : ℕ → ℕ) (c i : ℕ) → m.owner i ≡ c → at_client m wt c i ≡ wt i
at_client_own m wt c i e = cond_true (eqb (m.owner i) c) (wt i) 0 (eq-eqb (m.owner i) c e)

pub at_client_other : (m : Market) (wt : ℕ → ℕ) (c i : ℕ) → m.owner i ≢ c → at_client m wt c i ≡ 0
at_client_other m wt c i d = cond_false (eqb (m.owner i) c) (wt i) 0 (ne_eqb (m.owner i) c d)

module _ (m : Market) (n : ℕ) (wt : ℕ → ℕ) where
  -- one more bid, of a client that has none yet, adds its weight at that client
  entry_more : (c i : ℕ) (is : List ℕ) → 1 ≤ i → Each (Apart m i) is
      → entry wt (bid_of m c (i ∷ is)) ≡ at_client m wt c i + entry wt (bid_of m c is)
  unfolding bid_of
  entry_more c i is l a =
      ⊎_elim
      (λ (t : eqb (m.owner i) c ≡ true).
      let e = eqb-true (m.owner i) c t in
      let none = bid_of_none m c is (each_map (Apart m i) (λ j. m.owner j ≢ c) (λ j h d. h (e ∙ sym d)) is a) in
      rw (t, none) (omega (arith, entry_bid wt i l)))
      (λ (t : eqb (m.owner i) c ≡ false). rw t (omega arith))
      (either (eqb (m.owner i) c))

  -- a bid's weight stands at its own client alone
  at_client_sum : (i : ℕ) → Candidate m n i → sum n (λ j. at_client m wt (suc j) i) ≡ wt i
  at_client_sum i b =
      let k = m.owner i - 1 in
      sum_one n (λ j. at_client m wt (suc j) i) k (omega arith)
      (λ j l d. at_client_other m wt (suc j) i (λ (e : m.owner i ≡ suc j). d (omega arith)))
      ∙ at_client_own m wt (suc k) i (omega arith)

  worth_sum : (is : List ℕ) → Each (Candidate m n) is → Pairwise (Apart m) is → worth wt is ≡ sum n (λ j. entry wt (bid_of m (suc j) is))
  unfolding worth bid_of
  worth_sum [] e p = sym (sum_zero n (λ j. 0) (λ j l. refl))
  worth_sum (i ∷ is) e p =
      let own : ℕ → ℕ = λ j. at_client m wt (suc j) i in
      let rest : ℕ → ℕ = λ j. entry wt (bid_of m (suc j) is) in
      omega (
        arith,
        worth_sum is e.1 p.1,
        at_client_sum i e.0,
        sum_add n own rest,
        sum_ext n (λ j. entry wt (bid_of m (suc j) (i ∷ is))) (λ j. own j + rest j) (λ j l. entry_more (suc j) i is e.0.first p.0),
      )

  -- the worth of a combination is the sum over the clients 1 to n of what each one's bid weighs
  pub worth_clients : (supply is : List ℕ) → Combination m n supply is → worth wt is ≡ sum n (λ j. entry wt (bid_of m (suc j) is))
  worth_clients supply is c = worth_sum is (combination_candidates m n supply is c) (combination_apart m n supply is c)
