-- A combination in any order has a feasible vector from client 1 on, of the same worth, where no bid asks for a kind without supply: the
-- entry of each client is its bid in the list. proofs/Optimum.antt and the layers above cite it. Assumes nothing.
use mathlib.Core.Path.{◌≡◌, refl, sym, ◌∙◌, ap}
use mathlib.Core.Bool.{true}
use mathlib.Core.List.{List, ◌∷◌}
use Prim.Native.Nat.{ℕ, zero, suc, ◌+◌, ◌≤◌, ◌<◌}
use native.Mathlib.Nat.{not-suc-le-zero, le_trans, le_of_eq}
use native.Mathlib.Omega.{arith}
use lib.ListN.{length}
use Rattle.market.specs.Market.{Market, at, less, Supplied}
use Rattle.market.specs.Greatest.{open_to}
use Rattle.market.specs.Combination.{Combination, Rising, worth}
use Rattle.sets.specs.Sums.{sum}
use Rattle.market.specs.Vector.{Feasible, entry, taken, bids_of, bid_of, vector_of}
use Rattle.market.proofs.Hours.{less_at, less_length, supplied_less, fits_if}
use Rattle.market.proofs.Each.{Each}
use Rattle.sets.proofs.Sums.{sum_ext}
use Rattle.market.proofs.Parts.{Candidate, combination_candidates}
use Rattle.market.proofs.BidOf.{bid_of_each}
use Rattle.market.proofs.Clients.{entry_bid, worth_clients}
use Rattle.market.proofs.Vector.{open_if, taken_sum, bids_of_worth, feasible_combination}

-- a vector whose first entry is given as a number: none, or a bid that is open to the client
feasible_cons : (m : Market) (c x : ℕ) (ls is : List ℕ) → Feasible m (suc c) ls is
    → (1 ≤ x → (x ≤ m.bids) × (open_to m c ls x ≡ true) × Feasible m (suc c) (less ls (m.hours x)) is) → Feasible m c ls (x ∷ is)
feasible_cons m c zero ls is f g = f
feasible_cons m c (suc i) ls is f g = g (omega arith)

module _ (m : Market) (is : List ℕ) where
  pub vector_length : (k c : ℕ) → length (vector_of m k c is) ≡ k
  unfolding vector_of
  vector_length zero c = refl
  vector_length (suc k) c = ap suc (vector_length k (suc c))

  pub vector_at : (k c j : ℕ) → j < k → at (vector_of m k c is) j ≡ bid_of m (c + j) is
  unfolding vector_of
  vector_at zero c j l = absurd (not-suc-le-zero l)
  vector_at (suc k) c zero l = ap (λ (d : ℕ). bid_of m d is) (omega arith)
  vector_at (suc k) c (suc j) l = vector_at k (suc c) j (omega arith) ∙ ap (λ (d : ℕ). bid_of m d is) (omega arith)

  vector_sum : (wt : ℕ → ℕ) (n : ℕ) → taken wt (vector_of m n 1 is) ≡ sum n (λ j. entry wt (bid_of m (suc j) is))
  vector_sum wt n =
      taken_sum wt (vector_of m n 1 is)
      ∙ ap (λ (k : ℕ). sum k (λ j. entry wt (at (vector_of m n 1 is) j))) (vector_length n 1)
      ∙ sum_ext n (λ j. entry wt (at (vector_of m n 1 is) j)) (λ j. entry wt (bid_of m (suc j) is))
      (λ j l. ap (entry wt) (vector_at n 1 j l ∙ ap (λ (d : ℕ). bid_of m d is) (omega arith)))

  -- the hours of each kind that the vector takes are within what is left
  abbrev Fitting : (k c : ℕ) → List ℕ → Type 0
  Fitting k c ls = (kind : ℕ) → kind < length ls → taken (λ i. at (m.hours i) kind) (vector_of m k c is) ≤ at ls kind

  vector_feasible : (n k c : ℕ) (ls : List ℕ) → Each (Candidate m n) is → Supplied m ls → Fitting k c ls
      → Feasible m c ls (vector_of m k c is)
  unfolding vector_of taken
  vector_feasible n zero c ls e s w = tt
  vector_feasible n (suc k) c ls e s w =
      feasible_cons m c (bid_of m c is) ls (vector_of m k (suc c) is)
      (vector_feasible n k (suc c) ls e s (λ kind l. omega (arith, w kind l)))
      (λ p. let b = bid_of m c is in
      let (good, own) = bid_of_each m (Candidate m n) c is e p in
      let takes : (kind : ℕ) → entry (λ i. at (m.hours i) kind) b ≡ at (m.hours b) kind =
      λ kind. entry_bid (λ i. at (m.hours i) kind) b p in (
        good.last,
        open_if m c ls b own good.eligible
            (fits_if (m.hours b) ls (s b good.first good.last) (λ kind l. omega (arith, w kind l, takes kind))),
        vector_feasible n k (suc c) (less ls (m.hours b)) e (supplied_less m ls (m.hours b) s)
            (λ kind l. let there : kind < length ls = (rw less_length at l) in
            omega (arith, w kind there, takes kind, less_at ls (m.hours b) kind)),
      ))

module _ (m : Market) (n : ℕ) (supply is : List ℕ) (c : Combination m n supply is) where
  -- the vector has the combination's worth
  pub combination_taken : (wt : ℕ → ℕ) → taken wt (vector_of m n 1 is) ≡ worth wt is
  combination_taken wt = vector_sum m is wt n ∙ sym (worth_clients m n wt supply is c)

  -- and is feasible
  pub combination_feasible : Supplied m supply → Feasible m 1 supply (vector_of m n 1 is)
  combination_feasible s =
      vector_feasible m is n n 1 supply (combination_candidates m n supply is c) s
      (λ kind l. le_trans (le_of_eq (combination_taken (λ i. at (m.hours i) kind))) (c.within kind l))

  -- the same bids by rising client
  pub combination_sorted : Supplied m supply
      → (js : List ℕ) × Combination m n supply js × Rising m js × ((wt : ℕ → ℕ) → worth wt js ≡ worth wt is)
  combination_sorted s =
      let vector = vector_of m n 1 is in
      let (sorted, rising) = feasible_combination m n supply vector (vector_length m is n 1) (combination_feasible s) in
      (bids_of vector, sorted, rising, λ wt. bids_of_worth wt vector ∙ combination_taken wt)
