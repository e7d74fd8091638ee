-- A feasible vector from client 1 on: its bids are a combination by rising client, of the same worth, and its worth is a sum over its
-- entries. proofs/VectorOf.antt has the way back. proofs/Optimum.antt and the layers above cite it. Assumes nothing.
use mathlib.Core.Path.{◌≡◌, refl, ap}
use mathlib.Core.Bool.{true, ◌&&◌, and-eq-true_iff}
use mathlib.Core.List.{List, [], ◌∷◌}
use Prim.Native.Nat.{ℕ, zero, suc, ◌+◌, ◌≤◌}
use native.Mathlib.Omega.{arith}
use lib.Dec.{eqb}
use lib.ListN.{length}
use borrow.Author.Tests.{eqb-true, eq-eqb}
use Rattle.market.specs.Market.{Market, at, fits, less}
use Rattle.market.specs.Greatest.{open_to}
use Rattle.market.specs.Combination.{Combination, Rising, worth}
use Rattle.sets.specs.Sums.{sum}
use Rattle.market.specs.Vector.{Feasible, entry, taken, bids_of}
use Rattle.sets.proofs.Sums.{sum_front}
use Rattle.market.proofs.Row.{Row, row_earlier, row_combination}

-- what is open to a client: its own, may be taken, fits
module _ (m : Market) (c : ℕ) (ls : List ℕ) (i : ℕ) where
  pub open_parts : open_to m c ls i ≡ true → (m.owner i ≡ c) × (m.may i ≡ true) × (fits (m.hours i) ls ≡ true)
  unfolding open_to
  open_parts t =
      let (own, rest) = (and-eq-true_iff (eqb (m.owner i) c) (m.may i && fits (m.hours i) ls)).0 t in
      let (may, fit) = (and-eq-true_iff (m.may i) (fits (m.hours i) ls)).0 rest in
      (eqb-true (m.owner i) c own, may, fit)

  pub open_if : m.owner i ≡ c → m.may i ≡ true → fits (m.hours i) ls ≡ true → open_to m c ls i ≡ true
  unfolding open_to
  open_if own may fit =
      (and-eq-true_iff (eqb (m.owner i) c) (m.may i && fits (m.hours i) ls)).1
      (eq-eqb (m.owner i) c own, (and-eq-true_iff (m.may i) (fits (m.hours i) ls)).1 (may, fit))

-- a vector's worth is a sum over its entries
pub taken_sum : (wt : ℕ → ℕ) (is : List ℕ) → taken wt is ≡ sum (length is) (λ j. entry wt (at is j))
unfolding taken sum
taken_sum wt [] = refl
taken_sum wt (i ∷ is) = omega (arith, taken_sum wt is, sum_front (length is) (λ j. entry wt (at (i ∷ is) j)))

-- and the worth of its bids
pub bids_of_worth : (wt : ℕ → ℕ) (is : List ℕ) → worth wt (bids_of is) ≡ taken wt is
unfolding worth bids_of taken
bids_of_worth wt [] = refl
bids_of_worth wt (zero ∷ is) = omega (arith, bids_of_worth wt is)
bids_of_worth wt (suc i ∷ is) = ap (λ (x : ℕ). wt (suc i) + x) (bids_of_worth wt is)

module _ (m : Market) (n : ℕ) where
  feasible_row : (c : ℕ) (ls is : List ℕ) → Feasible m (suc c) ls is → c + length is ≤ n → Row m n c ls (bids_of is)
  unfolding bids_of
  feasible_row c ls [] f l = tt
  feasible_row c ls (zero ∷ is) f l = row_earlier m n c (suc c) ls (bids_of is) (omega arith) (feasible_row (suc c) ls is f (omega arith))
  feasible_row c ls (suc i ∷ is) (last, t, f) l =
      let (own, may, fit) = open_parts m (suc c) ls (suc i) t in
      let rest = less ls (m.hours (suc i)) in (
        record { first = omega arith; last = last; eligible = may; owner_first = omega arith; owner_last = omega arith },
        omega arith,
        fit,
        rw own (feasible_row (suc c) rest is f (omega arith)),
      )

  -- its bids are a combination by rising client
  pub feasible_combination : (supply is : List ℕ) → length is ≡ n → Feasible m 1 supply is
      → Combination m n supply (bids_of is) × Rising m (bids_of is)
  feasible_combination supply is e f = row_combination m n supply (bids_of is) (feasible_row 0 supply is f (omega arith))
