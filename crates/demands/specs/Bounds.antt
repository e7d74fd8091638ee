-- That σ and ρ are what their words say (FORMAT, "Terms"), and that bounds for sets suffice. proofs/Bounds.antt shows them; no contract
-- rests on them. Assumes nothing: these are definitions.
use Rattle.std.specs.Prelude.{◌≡◌, true, List, ◌↔◌, ◌≢◌, ℕ, ◌+◌, ◌≤◌, ◌<◌, length}
use Rattle.sets.specs.Sets.{has}
use Rattle.market.specs.Market.{at}
use Rattle.pricing.specs.Fractions.{Fraction}
use Rattle.pricing.specs.Discounts.{Proper, ReserveKept, SetsKept}
use Rattle.book.specs.Book.{Book, client_of}
use Rattle.winners.specs.Combinations.{Combination, worth}
use Rattle.demands.specs.Winners.{sigma, win, reserves, rho}
use Rattle.demands.specs.Discounts.{discount, NoneBetter}
use Rattle.demands.specs.Acceptable.{Optimal}

-- σ. No bid is of a client of the set's winners
unfoldable pub Without : Book → (winners : List ℕ) → (L : ℕ) → (bids : List ℕ) → Type 0
Without b is L xs = (j k : ℕ) → j < length is → has L j ≡ true → k < length xs → client_of b (at xs k) ≢ client_of b (at is j)

-- v is the greatest value of a combination without the clients of the set's winners
pub record GreatestWithout (b : Book) (winners : List ℕ) (L v : ℕ) : Type 0 where
  pub unbeaten : (xs : List ℕ) → Combination b xs → Without b winners L xs → worth b xs ≤ v
  pub attained : (xs : List ℕ) × Combination b xs × Without b winners L xs × (worth b xs ≡ v)

-- σ of a set with the greatest value without the set's clients makes the greatest value, which leaves out the empty set, number 0
pub record SigmaIs (b : Book) (winners : List ℕ) (L : ℕ) : Type 0 where
  pub v : ℕ
  pub u : ℕ
  pub all : GreatestWithout b winners 0 v
  pub others : GreatestWithout b winners L u
  pub makes : sigma b winners L + u ≡ v

-- ρ with the reserves makes the amount: in a sound book (question 5) nothing stopped at zero
unfoldable pub RhoExact : Book → (winners : List ℕ) → Type 0
RhoExact b is = (j : ℕ) → j < length is → rho b is j + reserves b is j ≡ win b is j

-- BOUNDS FOR SETS. For winners of greatest value and discounts from 0 to ρ, no combination of lowered bids is worth more than the winners'
-- exactly where the discounts of every non-empty set add up to at most its σ
unfoldable pub SetsSuffice : Book → (winners : List ℕ) → Type 0
SetsSuffice b is =
    Optimal b is → (ds : List Fraction) → Proper (length is) (discount ds) → ReserveKept (length is) (rho b is) (discount ds) →
    NoneBetter b is (discount ds) ↔ SetsKept (length is) (sigma b is) (discount ds)
