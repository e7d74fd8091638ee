-- A combination by rising client, bid after bid out of what is left (Row), is a combination that is Rising, and the other way where no
-- bid asks for a kind without supply. The test and the vectors reach combinations through it. Assumes nothing.
use mathlib.Core.Path.{◌≡◌}
use mathlib.Core.Bool.{true}
use mathlib.Core.List.{List, [], ◌∷◌}
use Prim.Native.Nat.{ℕ, ◌≤◌, ◌<◌}
use native.Mathlib.Nat.{lt_trans, lt_of_le_of_lt}
use native.Mathlib.Omega.{arith}
use lib.ListN.{length}
use Rattle.market.specs.Market.{Market, at, fits, less, Supplied}
use Rattle.market.specs.Combination.{Combination, Rising, worth, hours_of}
use Rattle.market.proofs.Each.{Each, Pairwise, each_map}
use Rattle.market.proofs.Hours.{less_at, less_length, supplied_less, fits_at, fits_if}
use Rattle.market.proofs.Parts.{Candidate, Before, Within, combination_candidates, combination_if}
use Rattle.market.proofs.Parts.{rising_before, before_rising, before_apart}

-- each bid is a candidate of a client after c, and fits in what is left; c and what is left follow the list
abbrev pub Row : Market → (n c : ℕ) → (left : List ℕ) → List ℕ → Type 0
Row m n c ls [] = Unit {0}
Row m n c ls (i ∷ is) =
    Candidate m n i × (c < m.owner i) × (fits (m.hours i) ls ≡ true) × Row m n (m.owner i) (less ls (m.hours i)) is

module _ (m : Market) (n : ℕ) where
  row_candidates : (c : ℕ) (ls is : List ℕ) → Row m n c ls is → Each (Candidate m n) is
  row_candidates c ls [] r = tt
  row_candidates c ls (i ∷ is) r = (r.0, row_candidates (m.owner i) (less ls (m.hours i)) is r.3)

  row_after : (c : ℕ) (ls is : List ℕ) → Row m n c ls is → Each (λ i. c < m.owner i) is
  row_after c ls [] r = tt
  row_after c ls (i ∷ is) r = (
    r.1,
    each_map (Before m i) (λ j. c < m.owner j) (λ j l. lt_trans r.1 l) is
        (row_after (m.owner i) (less ls (m.hours i)) is r.3),
  )

  row_before : (c : ℕ) (ls is : List ℕ) → Row m n c ls is → Pairwise (Before m) is
  row_before c ls [] r = tt
  row_before c ls (i ∷ is) r =
      let rest = less ls (m.hours i) in
      (row_after (m.owner i) rest is r.3, row_before (m.owner i) rest is r.3)

  row_within : (c : ℕ) (ls is : List ℕ) → Row m n c ls is → (kind : ℕ) → hours_of m kind is ≤ at ls kind
  unfolding worth
  row_within c ls [] r kind = omega arith
  row_within c ls (i ∷ is) r kind =
      omega (
        arith,
        row_within (m.owner i) (less ls (m.hours i)) is r.3 kind,
        less_at ls (m.hours i) kind,
        fits_at (m.hours i) ls r.2 kind,
      )

  pub row_combination : (supply is : List ℕ) → Row m n 0 supply is → Combination m n supply is × Rising m is
  row_combination supply is r =
      let rising = row_before 0 supply is r in (
        combination_if m n supply is (row_candidates 0 supply is r) (before_apart m is rising) (λ kind l. row_within 0 supply is r kind),
        before_rising m is rising,
      )

  -- what a later client's row starts from does as well for an earlier one
  pub row_earlier : (b c : ℕ) (ls is : List ℕ) → b ≤ c → Row m n c ls is → Row m n b ls is
  row_earlier b c ls [] l r = tt
  row_earlier b c ls (i ∷ is) l r = (r.0, lt_of_le_of_lt l r.1, r.2, r.3)

  row_if : (c : ℕ) (ls is : List ℕ) → Each (Candidate m n) is → Each (λ i. c < m.owner i) is → Pairwise (Before m) is
      → Supplied m ls → Within m ls is → Row m n c ls is
  unfolding worth
  row_if c ls [] e a p s w = tt
  row_if c ls (i ∷ is) e a p s w = (
    e.0,
    a.0,
    fits_if (m.hours i) ls (s i e.0.first e.0.last) (λ k l. omega (arith, w k l)),
    row_if (m.owner i) (less ls (m.hours i)) is e.1 p.0 p.1
        (supplied_less m ls (m.hours i) s)
        (λ k l. let b : k < length ls = (rw less_length at l) in omega (arith, w k b, less_at ls (m.hours i) k)),
  )

  pub combination_row : (supply is : List ℕ) → Supplied m supply → Combination m n supply is → Rising m is → Row m n 0 supply is
  combination_row supply is s c r =
      let candidates = combination_candidates m n supply is c in
      row_if 0 supply is candidates (each_map (Candidate m n) (λ i. 0 < m.owner i) (λ i h. h.owner_first) is candidates)
      (rising_before m is r) s c.within
