-- Bids that ask for more than the supply are in no combination, so a market without them has the same greatest value. The layers above cite
-- best_fitted. Assumes nothing.
use mathlib.Core.Path.{◌≡◌, sym}
use mathlib.Core.Bool.{true, and-true, and-eq-true_iff}
use mathlib.Core.List.{List}
use Prim.Native.Nat.{ℕ, ◌<◌}
use native.Mathlib.Nat.{le_trans, le_of_eq, le_antisymm}
use lib.ListN.{length}
use Rattle.market.specs.Market.{Market, at, fits, Supplied}
use Rattle.market.specs.Greatest.{best}
use Rattle.market.specs.Combination.{Combination}
use Rattle.market.specs.Restrict.{fitted}
use Rattle.market.proofs.Hours.{fits_if}
use Rattle.market.proofs.Worth.{worth_one}
use Rattle.market.proofs.Optimum.{greatest_attained, greatest_unbeaten}

module _ (m : Market) (n : ℕ) (supply : List ℕ) (s : Supplied m supply) where
  -- each bid of a combination fits the supply by itself
  fits_alone : (is : List ℕ) → Combination m n supply is → (k : ℕ) → k < length is → fits (m.hours (at is k)) supply ≡ true
  fits_alone is c k l =
      let (first, last) = c.numbers k l in
      fits_if (m.hours (at is k)) supply (s (at is k) first last)
      (λ kind h. le_trans (worth_one (λ i. at (m.hours i) kind) is k l) (c.within kind h))

  into : (is : List ℕ) → Combination m n supply is → Combination (fitted supply m) n supply is
  into is c = record {
    numbers = c.numbers;
    eligible = λ k l. rw (fits_alone is c k l, and-true) (c.eligible k l);
    owners = c.owners;
    one_each = c.one_each;
    within = c.within;
  }

  out_of : (is : List ℕ) → Combination (fitted supply m) n supply is → Combination m n supply is
  out_of is c = record {
    numbers = c.numbers;
    eligible = λ k l. ((and-eq-true_iff (m.may (at is k)) (fits (m.hours (at is k)) supply)).0 (c.eligible k l)).0;
    owners = c.owners;
    one_each = c.one_each;
    within = c.within;
  }

  pub best_fitted : (wt : ℕ → ℕ) → best (fitted supply m) wt n 1 supply ≡ best m wt n 1 supply
  best_fitted wt =
      let (is, c, _, e) = greatest_attained (fitted supply m) n supply wt in
      let (js, d, _, f) = greatest_attained m n supply wt in
      le_antisymm
      (le_trans (le_of_eq (sym e)) (greatest_unbeaten m n supply wt s is (out_of is c)))
      (le_trans (le_of_eq (sym f)) (greatest_unbeaten (fitted supply m) n supply wt s js (into js d)))
