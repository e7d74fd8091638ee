-- The recursion's value is the greatest over combinations in any order (greatest_best), and only one number is (greatest_unique). This
-- is the theorem that the layers above cite of the greatest value. Assumes nothing.
use mathlib.Core.Path.{◌≡◌, sym, ◌∙◌}
use mathlib.Core.List.{List}
use Prim.Native.Nat.{ℕ, ◌≤◌}
use native.Mathlib.Nat.{le_trans, le_of_eq, le_antisymm}
use Rattle.market.specs.Market.{Market, Supplied}
use Rattle.market.specs.Greatest.{best}
use Rattle.market.specs.Combination.{Combination, Rising, Greatest, worth}
use Rattle.market.specs.Vector.{bids_of, vector_of}
use Rattle.market.proofs.Best.{best_unbeaten, best_attained}
use Rattle.market.proofs.Vector.{bids_of_worth, feasible_combination}
use Rattle.market.proofs.VectorOf.{vector_length, combination_taken, combination_feasible}

module _ (m : Market) (n : ℕ) (supply : List ℕ) (wt : ℕ → ℕ) where
  -- some combination by rising client is worth what the recursion says, whatever the bids ask for
  pub greatest_attained : (is : List ℕ) × Combination m n supply is × Rising m is × (worth wt is ≡ best m wt n 1 supply)
  greatest_attained =
      let (is, e, f, v) = best_attained m wt n 1 supply in
      let (c, r) = feasible_combination m n supply is e f in
      (bids_of is, c, r, bids_of_worth wt is ∙ v)

  -- no combination is worth more, where no bid asks for a kind without supply
  pub greatest_unbeaten : Supplied m supply → (is : List ℕ) → Combination m n supply is → worth wt is ≤ best m wt n 1 supply
  greatest_unbeaten s is c =
      le_trans (le_of_eq (sym (combination_taken m n supply is c wt)))
      (best_unbeaten m wt n 1 supply (vector_of m n 1 is) (combination_feasible m n supply is c s) (vector_length m is n 1))

  -- the recursion's value is the greatest
  pub greatest_best : Supplied m supply → Greatest m n supply wt (best m wt n 1 supply)
  greatest_best s = record { unbeaten = greatest_unbeaten s; attained = greatest_attained }

  -- only one number is
  pub greatest_unique : (u v : ℕ) → Greatest m n supply wt u → Greatest m n supply wt v → u ≡ v
  greatest_unique u v g h = le_antisymm (reached g h) (reached h g)
    where
      reached : {a b : ℕ} → Greatest m n supply wt a → Greatest m n supply wt b → a ≤ b
      reached p q = let (is, c, r, e) = p.attained in le_trans (le_of_eq (sym e)) (q.unbeaten is c)

  -- so whatever is greatest is what the recursion says
  pub greatest_is : Supplied m supply → (v : ℕ) → Greatest m n supply wt v → v ≡ best m wt n 1 supply
  greatest_is s v g = greatest_unique v (best m wt n 1 supply) g (greatest_best s)
