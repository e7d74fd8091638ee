-- The greatest value depends on the bids 1 to `bids` alone: weights and markets that agree there have the same combinations and the same
-- greatest value. The layers above cite it where two of their definitions name one market. Assumes nothing.
use mathlib.Core.Path.{◌≡◌, sym, ◌∙◌}
use mathlib.Core.List.{List}
use Prim.Native.Nat.{ℕ, ◌≤◌}
use native.Mathlib.Nat.{le_trans, le_of_eq, lt_trans}
use native.Mathlib.Omega.{arith}
use Rattle.market.specs.Market.{Market, at}
use Rattle.market.specs.Combination.{Combination, Rising, Greatest, worth}
use Rattle.market.specs.Change.{Widens}
use Rattle.market.proofs.Each.{each_if}
use Rattle.market.proofs.Worth.{worth_eq}
use Rattle.market.proofs.Compare.{widens_carries, combination_carried, covers_itself}

module _ (m : Market) (n : ℕ) (supply : List ℕ) (v : ℕ) where
  pub greatest_same_weights : (wt wt' : ℕ → ℕ) → ((i : ℕ) → 1 ≤ i → i ≤ m.bids → wt i ≡ wt' i)
      → Greatest m n supply wt v → Greatest m n supply wt' v
  greatest_same_weights wt wt' h g =
      let same : (is : List ℕ) → Combination m n supply is → worth wt is ≡ worth wt' is =
      λ is c. worth_eq wt wt' is (each_if (λ i. wt i ≡ wt' i) is (λ k l. h (at is k) (c.numbers k l).0 (c.numbers k l).1)) in
      record {
        unbeaten = λ is c. le_trans (le_of_eq (sym (same is c))) (g.unbeaten is c);
        attained = let (is, c, r, e) = g.attained in (is, c, r, sym (same is c) ∙ e);
      }

  rising_widened : (m' : Market) → Widens m m' → (is : List ℕ) → Combination m n supply is → Rising m is → Rising m' is
  unfolding Rising
  rising_widened m' w is c r j k l h =
      let (first, last) = c.numbers j (lt_trans l h) in
      omega (arith, r j k l h, w.owner (at is j) first last, w.owner (at is k) (c.numbers k h).0 (c.numbers k h).1)

  pub greatest_same_market : (m' : Market) (wt : ℕ → ℕ) → Widens m m' → Widens m' m → Greatest m n supply wt v → Greatest m' n supply wt v
  greatest_same_market m' wt w u g =
      record {
        unbeaten =
            λ is c. g.unbeaten is (combination_carried m' n supply m n supply (widens_carries m' n m u) (covers_itself supply) is c);
        attained =
            let (is, c, r, e) = g.attained in
            let there = combination_carried m n supply m' n supply (widens_carries m n m' w) (covers_itself supply) is c in
            (is, there, rising_widened m' w is c r, e);
      }
