-- Of a combination, the bids of the clients that are kept: a combination of the market restricted to them, whose worth with that of the
-- others is the worth of the whole, and a sum over the clients kept. The layers above cite it where clients are discarded.
-- Assumes nothing.
use mathlib.Core.Path.{◌≡◌, refl, ◌∙◌, ap}
use mathlib.Core.Bool.{Bool, true, false, cond, not}
use mathlib.Core.List.{List, [], ◌∷◌}
use mathlib.Core.Logic.{⊎_elim}
use Prim.Native.Nat.{ℕ, zero, suc, ◌+◌, ◌≤◌}
use native.Mathlib.Omega.{arith}
use Rattle.market.specs.Market.{Market, at}
use Rattle.market.specs.Combination.{Combination, Greatest, worth}
use Rattle.sets.specs.Sums.{sum}
use Rattle.market.specs.Vector.{entry, bid_of}
use Rattle.market.specs.Restrict.{only, kept}
use Rattle.market.proofs.Bools.{either, cond_cases}
use Rattle.market.proofs.Each.{Each, Pairwise, each_map}
use Rattle.sets.proofs.Sums.{sum_ext}
use Rattle.market.proofs.Parts.{Candidate, Apart, combination_candidates, combination_apart, combination_if}
use Rattle.market.proofs.BidOf.{bid_of_each}
use Rattle.market.proofs.Clients.{worth_clients}
use Rattle.market.proofs.Restrict.{only_candidate}

module _ (m : Market) (keep : ℕ → Bool) where
  -- what holds of each bid holds of each one kept, and its client is kept
  kept_each : (P : ℕ → Type 0) (is : List ℕ) → Each P is → Each (λ i. P i × (keep (m.owner i) ≡ true)) (kept m keep is)
  unfolding kept
  kept_each P [] e = tt
  kept_each P (i ∷ is) e =
      cond_cases (Each (λ i. P i × (keep (m.owner i) ≡ true))) (keep (m.owner i)) (i ∷ kept m keep is) (kept m keep is)
      (λ t. ((e.0, t), kept_each P is e.1)) (λ t. kept_each P is e.1)

  kept_pairwise : (R : ℕ → ℕ → Type 0) (is : List ℕ) → Pairwise R is → Pairwise R (kept m keep is)
  unfolding kept
  kept_pairwise R [] p = tt
  kept_pairwise R (i ∷ is) p =
      cond_cases (Pairwise R) (keep (m.owner i)) (i ∷ kept m keep is) (kept m keep is)
      (λ t. (
        each_map (λ j. R i j × (keep (m.owner j) ≡ true)) (R i) (λ j h. h.0) (kept m keep is) (kept_each (R i) is p.0),
        kept_pairwise R is p.1,
      ))
      (λ t. kept_pairwise R is p.1)

  -- the worth of the bids kept and that of the others make the worth of the whole
  pub worth_kept : (wt : ℕ → ℕ) (is : List ℕ) → worth wt (kept m keep is) + worth wt (kept m (λ c. not (keep c)) is) ≡ worth wt is
  unfolding worth kept
  worth_kept wt [] = refl
  worth_kept wt (i ∷ is) =
      ⊎_elim (λ (t : keep (m.owner i) ≡ true). rw t (omega (arith, worth_kept wt is)))
      (λ (t : keep (m.owner i) ≡ false). rw t (omega (arith, worth_kept wt is)))
      (either (keep (m.owner i)))

  pub combination_kept : (n : ℕ) (supply is : List ℕ) → Combination m n supply is → Combination (only keep m) n supply (kept m keep is)
  combination_kept n supply is c =
      combination_if (only keep m) n supply (kept m keep is)
      (each_map (λ i. Candidate m n i × (keep (m.owner i) ≡ true)) (Candidate (only keep m) n)
      (λ i h. only_candidate m n keep i h.0 h.1)
      (kept m keep is) (kept_each (Candidate m n) is (combination_candidates m n supply is c)))
      (kept_pairwise (Apart m) is (combination_apart m n supply is c))
      (λ kind l. omega (arith, worth_kept (λ i. at (m.hours i) kind) is, c.within kind l))

  -- so it is worth no more than the greatest value of what is kept
  pub kept_unbeaten : (n : ℕ) (supply : List ℕ) (wt : ℕ → ℕ) (v : ℕ) → Greatest (only keep m) n supply wt v
      → (is : List ℕ) → Combination m n supply is → worth wt (kept m keep is) ≤ v
  kept_unbeaten n supply wt v g is c = g.unbeaten (kept m keep is) (combination_kept n supply is c)

  -- a bid's weight if its client is kept, else 0
  abbrev kept_weight : (wt : ℕ → ℕ) → (i : ℕ) → ℕ
  kept_weight wt i = cond (keep (m.owner i)) (wt i) 0

  worth_kept_weight : (wt : ℕ → ℕ) (is : List ℕ) → worth wt (kept m keep is) ≡ worth (kept_weight wt) is
  unfolding worth kept
  worth_kept_weight wt [] = refl
  worth_kept_weight wt (i ∷ is) =
      ⊎_elim (λ (t : keep (m.owner i) ≡ true). rw t (omega (arith, worth_kept_weight wt is)))
      (λ (t : keep (m.owner i) ≡ false). rw t (omega (arith, worth_kept_weight wt is)))
      (either (keep (m.owner i)))

  entry_kept : (wt : ℕ → ℕ) (c x : ℕ) → (1 ≤ x → m.owner x ≡ c) → entry (kept_weight wt) x ≡ cond (keep c) (entry wt x) 0
  entry_kept wt c zero h = cond_cases (λ v. 0 ≡ v) (keep c) 0 0 (λ t. refl) (λ t. refl)
  entry_kept wt c (suc i) h = ap (λ (d : ℕ). cond (keep d) (wt (suc i)) 0) (h (omega arith))

  -- the worth of what is kept is the sum over the clients kept of what each one's bid weighs
  pub kept_clients : (n : ℕ) (supply : List ℕ) (wt : ℕ → ℕ) (is : List ℕ) → Combination m n supply is
      → worth wt (kept m keep is) ≡ sum n (λ j. cond (keep (suc j)) (entry wt (bid_of m (suc j) is)) 0)
  kept_clients n supply wt is c =
      worth_kept_weight wt is
      ∙ worth_clients m n (kept_weight wt) supply is c
      ∙ sum_ext n (λ j. entry (kept_weight wt) (bid_of m (suc j) is)) (λ j. cond (keep (suc j)) (entry wt (bid_of m (suc j) is)) 0)
      (λ j l. entry_kept wt (suc j) (bid_of m (suc j) is)
      (λ p. (bid_of_each m (Candidate m n) (suc j) is (combination_candidates m n supply is c) p).1))
