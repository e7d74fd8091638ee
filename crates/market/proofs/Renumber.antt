-- The clients' numbers do not matter: renumbering the clients 1 to n among themselves leaves the combinations as they are, and so the
-- greatest value. The layers above cite it. Assumes nothing.
use mathlib.Core.Path.{◌≡◌, sym, ◌∙◌, ap}
use mathlib.Core.List.{List}
use mathlib.Core.Logic.{◌↔◌}
use Prim.Native.Nat.{ℕ, ◌≤◌}
use native.Mathlib.Nat.{le_refl, le_antisymm}
use Rattle.market.specs.Market.{Market, Supplied}
use Rattle.market.specs.Greatest.{best}
use Rattle.market.specs.Combination.{Combination, Greatest}
use Rattle.market.specs.Change.{Client, renumbered, Renumbering}
use Rattle.market.proofs.Parts.{Candidate}
use Rattle.market.proofs.Compare.{Carries, combination_carried, greatest_carried, covers_itself}
use Rattle.market.proofs.Optimum.{greatest_best}

-- where every bid is one of the clients', a bijection of 1 to n is enough
pub owned_renumbering : (m : Market) (n : ℕ) (π ρ : ℕ → ℕ) → ((i : ℕ) → 1 ≤ i → i ≤ m.bids → Client n (m.owner i))
    → ((c : ℕ) → Client n c → Client n (π c)) → ((c : ℕ) → Client n c → ρ (π c) ≡ c) → Renumbering m n π ρ
owned_renumbering m n π ρ owned there back = record { there = there; back = back; others = λ i f l h. owned i f l }

module _ (m : Market) (n : ℕ) (π ρ : ℕ → ℕ) (r : Renumbering m n π ρ) where
  owner_client : (i : ℕ) → Candidate m n i → Client n (m.owner i)
  owner_client i b = (b.owner_first, b.owner_last)

  carries_there : Carries m n (renumbered π m) n
  carries_there =
      record {
        candidate =
            λ i b. let (first, last) = r.there (m.owner i) (owner_client i b) in
            record { first = b.first; last = b.last; eligible = b.eligible; owner_first = first; owner_last = last };
        hours = λ i b kind. le_refl _;
        apart =
            λ i j b c d e. d (sym (r.back (m.owner i) (owner_client i b)) ∙ ap ρ e ∙ r.back (m.owner j) (owner_client j c));
      }

  carries_back : Carries (renumbered π m) n m n
  carries_back =
      record {
        candidate =
            λ i b. let (first, last) = r.others i b.first b.last (b.owner_first, b.owner_last) in
            record { first = b.first; last = b.last; eligible = b.eligible; owner_first = first; owner_last = last };
        hours = λ i b kind. le_refl _;
        apart = λ i j b c d e. d (ap π e);
      }

  pub combination_renumbered : (supply is : List ℕ) → Combination m n supply is ↔ Combination (renumbered π m) n supply is
  combination_renumbered supply is = (
    combination_carried m n supply (renumbered π m) n supply carries_there (covers_itself supply) is,
    combination_carried (renumbered π m) n supply m n supply carries_back (covers_itself supply) is,
  )

  pub greatest_renumbered : (supply : List ℕ) (wt : ℕ → ℕ) (v v' : ℕ)
      → Greatest m n supply wt v → Greatest (renumbered π m) n supply wt v' → v ≡ v'
  greatest_renumbered supply wt v v' g g' =
      le_antisymm (greatest_carried m n supply (renumbered π m) n supply wt v v' carries_there (covers_itself supply) g g')
      (greatest_carried (renumbered π m) n supply m n supply wt v' v carries_back (covers_itself supply) g' g)

  pub best_renumbered : (supply : List ℕ) (wt : ℕ → ℕ) → Supplied m supply → best m wt n 1 supply ≡ best (renumbered π m) wt n 1 supply
  best_renumbered supply wt s =
      greatest_renumbered supply wt _ _ (greatest_best m n supply wt s) (greatest_best (renumbered π m) n supply wt s)
