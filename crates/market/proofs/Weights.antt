-- How the greatest value follows the weights: larger weights never lower it, and where the weights of one client's bids, or of one bid,
-- differ by at most a, the values do too, since a combination holds at most one bid of a client. The layers above cite it.
-- Assumes nothing.
use mathlib.Core.Path.{◌≡◌, sym, ◌∙◌, ap}
use mathlib.Core.Bool.{true, false}
use mathlib.Core.List.{List, [], ◌∷◌}
use mathlib.Core.Logic.{◌≢◌, ⊎_elim}
use Prim.Native.Nat.{ℕ, ◌+◌, ◌≤◌}
use native.Mathlib.Nat.{le_of_eq}
use native.Mathlib.Omega.{arith}
use lib.Dec.{eqb}
use borrow.Author.Tests.{eqb-true, eqb-false}
use Rattle.market.specs.Market.{Market}
use Rattle.market.specs.Combination.{Combination, Greatest, worth}
use Rattle.market.proofs.Bools.{either, cond_cases}
use Rattle.market.proofs.Each.{Each, Pairwise, each_map}
use Rattle.market.proofs.Parts.{Candidate, Apart, combination_candidates, combination_apart}
use Rattle.market.proofs.Clients.{at_client, at_client_other}
use Rattle.market.proofs.Worth.{worth_le, worth_add, worth_zero}
use Rattle.market.proofs.Compare.{greatest_compare}

module _ (m : Market) (c a : ℕ) where
  at_client_none : (is : List ℕ) → Each (λ i. m.owner i ≢ c) is → worth (at_client m (λ i. a) c) is ≡ 0
  at_client_none is e =
      worth_zero (at_client m (λ i. a) c) is
      (each_map (λ i. m.owner i ≢ c) (λ i. at_client m (λ j. a) c i ≡ 0) (at_client_other m (λ i. a) c) is e)

  -- bids of different clients hold at most one of client c
  at_client_once : (is : List ℕ) → Pairwise (Apart m) is → worth (at_client m (λ i. a) c) is ≤ a
  unfolding worth
  at_client_once [] p = omega arith
  at_client_once (i ∷ is) p =
      ⊎_elim
      (λ (t : eqb (m.owner i) c ≡ true).
      let others = each_map (Apart m i) (λ j. m.owner j ≢ c) (λ j d e. d (eqb-true (m.owner i) c t ∙ sym e)) is p.0 in
      rw t (omega (arith, at_client_none is others)))
      (λ (t : eqb (m.owner i) c ≡ false). rw t (omega (arith, at_client_once is p.1)))
      (either (eqb (m.owner i) c))

module _ (m : Market) (n : ℕ) (supply : List ℕ) (wt wt' : ℕ → ℕ) (v v' : ℕ)
    (g : Greatest m n supply wt v) (g' : Greatest m n supply wt' v') where
  -- weights that exceed others by `excess` make the value larger by no more than a combination's excess
  greatest_excess : (excess : ℕ → ℕ) (a : ℕ) → ((i : ℕ) → Candidate m n i → wt i ≤ wt' i + excess i)
      → ((is : List ℕ) → Combination m n supply is → worth excess is ≤ a) → v ≤ v' + a
  greatest_excess excess a h b =
      greatest_compare m n supply m n supply wt wt' a v v'
      (λ is c. let more = each_map (Candidate m n) (λ i. wt i ≤ wt' i + excess i) h is (combination_candidates m n supply is c) in
      (is, c, omega (arith, worth_le wt (λ i. wt' i + excess i) is more, worth_add wt' excess is, b is c)))
      g g'

  -- where no weight but those of client c's bids is larger, and those by at most a, the value is larger by at most a
  pub greatest_client_weight : (c a : ℕ) → ((i : ℕ) → 1 ≤ i → i ≤ m.bids → m.owner i ≢ c → wt i ≤ wt' i)
      → ((i : ℕ) → 1 ≤ i → i ≤ m.bids → m.owner i ≡ c → wt i ≤ wt' i + a) → v ≤ v' + a
  greatest_client_weight c a others own =
      greatest_excess (at_client m (λ i. a) c) a
      (λ i b. cond_cases (λ x. wt i ≤ wt' i + x) (eqb (m.owner i) c) a 0
      (λ t. own i b.first b.last (eqb-true (m.owner i) c t))
      (λ t. omega (arith, others i b.first b.last (eqb-false (m.owner i) c t))))
      (λ is k. at_client_once m c a is (combination_apart m n supply is k))

  -- larger weights never lower the value
  pub greatest_more_weight : ((i : ℕ) → 1 ≤ i → i ≤ m.bids → wt i ≤ wt' i) → v ≤ v'
  greatest_more_weight h = omega (arith, greatest_client_weight 0 0 (λ i f l d. h i f l) (λ i f l e. omega (arith, h i f l)))

  -- where no weight but bid b's is larger, and that by at most a, the value is larger by at most a
  pub greatest_bid_weight : (b a : ℕ) → ((i : ℕ) → i ≢ b → wt i ≤ wt' i) → wt b ≤ wt' b + a → v ≤ v' + a
  greatest_bid_weight b a others own =
      greatest_client_weight (m.owner b) a (λ i f l d. others i (λ e. d (ap m.owner e)))
      (λ i f l e. ⊎_elim
      (λ (t : eqb i b ≡ true). rw (eqb-true i b t) own)
      (λ (t : eqb i b ≡ false). omega (arith, others i (eqb-false i b t)))
      (either (eqb i b)))

-- weights that differ at one bid alone, by at most a, have values that differ by at most a
pub greatest_bid_change : (m : Market) (n : ℕ) (supply : List ℕ) (wt wt' : ℕ → ℕ) (v v' b a : ℕ)
    → Greatest m n supply wt v → Greatest m n supply wt' v'
    → ((i : ℕ) → i ≢ b → wt i ≡ wt' i) → wt b ≤ wt' b + a → wt' b ≤ wt b + a → (v ≤ v' + a) × (v' ≤ v + a)
greatest_bid_change m n supply wt wt' v v' b a g g' same up down = (
  greatest_bid_weight m n supply wt wt' v v' g g' b a (λ i d. le_of_eq (same i d)) up,
  greatest_bid_weight m n supply wt' wt v' v g' g b a (λ i d. le_of_eq (sym (same i d))) down,
)
