-- The greatest values of two markets compared, from 'attained' and 'unbeaten' alone: where the combinations of one carry over to the
-- other, its value is no larger. More bids that may be taken, and more supply, are cases. proofs/Restrict.antt and proofs/Renumber.antt
-- cite it. Assumes nothing.
use mathlib.Core.Path.{sym, ◌∙◌, ap}
use mathlib.Core.List.{List}
use mathlib.Core.Logic.{◌≢◌}
use Prim.Native.Nat.{ℕ, ◌+◌, ◌≤◌}
use native.Mathlib.Nat.{le_refl, le_trans, le_of_eq, lt_trans}
use native.Mathlib.Omega.{arith}
use Rattle.market.specs.Market.{Market, at}
use Rattle.market.specs.Combination.{Combination, Greatest, worth}
use Rattle.market.specs.Change.{Widens, Covers}
use Rattle.market.proofs.Each.{each_at, each_map}
use Rattle.market.proofs.Parts.{Candidate, combination_candidates}
use Rattle.market.proofs.Worth.{worth_le}

-- the first market's bids serve in the second: each is a candidate there and asks for no more, and different clients stay different
pub record Carries (m : Market) (n : ℕ) (m' : Market) (n' : ℕ) : Type 0 where
  pub candidate : (i : ℕ) → Candidate m n i → Candidate m' n' i
  pub hours : (i : ℕ) → Candidate m n i → (kind : ℕ) → at (m'.hours i) kind ≤ at (m.hours i) kind
  pub apart : (i j : ℕ) → Candidate m n i → Candidate m n j → m.owner i ≢ m.owner j → m'.owner i ≢ m'.owner j

pub covers_itself : (supply : List ℕ) → Covers supply supply
covers_itself supply = record { kinds = le_refl _; enough = λ kind l. le_refl _ }

module _ (m : Market) (n : ℕ) (supply : List ℕ) (m' : Market) (n' : ℕ) (supply' : List ℕ) where
  pub combination_carried : Carries m n m' n' → Covers supply supply' → (is : List ℕ)
      → Combination m n supply is → Combination m' n' supply' is
  combination_carried r s is c =
      let e = combination_candidates m n supply is c in
      let one = each_at (Candidate m n) is e in
      record {
        numbers = λ k l. let b = r.candidate (at is k) (one k l) in (b.first, b.last);
        eligible = λ k l. (r.candidate (at is k) (one k l)).eligible;
        owners = λ k l. let b = r.candidate (at is k) (one k l) in (b.owner_first, b.owner_last);
        one_each = λ j k l h. r.apart (at is j) (at is k) (one j (lt_trans l h)) (one k h) (c.one_each j k l h);
        within =
            λ kind l. let asks : Market → ℕ → ℕ = λ x i. at (x.hours i) kind in
            omega (
              arith,
              worth_le (asks m') (asks m) is (each_map (Candidate m n) (λ i. asks m' i ≤ asks m i) (λ i b. r.hours i b kind) is e),
              s.kinds,
              c.within kind (omega arith),
              s.enough kind l,
            );
      }

  -- where each combination has a counterpart that is worth at most a less, so has the greatest value
  pub greatest_compare : (wt wt' : ℕ → ℕ) (a v v' : ℕ)
      → ((is : List ℕ) → Combination m n supply is → (js : List ℕ) × Combination m' n' supply' js × (worth wt is ≤ worth wt' js + a))
      → Greatest m n supply wt v → Greatest m' n' supply' wt' v' → v ≤ v' + a
  greatest_compare wt wt' a v v' f g g' =
      let (is, c, r, e) = g.attained in
      let (js, d, l) = f is c in
      omega (arith, e, l, g'.unbeaten js d)

  pub greatest_carried : (wt : ℕ → ℕ) (v v' : ℕ) → Carries m n m' n' → Covers supply supply'
      → Greatest m n supply wt v → Greatest m' n' supply' wt v' → v ≤ v'
  greatest_carried wt v v' r s g g' =
      omega (arith, greatest_compare wt wt 0 v v' (λ is c. (is, combination_carried r s is c, omega arith)) g g')

module _ (m : Market) (n : ℕ) (m' : Market) where
  pub widens_carries : Widens m m' → Carries m n m' n
  widens_carries w =
      record {
        candidate =
            λ i b. let same = w.owner i b.first b.last in
            record {
              first = b.first;
              last = le_trans b.last w.bids;
              eligible = w.may i b.first b.last b.eligible;
              owner_first = omega (arith, b.owner_first);
              owner_last = omega (arith, b.owner_last);
            };
        hours = λ i b kind. le_of_eq (ap (λ (hs : List ℕ). at hs kind) (w.hours i b.first b.last));
        apart = λ i j b c d e. d (sym (w.owner i b.first b.last) ∙ e ∙ w.owner j c.first c.last);
      }

  -- more bids that may be taken never lower the value
  pub greatest_more_bids : (supply : List ℕ) (wt : ℕ → ℕ) (v v' : ℕ) → Widens m m'
      → Greatest m n supply wt v → Greatest m' n supply wt v' → v ≤ v'
  greatest_more_bids supply wt v v' w = greatest_carried m n supply m' n supply wt v v' (widens_carries w) (covers_itself supply)

pub carries_itself : (m : Market) (n : ℕ) → Carries m n m n
carries_itself m n = record { candidate = λ i b. b; hours = λ i b kind. le_refl _; apart = λ i j b c d. d }

-- more supply never lowers the value
pub greatest_more_supply : (m : Market) (n : ℕ) (supply supply' : List ℕ) (wt : ℕ → ℕ) (v v' : ℕ) → Covers supply supply'
    → Greatest m n supply wt v → Greatest m n supply' wt v' → v ≤ v'
greatest_more_supply m n supply supply' wt v v' s = greatest_carried m n supply m n supply' wt v v' (carries_itself m n) s
