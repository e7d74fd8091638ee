-- A client's bid in a list: none, or a bid at some place that the client owns; in a combination, where a client owns at most one, that
-- one. proofs/Clients.antt, proofs/VectorOf.antt and the layers above cite it. Assumes nothing.
use mathlib.Core.Path.{◌≡◌, refl, sym, ◌∙◌, ap, subst}
use mathlib.Core.List.{List, [], ◌∷◌}
use mathlib.Core.Logic.{◌≢◌, ◌⊎◌, inl, inr, ⊎_elim}
use Prim.Native.Nat.{ℕ, zero, suc, ◌≤◌, ◌<◌}
use native.Mathlib.Nat.{not-suc-le-zero}
use native.Mathlib.Omega.{arith}
use lib.Dec.{eqb}
use lib.ListN.{length}
use borrow.Author.Tests.{eqb-true, eq-eqb, ne_eqb}
use Rattle.market.specs.Market.{Market, at}
use Rattle.market.specs.Combination.{Combination}
use Rattle.market.specs.Vector.{bid_of}
use Rattle.market.proofs.Bools.{cond_true, cond_false, cond_cases}
use Rattle.market.proofs.Each.{Each, Pairwise, each_at}
use Rattle.market.proofs.Parts.{Apart, combination_apart}

module _ (m : Market) where
  bid_of_first : (c i : ℕ) (is : List ℕ) → m.owner i ≡ c → bid_of m c (i ∷ is) ≡ i
  unfolding bid_of
  bid_of_first c i is e = cond_true (eqb (m.owner i) c) i (bid_of m c is) (eq-eqb (m.owner i) c e)

  pub bid_of_later : (c i : ℕ) (is : List ℕ) → m.owner i ≢ c → bid_of m c (i ∷ is) ≡ bid_of m c is
  unfolding bid_of
  bid_of_later c i is e = cond_false (eqb (m.owner i) c) i (bid_of m c is) (ne_eqb (m.owner i) c e)

  -- a client that owns none of the bids has none
  pub bid_of_none : (c : ℕ) (is : List ℕ) → Each (λ i. m.owner i ≢ c) is → bid_of m c is ≡ 0
  unfolding bid_of
  bid_of_none c [] e = refl
  bid_of_none c (i ∷ is) e = bid_of_later c i is e.0 ∙ bid_of_none c is e.1

  -- x is 0, or the bid at some place, and client c's own
  abbrev pub Found : (c : ℕ) → List ℕ → (x : ℕ) → Type 0
  Found c is x = (x ≡ 0) ⊎ ((k : ℕ) × (k < length is) × (x ≡ at is k) × (m.owner (at is k) ≡ c))

  found_later : (c i : ℕ) (is : List ℕ) (x : ℕ) → Found c is x → Found c (i ∷ is) x
  found_later c i is x (inl e) = inl e
  found_later c i is x (inr (k, l, e, o)) = inr (suc k, omega arith, e, o)

  pub bid_of_found : (c : ℕ) (is : List ℕ) → Found c is (bid_of m c is)
  unfolding bid_of
  bid_of_found c [] = inl refl
  bid_of_found c (i ∷ is) =
      cond_cases (Found c (i ∷ is)) (eqb (m.owner i) c) i (bid_of m c is)
      (λ t. inr (0, omega arith, refl, eqb-true (m.owner i) c t)) (λ t. found_later c i is _ (bid_of_found c is))

  -- what holds of every bid holds of a client's bid, if it has one, and the client owns it
  pub bid_of_each : (P : ℕ → Type 0) (c : ℕ) (is : List ℕ) → Each P is → 1 ≤ bid_of m c is
      → P (bid_of m c is) × (m.owner (bid_of m c is) ≡ c)
  bid_of_each P c is e l =
      ⊎_elim (λ (z : bid_of m c is ≡ 0). absurd (omega arith))
      (λ (k, b, q, o). (subst P (sym q) (each_at P is e k b), ap m.owner q ∙ o))
      (bid_of_found c is)

  bid_of_own : (is : List ℕ) → Pairwise (Apart m) is → (k : ℕ) → k < length is → bid_of m (m.owner (at is k)) is ≡ at is k
  bid_of_own [] p k l = absurd (not-suc-le-zero l)
  bid_of_own (i ∷ is) p zero l = bid_of_first (m.owner i) i is refl
  bid_of_own (i ∷ is) p (suc k) l =
      bid_of_later (m.owner (at is k)) i is (each_at (Apart m i) is p.0 k (omega arith)) ∙ bid_of_own is p.1 k (omega arith)

  -- in a combination the bid at any place is its client's bid: a client has at most one
  pub bid_of_at : (n : ℕ) (supply is : List ℕ) → Combination m n supply is → (k : ℕ) → k < length is
      → bid_of m (m.owner (at is k)) is ≡ at is k
  bid_of_at n supply is c = bid_of_own is (combination_apart m n supply is c)
