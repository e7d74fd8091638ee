-- The recursion's value is the greatest over vectors: none is worth more (best_unbeaten), one is worth as much (best_attained), and no
-- other number is both (best_is). proofs/Optimum.antt carries this over to combinations. Assumes nothing.
use mathlib.Core.Path.{◌≡◌, refl, sym, ap, subst}
use mathlib.Core.Bool.{true}
use mathlib.Core.List.{List, [], ◌∷◌}
use mathlib.Core.Logic.{⊎_elim}
use Prim.Native.Nat.{ℕ, zero, suc, ◌+◌, ◌*◌, ◌≤◌}
use native.Mathlib.Nat.{le_refl, le_trans, le_antisymm, le_of_eq}
use native.Mathlib.Omega.{arith}
use lib.ListN.{length}
use Rattle.market.specs.Market.{Market, less}
use Rattle.market.specs.Greatest.{open_to, best}
use Rattle.market.specs.Vector.{Feasible, taken}
use Rattle.market.proofs.Choose.{choose_pass, choose_take, choose_attained}

module _ (m : Market) (wt : ℕ → ℕ) where
  -- what the clients after c reach
  abbrev after : (k c : ℕ) → List ℕ → ℕ
  after k c rs = best m wt k (suc c) rs

  taken_bounded : (c : ℕ) (ls is : List ℕ) → Feasible m c ls is → taken wt is ≤ best m wt (length is) c ls
  unfolding best taken
  taken_bounded c ls [] f = le_refl 0
  taken_bounded c ls (zero ∷ is) f =
      omega (arith, taken_bounded (suc c) ls is f, choose_pass m wt c ls (after (length is) c ls) (after (length is) c) m.bids)
  taken_bounded c ls (suc i ∷ is) f =
      let rest = less ls (m.hours (suc i)) in
      omega (
        arith,
        taken_bounded (suc c) rest is f.2,
        choose_take m wt c ls (after (length is) c ls) (after (length is) c) m.bids (suc i) (omega arith) f.0 f.1,
      )

  pub best_unbeaten : (k c : ℕ) (ls is : List ℕ) → Feasible m c ls is → length is ≡ k → taken wt is ≤ best m wt k c ls
  best_unbeaten k c ls is f e = subst (λ (j : ℕ). taken wt is ≤ best m wt j c ls) e (taken_bounded c ls is f)

  -- some vector of k entries from client c on is worth v
  abbrev pub Reached : (k c : ℕ) (ls : List ℕ) (v : ℕ) → Type 0
  Reached k c ls v = (is : List ℕ) × (length is ≡ k) × Feasible m c ls is × (taken wt is ≡ v)

  reached_pass : (k c : ℕ) (ls : List ℕ) (v : ℕ) → Reached k (suc c) ls v → Reached (suc k) c ls v
  unfolding taken
  reached_pass k c ls v r = (0 ∷ r.0, ap suc r.1, r.2, omega (arith, r.3))

  reached_take : (k c i : ℕ) (ls : List ℕ) (v : ℕ) → suc i ≤ m.bids → open_to m c ls (suc i) ≡ true
      → Reached k (suc c) (less ls (m.hours (suc i))) v → Reached (suc k) c ls (wt (suc i) + v)
  unfolding taken
  reached_take k c i ls v l t r = (suc i ∷ r.0, ap suc r.1, (l, t, r.2), ap (λ (x : ℕ). wt (suc i) + x) r.3)

  pub best_attained : (k c : ℕ) (ls : List ℕ) → Reached k c ls (best m wt k c ls)
  unfolding best taken
  best_attained zero c ls = ([], refl, tt, refl)
  best_attained (suc k) c ls =
      ⊎_elim
      (λ e. rw e (reached_pass k c ls _ (best_attained k (suc c) ls)))
      (λ (i, l, t, e). rw e (reached_take k c i ls _ l t (best_attained k (suc c) (less ls (m.hours (suc i))))))
      (choose_attained m wt c ls (after k c ls) (after k c) m.bids)

  -- a number that a vector reaches and none exceeds is the recursion's
  pub best_is : (k c : ℕ) (ls : List ℕ) (v : ℕ) → ((is : List ℕ) → Feasible m c ls is → length is ≡ k → taken wt is ≤ v)
      → Reached k c ls v → v ≡ best m wt k c ls
  best_is k c ls v h (is, e, f, w) =
      le_antisymm (le_trans (le_of_eq (sym w)) (best_unbeaten k c ls is f e))
      (let (js, d, g, x) = best_attained k c ls in le_trans (le_of_eq (sym x)) (h js g d))

  -- where no bid weighs more than a, the recursion's value is at most a for each client
  taken_most : (a : ℕ) → ((i : ℕ) → wt i ≤ a) → (is : List ℕ) → taken wt is ≤ a * length is
  unfolding taken
  taken_most a h [] = omega arith
  taken_most a h (zero ∷ is) = omega (arith, taken_most a h is)
  taken_most a h (suc i ∷ is) = omega (arith, taken_most a h is, h (suc i))

  pub best_most : (a : ℕ) → ((i : ℕ) → wt i ≤ a) → (k c : ℕ) (ls : List ℕ) → best m wt k c ls ≤ a * k
  best_most a h k c ls =
      let (is, e, f, w) = best_attained k c ls in
      omega (arith, w, taken_most a h is, ap (λ (n : ℕ). a * n) e)
