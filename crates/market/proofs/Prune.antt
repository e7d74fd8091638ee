-- Laws for a search that leaves out what cannot beat a value already found: a floor goes through one client's choice (choose_floor,
-- best_floor), bids that are not open are passed by (choose_skip), and ceilings for the clients left bound the recursion
-- (best_ceiling). Clients with no bid add nothing (best_idle), and only the bids' weights count (best_weights). The layers above cite
-- them. Assumes nothing.
use mathlib.Core.Path.{◌≡◌, refl, sym, ap, ap₂, fun_ext, ◌∙◌}
use mathlib.Core.Bool.{true, false, ◌&&◌, and-eq-true_iff}
use mathlib.Core.List.{List}
use mathlib.Core.Logic.{⊎_elim}
use Prim.Native.Nat.{ℕ, zero, suc, ◌+◌, ◌-◌, ◌≤◌, ◌<◌, max}
use native.Mathlib.Nat.{le_refl, le_trans, le_of_eq, eq-or-lt_of_le, le_of_suc-le-suc, max_comm, zero-add}
use native.Mathlib.Omega.{arith}
use borrow.Author.Tests.{eqb-true, ne_eqb}
use lib.Dec.{eqb}
use Rattle.market.specs.Market.{Market, fits, less}
use Rattle.market.specs.Greatest.{open_to, choose, best}
use Rattle.market.proofs.Bools.{either}
use Rattle.market.proofs.Choose.{choose_attained}

max_among : (q v x : ℕ) → max (max q v) x ≡ max q (max v x)
max_among q v x = omega arith

-- a bid's worth from a floor that is lowered by its weight
pub max_lowered : (top a x : ℕ) → a + max (top - a) x ≡ max top (a + x)
max_lowered top a x = omega arith

module _ (m : Market) (wt : ℕ → ℕ) (c : ℕ) (ls : List ℕ) (on : List ℕ → ℕ) where
  -- a floor under passing is a floor under the choice
  pub choose_floor : (n q p : ℕ) → choose m wt n c ls (max q p) on ≡ max q (choose m wt n c ls p on)
  unfolding choose
  choose_floor zero q p = refl
  choose_floor (suc n) q p =
      ⊎_elim
      (λ (e : open_to m c ls (suc n) ≡ true). rw (e, choose_floor n q p) (max_among q (choose m wt n c ls p on) _))
      (λ (e : open_to m c ls (suc n) ≡ false). rw e (choose_floor n q p))
      (either (open_to m c ls (suc n)))

  -- the choice from a floor, and passing last
  pub choose_last_pass : (n q p : ℕ) → max (choose m wt n c ls q on) p ≡ max q (choose m wt n c ls p on)
  choose_last_pass n q p =
      max_comm (choose m wt n c ls q on) p ∙ sym (choose_floor n p q)
      ∙ ap (λ (x : ℕ). choose m wt n c ls x on) (max_comm p q) ∙ choose_floor n q p

  -- bids that are not open change nothing
  pub choose_skip : (n j p : ℕ) → n ≤ j → ((i : ℕ) → n ≤ i → i < j → open_to m c ls (suc i) ≡ false)
      → choose m wt j c ls p on ≡ choose m wt n c ls p on
  unfolding choose
  choose_skip n zero p l h = let z : n ≡ 0 = omega arith in rw z
  choose_skip n (suc j) p l h =
      ⊎_elim
      (λ (e : n ≡ suc j). rw e)
      (λ (k : n < suc j). rw (h j (le_of_suc-le-suc k) (le_refl _))
      (choose_skip n j p (le_of_suc-le-suc k) (λ i a b. h i a (omega arith))))
      (eq-or-lt_of_le l)

-- the recursion bounded by ceilings that do not rise, each client's above the next by at least the weight of any bid that it may take
pub best_ceiling : (m : Market) (wt tops : ℕ → ℕ) → ((c : ℕ) → 1 ≤ c → tops (suc c) ≤ tops c)
    → ((i : ℕ) → suc i ≤ m.bids → m.may (suc i) ≡ true → wt (suc i) + tops (suc (m.owner (suc i))) ≤ tops (m.owner (suc i)))
    → (k c : ℕ) (ls : List ℕ) → 1 ≤ c → best m wt k c ls ≤ tops c
unfolding best open_to
best_ceiling m wt tops falls covers zero c ls l = omega arith
best_ceiling m wt tops falls covers (suc k) c ls low =
    ⊎_elim
    (λ e. le_trans (le_of_eq e) (le_trans (best_ceiling m wt tops falls covers k (suc c) ls (omega arith)) (falls c low)))
    (λ (i, l, t, e). let (same, able) = (and-eq-true_iff (eqb (m.owner (suc i)) c) (m.may (suc i) && fits (m.hours (suc i)) ls)).0 t in
    let own : m.owner (suc i) ≡ c = eqb-true _ _ same in
    let below = rw own at (covers i l ((and-eq-true_iff (m.may (suc i)) (fits (m.hours (suc i)) ls)).0 able).0) in
    omega (arith, e, below, best_ceiling m wt tops falls covers k (suc c) (less ls (m.hours (suc i))) (omega arith)))
    (choose_attained m wt c ls (best m wt k (suc c) ls) (λ rs. best m wt k (suc c) rs) m.bids)

-- clients past the last owner of a bid reach nothing, and so add nothing after the others
module _ (m : Market) (wt : ℕ → ℕ) (n : ℕ) (h : (i : ℕ) → suc i ≤ m.bids → m.owner (suc i) ≤ n) where
  idle_zero : (j c : ℕ) (ls : List ℕ) → n < c → best m wt j c ls ≡ 0
  unfolding best open_to choose
  idle_zero zero c ls l = refl
  idle_zero (suc j) c ls l =
      choose_skip m wt c ls (λ rs. best m wt j (suc c) rs) 0 m.bids (best m wt j (suc c) ls) (omega arith)
      (λ i _ k. let apart : eqb (m.owner (suc i)) c ≡ false = ne_eqb (m.owner (suc i)) c (λ e. omega (arith, h i k)) in rw apart)
      ∙ idle_zero j (suc c) ls (omega arith)

  pub best_idle : (j k c : ℕ) (ls : List ℕ) → c + k ≡ n + 1 → best m wt (k + j) c ls ≡ best m wt k c ls
  unfolding best
  best_idle j zero c ls e = rw (zero-add j) (idle_zero j c ls (omega arith))
  best_idle j (suc k) c ls e =
      let more : suc k + j ≡ suc (k + j) = omega arith in
      rw more (ap₂ (λ (p : ℕ) (on : List ℕ → ℕ). choose m wt m.bids c ls p on)
      (best_idle j k (suc c) ls (omega arith)) (fun_ext (λ rs. best_idle j k (suc c) rs (omega arith))))

-- weights count for the bids alone
module _ (m : Market) (wt wt' : ℕ → ℕ) (h : (i : ℕ) → suc i ≤ m.bids → wt (suc i) ≡ wt' (suc i)) where
  choose_weights : (n c : ℕ) (ls : List ℕ) (p : ℕ) (on : List ℕ → ℕ) → n ≤ m.bids → choose m wt n c ls p on ≡ choose m wt' n c ls p on
  unfolding choose
  choose_weights zero c ls p on l = refl
  choose_weights (suc n) c ls p on l = rw (choose_weights n c ls p on (omega arith), h n l)

  pub best_weights : (k c : ℕ) (ls : List ℕ) → best m wt k c ls ≡ best m wt' k c ls
  unfolding best
  best_weights zero c ls = refl
  best_weights (suc k) c ls =
      choose_weights m.bids c ls _ _ (le_refl _)
      ∙ ap₂ (λ (p : ℕ) (on : List ℕ → ℕ). choose m wt' m.bids c ls p on)
      (best_weights k (suc c) ls) (fun_ext (λ rs. best_weights k (suc c) rs))
