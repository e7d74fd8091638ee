-- One client's choice is the largest of passing and of taking any one bid that is open to it. proofs/Best.antt cites it.
-- Assumes nothing.
use mathlib.Core.Path.{◌≡◌, refl}
use mathlib.Core.Bool.{true, false}
use mathlib.Core.List.{List}
use mathlib.Core.Logic.{◌⊎◌, inl, inr, ⊎_elim}
use Prim.Native.Nat.{ℕ, zero, suc, ◌+◌, ◌≤◌, ◌<◌, max}
use native.Mathlib.Nat.{le_refl, le_trans, le-max_left, le-max_right, eq-or-lt_of_le, le_of_suc-le-suc, not-suc-le-zero, le-suc}
use native.Mathlib.Numerals.{add-one}
use native.Mathlib.Omega.{arith}
use lib.Dec.{leb}
use borrow.Author.Tests.{leb-true, leb-false}
use Rattle.market.specs.Market.{Market, less}
use Rattle.market.specs.Greatest.{open_to, choose}
use Rattle.market.proofs.Bools.{either, cond_cases}

-- the greater of two numbers is one of them
max_either : (a b : ℕ) → (max a b ≡ a) ⊎ (max a b ≡ b)
max_either a b =
    ⊎_elim (λ (e : leb a b ≡ true). inr (omega (arith, leb-true a b e))) (λ (e : leb a b ≡ false). inl (omega (arith, leb-false a b e)))
    (either (leb a b))

module _ (m : Market) (wt : ℕ → ℕ) (c : ℕ) (ls : List ℕ) (p : ℕ) (on : List ℕ → ℕ) where
  -- one more bid to choose from is no loss
  choose_more : (n : ℕ) → choose m wt n c ls p on ≤ choose m wt (suc n) c ls p on
  unfolding choose
  choose_more n = cond_cases (λ v. choose m wt n c ls p on ≤ v) (open_to m c ls (suc n)) _ _ (λ e. le-max_left _ _) (λ e. le_refl _)

  -- passing is no better
  pub choose_pass : (n : ℕ) → p ≤ choose m wt n c ls p on
  unfolding choose
  choose_pass zero = le_refl p
  choose_pass (suc n) = le_trans (choose_pass n) (choose_more n)

  choose_last : (n : ℕ) → open_to m c ls (suc n) ≡ true → wt (suc n) + on (less ls (m.hours (suc n))) ≤ choose m wt (suc n) c ls p on
  unfolding choose
  choose_last n t = rw t (le-max_right _ _)

  -- taking a bid is no better
  pub choose_take : (n i : ℕ) → 1 ≤ i → i ≤ n → open_to m c ls i ≡ true → wt i + on (less ls (m.hours i)) ≤ choose m wt n c ls p on
  choose_take zero i l u t = absurd (not-suc-le-zero (le_trans l u))
  choose_take (suc n) i l u t =
      ⊎_elim (λ (e : i ≡ suc n). rw e (choose_last n (rw e at t)))
      (λ (h : i < suc n). le_trans (choose_take n i l (le_of_suc-le-suc h) t) (choose_more n)) (eq-or-lt_of_le u)

  -- what the choice comes to: by passing, or by taking a bid
  abbrev pub Chosen : (n v : ℕ) → Type 0
  Chosen n v =
      (v ≡ p)
      ⊎ ((i : ℕ) × (suc i ≤ n) × (open_to m c ls (suc i) ≡ true) × (v ≡ wt (suc i) + on (less ls (m.hours (suc i)))))

  chosen_later : (n v : ℕ) → Chosen n v → Chosen (suc n) v
  chosen_later n v (inl e) = inl e
  chosen_later n v (inr (i, l, t, e)) = inr (i, le_trans l (le-suc n), t, e)

  -- and one of them is as good
  pub choose_attained : (n : ℕ) → Chosen n (choose m wt n c ls p on)
  unfolding choose
  choose_attained zero = inl refl
  choose_attained (suc n) =
      cond_cases (λ v. Chosen (suc n) v) (open_to m c ls (suc n)) _ _
      (λ t. ⊎_elim
      (λ e. rw e (chosen_later n _ (choose_attained n)))
      (λ e. inr (n, le_refl (suc n), t, e))
      (max_either (choose m wt n c ls p on) (wt (suc n) + on (less ls (m.hours (suc n))))))
      (λ e. chosen_later n _ (choose_attained n))

  -- what passing and every bid that is open stay within, the choice stays within
  pub choose_within : (n t : ℕ) → p ≤ t
      → ((i : ℕ) → 1 ≤ i → i ≤ n → open_to m c ls i ≡ true → wt i + on (less ls (m.hours i)) ≤ t) → choose m wt n c ls p on ≤ t
  choose_within n t b h =
      ⊎_elim (λ e. omega arith) (λ (i, l, o, e). omega (arith, h (suc i) (omega arith) l o)) (choose_attained n)

  -- one bid more, in a loop's numbers: it is open, or it is not
  pub choose_open : (n : ℕ) → open_to m c ls (n + 1) ≡ true
      → choose m wt (n + 1) c ls p on ≡ max (choose m wt n c ls p on) (wt (n + 1) + on (less ls (m.hours (n + 1))))
  unfolding choose
  choose_open n t = rw (add-one n) (rw (rw (add-one n) at t))

  pub choose_shut : (n : ℕ) → open_to m c ls (n + 1) ≡ false → choose m wt (n + 1) c ls p on ≡ choose m wt n c ls p on
  unfolding choose
  choose_shut n t = rw (add-one n) (rw (rw (add-one n) at t))
