-- What the clients that a test keeps reach: it is the greatest value of the market where only they are kept (reach_best), and fewer of
-- them never reach more (reach_kept). The layers above cite it. Assumes nothing.
use mathlib.Core.Path.{◌≡◌, refl, ap, ap₂, fun_ext, ◌∙◌}
use mathlib.Core.Bool.{Bool, true, false, ◌&&◌, and-false, and_comm, and_assoc}
use mathlib.Core.List.{List, ◌∷◌}
use mathlib.Core.Logic.{⊎_elim}
use Prim.Native.Nat.{ℕ, zero, suc, ◌+◌, ◌≤◌, ◌<◌}
use native.Mathlib.Nat.{le_refl, le_trans}
use native.Mathlib.Omega.{arith}
use lib.Dec.{eqb}
use borrow.Author.Tests.{eqb-true}
use Rattle.market.specs.Market.{Market, fits}
use Rattle.market.specs.Greatest.{open_to, choose, best}
use Rattle.market.specs.Restrict.{only}
use Rattle.market.specs.Members.{reach, members}
use Rattle.market.proofs.Bools.{either, cond_cases}
use Rattle.market.proofs.Adding.{fits_itself}
use Rattle.market.proofs.Prune.{choose_skip}
use Rattle.market.proofs.Reach.{choose_covers, reach_fewer}

module _ (m : Market) (wt : ℕ → ℕ) (keep : ℕ → Bool) where
  -- to a client that is kept the same bids are open, to any other none
  open_only : (c : ℕ) (ls : List ℕ) (i : ℕ) → open_to (only keep m) c ls i ≡ (keep c && open_to m c ls i)
  unfolding open_to
  open_only c ls i =
      ⊎_elim
      (λ (t : eqb (m.owner i) c ≡ true). rw (t, eqb-true (m.owner i) c t)
      (ap (λ (b : Bool). b && fits (m.hours i) ls) (and_comm (m.may i) (keep c)) ∙ and_assoc (keep c) (m.may i) (fits (m.hours i) ls)))
      (λ (t : eqb (m.owner i) c ≡ false). rw (t, and-false))
      (either (eqb (m.owner i) c))

  choose_only : (c : ℕ) → keep c ≡ true → (n : ℕ) (ls : List ℕ) (p : ℕ) (on : List ℕ → ℕ)
      → choose (only keep m) wt n c ls p on ≡ choose m wt n c ls p on
  unfolding choose
  choose_only c t zero ls p on = refl
  choose_only c t (suc n) ls p on = rw (choose_only c t n ls p on, open_only c ls (suc n), t)

  choose_dropped : (c : ℕ) → keep c ≡ false → (n : ℕ) (ls : List ℕ) (p : ℕ) (on : List ℕ → ℕ)
      → choose (only keep m) wt n c ls p on ≡ p
  unfolding choose
  choose_dropped c t n ls p on = choose_skip (only keep m) wt c ls on 0 n p (omega arith) (λ i l u. rw (open_only c ls (suc i), t))

  -- clients of whom only some are kept reach what these reach: the others just pass
  pub reach_best : (k c : ℕ) (ls : List ℕ) → best (only keep m) wt k c ls ≡ reach m wt (members keep k c) ls
  unfolding best reach members
  reach_best zero c ls = refl
  reach_best (suc k) c ls =
      ⊎_elim
      (λ (t : keep c ≡ true). rw t
      (choose_only c t m.bids ls _ _ ∙ ap₂ (λ (p : ℕ) (on : List ℕ → ℕ). choose m wt m.bids c ls p on)
      (reach_best k (suc c) ls) (fun_ext (λ rs. reach_best k (suc c) rs))))
      (λ (t : keep c ≡ false). rw t (choose_dropped c t m.bids ls _ _ ∙ reach_best k (suc c) ls))
      (either (keep c))

-- fewer clients kept never reach more
pub reach_kept : (m : Market) (wt : ℕ → ℕ) (keep keep' : ℕ → Bool) (k c : ℕ) (ls : List ℕ)
    → ((y : ℕ) → c ≤ y → y < c + k → keep' y ≡ true → keep y ≡ true)
    → reach m wt (members keep' k c) ls ≤ reach m wt (members keep k c) ls
unfolding members reach
reach_kept m wt keep keep' zero c ls h = le_refl 0
reach_kept m wt keep keep' (suc k) c ls h =
    let few = members keep' k (suc c) in
    let many = members keep k (suc c) in
    let later : (rs : List ℕ) → reach m wt few rs ≤ reach m wt many rs =
    λ rs. reach_kept m wt keep keep' k (suc c) rs (λ y l u. h y (omega arith) (omega arith)) in
    ⊎_elim
    (λ (t : keep' c ≡ true). rw (t, h c (le_refl c) (omega arith) t)
    (choose_covers m wt m.bids c ls ls (reach m wt few ls) (reach m wt many ls) (λ rs. reach m wt few rs) (λ rs. reach m wt many rs)
    (fits_itself ls) (later ls) (λ i. later _)))
    (λ (t : keep' c ≡ false). rw t (cond_cases (λ cs. reach m wt few ls ≤ reach m wt cs ls) (keep c) (c ∷ many) many
    (λ e. le_trans (later ls) (reach_fewer m wt c many ls)) (λ e. later ls)))
    (either (keep' c))
