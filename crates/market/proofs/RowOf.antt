-- One client's choice from a row of its bids, whatever their order: it is the largest of passing and of taking any one that fits, and a row
-- that holds all its bids chooses as the client does (row_chooses). proofs/Falling.antt and the layers above cite it. Assumes nothing.
use mathlib.Core.Path.{◌≡◌, refl, sym, ap₂, fun_ext, subst}
use mathlib.Core.Bool.{true}
use mathlib.Core.List.{List, [], ◌∷◌}
use Prim.Native.Nat.{ℕ, zero, suc, ◌+◌, ◌≤◌, ◌<◌}
use native.Mathlib.Nat.{le_refl, le_trans, le-max_left, le-max_right, max-le, le_antisymm, le_of_suc-le-suc, not-suc-le-zero}
use native.Mathlib.Omega.{arith}
use lib.ListN.{length}
use Rattle.market.specs.Market.{Market, at, fits, less}
use Rattle.market.specs.Greatest.{choose}
use Rattle.market.specs.Members.{reach, full, without, trimmed, choose_in, RowOf}
use Rattle.market.proofs.Bools.{cond_cases}
use Rattle.market.proofs.Choose.{choose_pass, choose_take, choose_within}
use Rattle.market.proofs.Vector.{open_parts, open_if}

module _ (m : Market) (wt : ℕ → ℕ) (ls : List ℕ) (p : ℕ) (on : List ℕ → ℕ) where
  -- what a bid leads to
  abbrev taking : (i : ℕ) → ℕ
  taking i = wt i + on (less ls (m.hours i))

  choose_in_more : (i : ℕ) (is : List ℕ) → choose_in m wt is ls p on ≤ choose_in m wt (i ∷ is) ls p on
  unfolding choose_in
  choose_in_more i is = cond_cases (λ v. choose_in m wt is ls p on ≤ v) (fits (m.hours i) ls) _ _ (λ e. le-max_left _ _) (λ e. le_refl _)

  -- passing is no better
  pub choose_in_pass : (is : List ℕ) → p ≤ choose_in m wt is ls p on
  unfolding choose_in
  choose_in_pass [] = le_refl p
  choose_in_pass (i ∷ is) = le_trans (choose_in_pass is) (choose_in_more i is)

  choose_in_first : (i : ℕ) (is : List ℕ) → fits (m.hours i) ls ≡ true → taking i ≤ choose_in m wt (i ∷ is) ls p on
  unfolding choose_in
  choose_in_first i is t = rw t (le-max_right _ _)

  -- taking a bid that fits is no better
  pub choose_in_take : (is : List ℕ) (k : ℕ) → k < length is → fits (m.hours (at is k)) ls ≡ true
      → wt (at is k) + on (less ls (m.hours (at is k))) ≤ choose_in m wt is ls p on
  choose_in_take [] k l t = absurd (not-suc-le-zero l)
  choose_in_take (i ∷ is) zero l t = choose_in_first i is t
  choose_in_take (i ∷ is) (suc k) l t = le_trans (choose_in_take is k (le_of_suc-le-suc l) t) (choose_in_more i is)

  -- what passing and every bid that fits stay within, the choice stays within
  pub choose_in_within : (is : List ℕ) (t : ℕ) → p ≤ t
      → ((k : ℕ) → k < length is → fits (m.hours (at is k)) ls ≡ true → wt (at is k) + on (less ls (m.hours (at is k))) ≤ t)
      → choose_in m wt is ls p on ≤ t
  unfolding choose_in
  choose_in_within [] t b h = b
  choose_in_within (i ∷ is) t b h =
      let later = choose_in_within is t b (λ k l. h (suc k) (omega arith)) in
      cond_cases (λ v. v ≤ t) (fits (m.hours i) ls) _ _ (λ e. max-le later (h 0 (omega arith) e)) (λ e. later)

  -- a row that holds a client's bids chooses as the client does
  pub row_chooses : (n c : ℕ) (row : List ℕ) → RowOf m n c row → choose m wt n c ls p on ≡ choose_in m wt row ls p on
  row_chooses n c row r =
      le_antisymm
      (choose_within m wt c ls p on n _ (choose_in_pass row)
      (λ i l u t. let (own, may, fit) = open_parts m c ls i t in
      let (k, b, e) = r.whole i l u own may in
      subst (λ (j : ℕ). taking j ≤ choose_in m wt row ls p on) e
      (choose_in_take row k b (subst (λ (j : ℕ). fits (m.hours j) ls ≡ true) (sym e) fit))))
      (choose_in_within row _ (choose_pass m wt c ls p on n)
      (λ k b t. choose_take m wt c ls p on n (at row k) (r.numbers k b).0 (r.numbers k b).1
      (open_if m c ls (at row k) (r.owners k b) (r.eligible k b) t)))

-- a row holds the same bids with the least hours taken off
pub row_trimmed : (m : Market) (least : ℕ → List ℕ) (n c : ℕ) (row : List ℕ) → RowOf m n c row → RowOf (trimmed least m) n c row
row_trimmed m least n c row r = record { numbers = r.numbers; owners = r.owners; eligible = r.eligible; whole = r.whole }

module _ (m : Market) (wt : ℕ → ℕ) where
  -- where nobody passes, the first member chooses from its row
  pub full_row : (c : ℕ) (cs ls row : List ℕ) → RowOf m m.bids c row
      → full m wt (c ∷ cs) ls ≡ choose_in m wt row ls 0 (λ rs. full m wt cs rs)
  unfolding full
  full_row c cs ls row r = row_chooses m wt ls 0 (λ rs. full m wt cs rs) m.bids c row r

  -- a member without a bid that may be taken adds nothing
  pub reach_idle : (d : ℕ) (cs ls : List ℕ) → d < length cs → RowOf m m.bids (at cs d) []
      → reach m wt cs ls ≡ reach m wt (without d cs) ls
  unfolding reach without choose_in
  reach_idle d [] ls l r = refl
  reach_idle zero (c ∷ cs) ls l r = row_chooses m wt ls (reach m wt cs ls) (λ rs. reach m wt cs rs) m.bids c [] r
  reach_idle (suc d) (c ∷ cs) ls l r =
      ap₂ (λ (p : ℕ) (on : List ℕ → ℕ). choose m wt m.bids c ls p on)
      (reach_idle d cs ls (le_of_suc-le-suc l) r) (fun_ext (λ rs. reach_idle d cs rs (le_of_suc-le-suc l) r))
