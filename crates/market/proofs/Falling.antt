-- A row whose weights fall: a search may end where a bid, with all that the later members could add, does not beat the best so far
-- (row_falls); and the steps of a loop over the row, place by place. The layers above cite it. Assumes nothing.
use mathlib.Core.Path.{◌≡◌}
use mathlib.Core.Bool.{true, false, cond}
use mathlib.Core.List.{List, ◌∷◌}
use mathlib.Core.Logic.{⊎_elim}
use Prim.Native.Nat.{ℕ, zero, suc, ◌+◌, ◌≤◌, ◌<◌, max}
use native.Mathlib.Nat.{le_refl, le_trans, le_antisymm, add-suc, add-zero}
use native.Mathlib.Numerals.{add-one}
use native.Mathlib.Omega.{arith}
use lib.ListN.{length, drop, length-drop, drop_of_length-le}
use lib.Seq.{drop-cons, get_or-drop}
use Rattle.market.specs.Market.{Market, at, fits, less}
use Rattle.market.specs.Members.{choose_in, Falling}
use Rattle.market.proofs.Bools.{either}
use Rattle.market.proofs.RowOf.{choose_in_take, choose_in_within}

-- the first bid weighs the most
falling_first : (wt : ℕ → ℕ) (row : List ℕ) → Falling wt row → (k : ℕ) → k < length row → wt (at row k) ≤ wt (at row 0)
unfolding Falling
falling_first wt row f zero l = le_refl _
falling_first wt row f (suc k) l = le_trans (f k l) (falling_first wt row f k (omega arith))

falling_drop : (wt : ℕ → ℕ) (j : ℕ) (row : List ℕ) → Falling wt row → Falling wt (drop j row)
unfolding Falling
falling_drop wt j row f k l = simp (get_or-drop, add-suc) (f (j + k) (omega (arith, length-drop j row)))

module _ (m : Market) (wt : ℕ → ℕ) (ls : List ℕ) (on : List ℕ → ℕ) where
  -- what the later members add to any bid of the row that fits is no more than the ceiling
  abbrev pub Ceiling : (row : List ℕ) (ceiling : ℕ) → Type 0
  Ceiling row ceiling =
      (k : ℕ) → k < length row → fits (m.hours (at row k)) ls ≡ true → on (less ls (m.hours (at row k))) ≤ ceiling

  -- where the first bid of a falling row with the ceiling does not exceed top, none does
  pub row_falls : (row : List ℕ) (p ceiling top : ℕ) → Falling wt row → Ceiling row ceiling → wt (at row 0) + ceiling ≤ top
      → choose_in m wt row ls p on ≤ max p top
  row_falls row p ceiling top f h b =
      choose_in_within m wt ls p on row (max p top) (omega arith) (λ k l t. omega (arith, h k l t, falling_first wt row f k l))

  -- where the later members add nothing, the first bid of a falling row is the best if it fits
  pub row_first : (i : ℕ) (is : List ℕ) → Falling wt (i ∷ is) → ((rs : List ℕ) → on rs ≡ 0) → fits (m.hours i) ls ≡ true
      → choose_in m wt (i ∷ is) ls 0 on ≡ wt i
  row_first i is f z t =
      le_antisymm
      (omega (arith, row_falls (i ∷ is) 0 0 (wt i) f (λ k l e. omega (arith, z (less ls (m.hours (at (i ∷ is) k))))) (omega arith)))
      (omega (arith, choose_in_take m wt ls 0 on (i ∷ is) 0 (omega arith) t))

  -- the best so far, and one bid of the row more
  pub row_step : (i : ℕ) (is : List ℕ) (p top : ℕ) → max top (choose_in m wt (i ∷ is) ls p on)
      ≡ max (cond (fits (m.hours i) ls) (max top (wt i + on (less ls (m.hours i)))) top) (choose_in m wt is ls p on)
  unfolding choose_in
  row_step i is p top =
      ⊎_elim (λ (t : fits (m.hours i) ls ≡ true). rw t (omega arith)) (λ (t : fits (m.hours i) ls ≡ false). rw t)
      (either (fits (m.hours i) ls))

  -- the same in a loop's numbers, where place k of the row is next: what is reached from place j on
  module _ (row : List ℕ) (k top : ℕ) where
    abbrev pub from_place : ℕ → ℕ
    from_place j = choose_in m wt (drop j row) ls 0 on

    -- one bid more
    pub place_next : k < length row → max top (from_place k)
        ≡ max (cond (fits (m.hours (at row k)) ls) (max top (wt (at row k) + on (less ls (m.hours (at row k))))) top) (from_place (k + 1))
    place_next l = rw (add-one k, drop-cons row k 0 l) (row_step (at row k) (drop (suc k) row) 0 top)

    -- no bid more
    pub place_end : length row ≤ k → max top (from_place k) ≡ top
    unfolding choose_in
    place_end l = rw (drop_of_length-le row l) (omega arith)

    -- none of those left beats the best so far
    pub place_falls : (ceiling : ℕ) → Falling wt row → Ceiling row ceiling → wt (at row k) + ceiling ≤ top → max top (from_place k) ≡ top
    place_falls ceiling f h b =
        omega (
          arith,
          row_falls (drop k row) 0 ceiling top (falling_drop wt k row f)
              (λ j l. rw get_or-drop (h (k + j) (omega (arith, length-drop k row)))) (rw (get_or-drop, add-zero) b),
        )

    -- where the later members add nothing, the next bid is the best of those left if it fits
    pub place_first : k < length row → Falling wt row → ((rs : List ℕ) → on rs ≡ 0) → fits (m.hours (at row k)) ls ≡ true
        → from_place k ≡ wt (at row k)
    place_first l f z t =
        let e = drop-cons row k 0 l in
        rw e (row_first (at row k) (drop (suc k) row) (rw e at (falling_drop wt k row f)) z t)
