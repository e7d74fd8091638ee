-- The split: what members reach is what they reach without one of them, or where nobody passes, and then their least hours may be taken off
-- the supply and off every bid beforehand. The layers above cite split_value, for a search that takes sets from few clients to many.
-- Assumes nothing.
use mathlib.Core.Path.{◌≡◌, refl, sym, ◌∙◌}
use mathlib.Core.Bool.{true, false, false≢true}
use mathlib.Core.List.{List, [], ◌∷◌}
use Prim.Native.Nat.{ℕ, suc, ◌+◌, ◌-◌, ◌≤◌, ◌<◌, max}
use native.Mathlib.Nat.{le_antisymm, max-le}
use native.Mathlib.Omega.{arith}
use lib.ListN.{length}
use Rattle.market.specs.Market.{Market, fits, less}
use Rattle.market.specs.Members.{reach, full, without, leasts, trimmed, Least}
use Rattle.market.proofs.Adding.{fits_whole}
use Rattle.market.proofs.Choose.{choose_within}
use Rattle.market.proofs.Reach.{reach_take}
use Rattle.market.proofs.Trimmed.{full_reaches, full_take}

module _ (m : Market) (wt : ℕ → ℕ) (least : ℕ → List ℕ) (low : Least m least) where
  -- the split, with the weights a of bids that are taken already
  split_from : (cs ls : List ℕ) (a t : ℕ) → ((d : ℕ) → d < length cs → a + reach m wt (without d cs) ls ≤ t)
      → (fits (leasts least cs) ls ≡ true → a + full (trimmed least m) wt cs (less ls (leasts least cs)) ≤ t) → a + reach m wt cs ls ≤ t
  unfolding reach without full leasts fits
  split_from [] ls a t h f = f refl
  split_from (c ∷ cs) ls a t h f =
      let passed : a + reach m wt cs ls ≤ t = h 0 (omega arith) in
      let chosen = choose_within m wt c ls (reach m wt cs ls) (λ rs. reach m wt cs rs) m.bids (t - a) (omega arith)
      (λ i l u o. let rest = split_from cs (less ls (m.hours i)) (a + wt i) t
      (λ d b. omega (arith, h (suc d) (omega arith), reach_take m wt c (without d cs) ls i l u o))
      (λ later. let (all, taking) = full_take m wt least low c cs ls i l u o later in omega (arith, f all)) in
      omega arith) in
      omega arith

  -- what members reach is no more than t, if without any one of them it is not, nor where nobody passes
  pub split : (cs ls : List ℕ) (t : ℕ) → ((d : ℕ) → d < length cs → reach m wt (without d cs) ls ≤ t)
      → (fits (leasts least cs) ls ≡ true → full (trimmed least m) wt cs (less ls (leasts least cs)) ≤ t) → reach m wt cs ls ≤ t
  split cs ls t h f = omega (arith, split_from cs ls 0 t (λ d b. omega (arith, h d b)) (λ e. omega (arith, f e)))

  -- so with the largest that they reach without one of them for a floor, it is the larger of the floor and what they reach where nobody
  -- passes; and the floor alone where their least hours do not fit
  module _ (cs ls : List ℕ) (floor : ℕ) (covers : (d : ℕ) → d < length cs → reach m wt (without d cs) ls ≤ floor)
      (reached : floor ≤ reach m wt cs ls) where
    pub split_value : fits (leasts least cs) ls ≡ true
        → reach m wt cs ls ≡ max floor (full (trimmed least m) wt cs (less ls (leasts least cs)))
    split_value t =
        le_antisymm (split cs ls _ (λ d b. omega (arith, covers d b)) (λ e. omega arith))
        (max-le reached (full_reaches m wt least low cs (less ls (leasts least cs)) ls (fits_whole (leasts least cs) ls t)))

    pub split_floor : fits (leasts least cs) ls ≡ false → reach m wt cs ls ≡ floor
    split_floor t = le_antisymm (split cs ls floor covers (λ e. absurd (false≢true (sym t ∙ e)))) reached
