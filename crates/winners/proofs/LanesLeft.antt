-- Hours asked and hours used as numbers: whether they fit, and what is left. Cited by Searching and
-- Taking. Assumes nothing.
use mathlib.Core.Path.{◌≡◌, ap₂, ◌∙◌}
use mathlib.Core.Bool.{true}
use mathlib.Core.List.{List}
use Prim.Native.Nat.{ℕ, ◌+◌, ◌≤◌}
use native.Mathlib.Omega.{arith}
use lib.Bits.{bit_and}
use lib.Dec.{eqb}
use lib.ListN.{length}
use Rattle.market.specs.Market.{fits, less}
use Rattle.market.proofs.Hours.{less_length}
use Rattle.winners.specs.Lanes.{packed, used, Asked, Left}
use Rattle.winners.proofs.LaneSums.{fit_says, rest_says, less_bytes}

module _ (k : ℕ) (hs ls : List ℕ) (pack sum : ℕ) (a : Asked k hs pack) (h : Left k ls sum) where
  same : sum + pack ≡ used 4 ls + packed hs
  same = ap₂ (λ (x y : ℕ). x + y) h.lanes a.packs

  few : length hs ≤ length ls
  few = omega (arith, a.kinds, h.kinds)

  -- the guards tell whether the hours fit
  pub fit_here : eqb (bit_and (sum + pack) 72058693566333184) 0 ≡ fits hs ls
  fit_here = rw same (fit_says hs ls few (omega (arith, h.kinds, h.kinds_few)) a.bytes h.bytes)

  -- and where they do, the sum tells what is left
  pub left_after : fits hs ls ≡ true → Left k (less ls hs) (sum + pack)
  left_after f = record {
    kinds = less_length ls hs ∙ h.kinds;
    kinds_few = h.kinds_few;
    bytes = less_bytes ls hs h.bytes;
    lanes = same ∙ rest_says hs ls few (omega (arith, h.kinds, h.kinds_few)) h.bytes f;
  }
