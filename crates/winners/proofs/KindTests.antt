-- Hours of several kinds: where they do not fit, and what is left, kind by kind. Cited by the proofs of src/hours.rt. Assumes
-- nothing.
use mathlib.Core.Path.{◌≡◌, refl, sym, ap, ◌∙◌}
use mathlib.Core.Bool.{Bool, ◌&&◌}
use mathlib.Core.List.{List, [], ◌∷◌}
use Prim.Native.Nat.{ℕ, ◌-◌, ◌≤◌, ◌<◌}
use native.Mathlib.Nat.{le_of_suc-le-suc}
use native.Mathlib.Omega.{arith}
use lib.Dec.{leb}
use lib.ListN.{length, get_or}
use lib.Seq.{ext_get_or}
use Rattle.std.specs.List.{list_all, zip}
use Rattle.market.specs.Market.{fits, less}
use Rattle.market.proofs.Hours.{less_at, less_length}

-- hours fit where each kind's do
pub fits_all : (asked left : List ℕ) → length asked ≤ length left → list_all (λ (p : ℕ × ℕ). leb p.0 p.1) (zip asked left) ≡ fits asked left
unfolding fits
fits_all [] ls l = refl
fits_all (h ∷ hs) [] l = absurd (omega arith)
fits_all (h ∷ hs) (x ∷ ls) l = ap (λ (b : Bool). leb h x && b) (fits_all hs ls (le_of_suc-le-suc l))

-- differences are what is left
pub less_is : (left asked rest : List ℕ) → length rest ≡ length left
    → ((kind : ℕ) → kind < length left → get_or rest kind 0 ≡ get_or left kind 0 - get_or asked kind 0) → rest ≡ less left asked
less_is left asked rest long each =
    ext_get_or 0 rest _ (long ∙ sym (less_length left asked)) (λ kind l. each kind (omega (arith, long)) ∙ sym (less_at left asked kind))
