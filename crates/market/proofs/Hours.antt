-- Hours kind by kind: what `fits` says of each kind, and what `less` leaves of it. proofs/Row.antt and proofs/VectorOf.antt cite it.
-- Assumes nothing.
use mathlib.Core.Path.{◌≡◌, refl, ap}
use mathlib.Core.Bool.{true, false≢true, and-eq-true_iff}
use mathlib.Core.List.{List, [], ◌∷◌}
use Prim.Native.Nat.{ℕ, zero, suc, ◌-◌, ◌≤◌, ◌<◌}
use native.Mathlib.Nat.{le_of_suc-le-suc, not-suc-le-zero}
use native.Mathlib.Omega.{arith}
use lib.Dec.{leb}
use lib.ListN.{length}
use borrow.Author.Tests.{leb-true, le-leb}
use Rattle.market.specs.Market.{Market, at, fits, less, Supplied}

pub less_length : (ls hs : List ℕ) → length (less ls hs) ≡ length ls
unfolding less
less_length [] hs = refl
less_length (l ∷ ls) [] = refl
less_length (l ∷ ls) (h ∷ hs) = ap suc (less_length ls hs)

pub supplied_less : (m : Market) (ls hs : List ℕ) → Supplied m ls → Supplied m (less ls hs)
supplied_less m ls hs s i f l = rw less_length (s i f l)

pub less_at : (ls hs : List ℕ) (k : ℕ) → at (less ls hs) k ≡ at ls k - at hs k
unfolding less
less_at [] hs k = omega arith
less_at (l ∷ ls) [] k = omega arith
less_at (l ∷ ls) (h ∷ hs) zero = refl
less_at (l ∷ ls) (h ∷ hs) (suc k) = less_at ls hs k

pub fits_at : (hs ls : List ℕ) → fits hs ls ≡ true → (k : ℕ) → at hs k ≤ at ls k
unfolding fits
fits_at [] ls t k = omega arith
fits_at (h ∷ hs) [] t k = absurd (false≢true t)
fits_at (h ∷ hs) (l ∷ ls) t zero = leb-true h l ((and-eq-true_iff (leb h l) (fits hs ls)).0 t).0
fits_at (h ∷ hs) (l ∷ ls) t (suc k) = fits_at hs ls ((and-eq-true_iff (leb h l) (fits hs ls)).0 t).1 k

pub fits_if : (hs ls : List ℕ) → length hs ≤ length ls → ((k : ℕ) → k < length ls → at hs k ≤ at ls k) → fits hs ls ≡ true
unfolding fits
fits_if [] ls n h = refl
fits_if (x ∷ hs) [] n h = absurd (not-suc-le-zero n)
fits_if (x ∷ hs) (l ∷ ls) n h =
    (and-eq-true_iff (leb x l) (fits hs ls)).1
    (le-leb x l (h 0 (omega arith)), fits_if hs ls (le_of_suc-le-suc n) (λ k b. h (suc k) (omega arith)))
