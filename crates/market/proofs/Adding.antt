-- Hours added up and taken off, kind by kind, and what fits then. proofs/Reach.antt, proofs/Trimmed.antt and proofs/Split.antt cite it.
-- Assumes nothing.
use mathlib.Core.Path.{◌≡◌, refl}
use mathlib.Core.Bool.{true, false≢true, and-eq-true_iff}
use mathlib.Core.List.{List, [], ◌∷◌}
use Prim.Native.Nat.{ℕ, zero, suc, ◌+◌, ◌≤◌, max}
use native.Mathlib.Nat.{le_refl, le_trans}
use native.Mathlib.Omega.{arith}
use lib.Dec.{leb}
use lib.ListN.{length}
use Rattle.market.specs.Market.{at, fits, less}
use Rattle.market.specs.Members.{more}
use Rattle.market.proofs.Hours.{less_length, less_at, fits_at, fits_if}

pub more_length : (xs ys : List ℕ) → length (more xs ys) ≡ max (length xs) (length ys)
unfolding more
more_length [] ys = omega arith
more_length (x ∷ xs) [] = omega arith
more_length (x ∷ xs) (y ∷ ys) = omega (arith, more_length xs ys)

pub more_at : (xs ys : List ℕ) (k : ℕ) → at (more xs ys) k ≡ at xs k + at ys k
unfolding more
more_at [] ys k = omega arith
more_at (x ∷ xs) [] k = omega arith
more_at (x ∷ xs) (y ∷ ys) zero = refl
more_at (x ∷ xs) (y ∷ ys) (suc k) = more_at xs ys k

-- what fits asks for no kind that is not there
pub fits_length : (hs ls : List ℕ) → fits hs ls ≡ true → length hs ≤ length ls
unfolding fits
fits_length [] ls t = omega arith
fits_length (h ∷ hs) [] t = absurd (false≢true t)
fits_length (h ∷ hs) (l ∷ ls) t = omega (arith, fits_length hs ls ((and-eq-true_iff (leb h l) (fits hs ls)).0 t).1)

-- hours that ask for less than what fits fit
pub fits_trans : (xs ys zs : List ℕ) → fits xs ys ≡ true → fits ys zs ≡ true → fits xs zs ≡ true
fits_trans xs ys zs s t =
    fits_if xs zs (le_trans (fits_length xs ys s) (fits_length ys zs t)) (λ k l. le_trans (fits_at xs ys s k) (fits_at ys zs t k))

pub fits_itself : (ls : List ℕ) → fits ls ls ≡ true
fits_itself ls = fits_if ls ls (le_refl _) (λ k l. le_refl _)

-- what is left is no more than was there
pub less_fits : (ls hs : List ℕ) → fits (less ls hs) ls ≡ true
less_fits ls hs = fits_if (less ls hs) ls (omega (arith, less_length ls hs)) (λ k l. omega (arith, less_at ls hs k))

-- out of more, more is left
pub less_covers : (xs ys hs : List ℕ) → fits xs ys ≡ true → fits (less xs hs) (less ys hs) ≡ true
less_covers xs ys hs t =
    fits_if (less xs hs) (less ys hs) (omega (arith, less_length xs hs, less_length ys hs, fits_length xs ys t))
    (λ k l. omega (arith, less_at xs hs k, less_at ys hs k, fits_at xs ys t k))

-- what fits makes, with what it leaves, no more than was there
pub fits_whole : (hs ls : List ℕ) → fits hs ls ≡ true → fits (more (less ls hs) hs) ls ≡ true
fits_whole hs ls t =
    fits_if (more (less ls hs) hs) ls (omega (arith, more_length (less ls hs) hs, less_length ls hs, fits_length hs ls t))
    (λ k l. omega (arith, more_at (less ls hs) hs k, less_at ls hs k, fits_at hs ls t k))
