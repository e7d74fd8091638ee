-- Hours of a bid from which its client's least hours are taken: the bid fits exactly where the trimmed bid fits what the least hours of its
-- client and of the later ones leave, and both leave the same. proofs/Trimmed.antt and proofs/Split.antt cite it. Assumes nothing.
use mathlib.Core.Path.{◌≡◌}
use mathlib.Core.Bool.{true}
use mathlib.Core.List.{List, ◌∷◌}
use Prim.Native.Nat.{ℕ}
use native.Mathlib.Omega.{arith}
use lib.Seq.{ext_get_or}
use Rattle.market.specs.Market.{fits, less}
use Rattle.market.specs.Members.{more, leasts}
use Rattle.market.proofs.Hours.{less_length, less_at, fits_at, fits_if}
use Rattle.market.proofs.Adding.{more_length, more_at, fits_length}

ruleset by_kind = (more_at, less_at)

ruleset kinds = (more_length, less_length)

-- a bid of hours hs, its client's least hours xs, and the later ones' least hours zs
module _ (hs xs zs : List ℕ) (low : fits xs hs ≡ true) where
  -- where the trimmed bid fits ys, which with all the least hours fits ls
  module _ (ys ls : List ℕ) (room : fits (more ys (more xs zs)) ls ≡ true) (fit : fits (less hs xs) ys ≡ true) where
    -- the bid fits
    pub fits_untrimmed : fits hs ls ≡ true
    fits_untrimmed =
        fits_if hs ls (omega (arith, simp kinds at (fits_length _ _ room), simp kinds at (fits_length _ _ fit)))
        (λ k l. omega (arith, simp by_kind at (fits_at _ _ room k), simp by_kind at (fits_at _ _ fit k)))

    -- and what is left of ys then, with the later ones' least hours, fits what is left of ls
    pub room_untrimmed : fits (more (less ys (less hs xs)) zs) (less ls hs) ≡ true
    room_untrimmed =
        fits_if _ _ (simp kinds (omega (arith, simp kinds at (fits_length _ _ room))))
        (λ k l. simp by_kind (omega (arith, simp by_kind at (fits_at _ _ room k), simp by_kind at (fits_at _ _ fit k), fits_at _ _ low k)))

  -- where the bid fits ls, and the later ones' least hours fit what it leaves
  module _ (ls : List ℕ) (fit : fits hs ls ≡ true) (later : fits zs (less ls hs) ≡ true) where
    -- the least hours of all fit
    pub fits_together : fits (more xs zs) ls ≡ true
    fits_together =
        fits_if _ _ (simp kinds (omega (arith, fits_length _ _ low, fits_length _ _ fit, simp kinds at (fits_length _ _ later))))
        (λ k l. simp by_kind (omega (arith, fits_at _ _ low k, fits_at _ _ fit k, simp by_kind at (fits_at _ _ later k))))

    -- the trimmed bid fits what they leave
    pub fits_trimmed : fits (less hs xs) (less ls (more xs zs)) ≡ true
    fits_trimmed =
        fits_if _ _ (simp kinds (fits_length _ _ fit))
        (λ k l. simp by_kind (omega (arith, fits_at _ _ low k, fits_at _ _ fit k, simp by_kind at (fits_at _ _ later k))))

    -- and leaves the same as the bid itself and then the later ones' least hours
    pub less_trimmed : less (less ls (more xs zs)) (less hs xs) ≡ less (less ls hs) zs
    less_trimmed = ext_get_or 0 _ _ (simp kinds) (λ k l. simp by_kind (omega (arith, fits_at _ _ low k)))

-- whatever the first member's bid asks for, what is left fits with the least hours of the later ones
pub room_later : (least : ℕ → List ℕ) (c : ℕ) (cs ys hs ls : List ℕ) → fits (more ys (leasts least (c ∷ cs))) ls ≡ true
    → fits (more (less ys hs) (leasts least cs)) ls ≡ true
unfolding leasts
room_later least c cs ys hs ls room =
    fits_if _ _ (simp kinds (omega (arith, simp kinds at (fits_length _ _ room))))
    (λ k l. simp by_kind (omega (arith, simp by_kind at (fits_at _ _ room k))))
