-- The tests of the numbers by winner, and by set, as the test of a part of an array, one number after another. Cited by the attributes
-- of the functions that test ranges. Assumes nothing.
use mathlib.Core.Path.{◌≡◌, refl, ap, ◌∙◌}
use mathlib.Core.List.{List}
use Prim.Native.Nat.{ℕ, suc, ◌+◌, ◌-◌, ◌^◌, ◌≤◌, min}
use native.Mathlib.Omega.{arith}
use lib.Dec.{leb}
use lib.ListN.{length, take, drop, length-drop}
use lib.Seq.{length-take-le}
use Rattle.std.proofs.lemmas.List.{get_or-take, get_or-drop}
use Rattle.pricing.specs.Questions.{every_set}
use Rattle.pricing.proofs.Agree.{every_ext}
use Rattle.pricing.specs.Ranges.{winners_at_most, sets_at_most}
use Rattle.numbers.proofs.Shifts.{few_sets, power_most}
use Rattle.certificate.specs.Figures.{at}

-- the first w numbers
pub winners_part : (w b : ℕ) (xs : List ℕ) → w ≤ length xs →
    winners_at_most (length (take w xs)) b (at (take w xs)) ≡ winners_at_most w b (at xs)
unfolding winners_at_most
winners_part w b xs l =
    rw (length-take-le w xs l) (every_ext w _ _ (λ j m. ap (λ (x : ℕ). leb x b) (get_or-take w xs j 0 m)))

-- those from 1 to the end of the sets
pub sets_part : (w b : ℕ) (xs : List ℕ) → w ≤ 6 → 64 ≤ length xs →
    winners_at_most (length (take (2 ^ min w 6 - 1) (drop 1 xs))) b (at (take (2 ^ min w 6 - 1) (drop 1 xs))) ≡ sets_at_most w b (at xs)
unfolding winners_at_most sets_at_most every_set
sets_part w b xs few long =
    let whole : length (take (2 ^ w - 1) (drop 1 xs)) ≡ 2 ^ w - 1
    = length-take-le (2 ^ w - 1) (drop 1 xs) (omega (arith, power_most w few, length-drop 1 xs)) in
    rw (few_sets {w = w} few refl, whole)
    (every_ext (2 ^ w - 1) _ _ (λ i l. ap (λ (x : ℕ). leb x b)
    (get_or-take (2 ^ w - 1) (drop 1 xs) i 0 l ∙ get_or-drop 1 xs i 0 ∙ ap (at xs) (one_on i))))
  where
    one_on : (i : ℕ) → 1 + i ≡ suc i
    one_on i = omega arith
