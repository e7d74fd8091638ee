-- Six entries of a list with zeros after it. Cited by the proof of `owners_of` and by Owners.antt. Assumes nothing.
use mathlib.Core.Path.{◌≡◌, refl, sym, ◌∙◌}
use mathlib.Core.List.{List, [], ◌∷◌, ◌++◌, map}
use Prim.Native.Nat.{ℕ, zero, suc, ◌≤◌, ◌<◌}
use native.Mathlib.Decide.{dec_lt}
use native.Mathlib.Omega.{arith}
use lib.ListN.{length, get_or, replicate, length-append, length-map, get_or-eq_default}
use lib.Seq.{ext_get_or, get_or-take, length-take-le}
use Rattle.std.proofs.lemmas.List.{get_or-map}
use Rattle.sets.proofs.Filled.{Filled, zeros_at}
use Rattle.winners.specs.Weighed.{six}

-- an entry of a list with zeros after it
zeros_after : (xs : List ℕ) (n L : ℕ) → get_or (xs ++ replicate n 0) L 0 ≡ get_or xs L 0
zeros_after [] n L = zeros_at n L
zeros_after (x ∷ xs) n zero = refl
zeros_after (x ∷ xs) n (suc L) = zeros_after xs n L

six_at : (xs : List ℕ) (L : ℕ) → L < 6 → get_or (six xs) L 0 ≡ get_or xs L 0
unfolding six
six_at xs L l = get_or-take 6 (xs ++ replicate 6 0) L 0 l ∙ zeros_after xs 6 L

pub six_length : (xs : List ℕ) → length (six xs) ≡ 6
unfolding six
six_length xs = length-take-le 6 (xs ++ replicate 6 0) (omega (arith, length-append xs (replicate 6 0)))

-- six entries filled with g of a list's first are those of the list
pub six_done : (g : ℕ → ℕ) (is : List ℕ) (xs : List ℕ) → length is ≤ 6 → Filled 6 (λ j. g (get_or is j 0)) (length is) xs
    → xs ≡ six (map g is)
six_done g is xs few f =
    ext_get_or 0 xs _ (f.long ∙ sym (six_length (map g is))) (λ L l. entry L (omega (arith, f.long))
    ∙ sym (six_at (map g is) L (omega (arith, f.long))))
  where
    entry : (L : ℕ) → L < 6 → get_or xs L 0 ≡ get_or (map g is) L 0
    entry L l = elim (dec_lt L (length is)) [
      | yes m ↦ f.below L m ∙ sym (get_or-map g is L 0 0 m)
      | no m ↦ f.above L (omega arith) ∙ sym (get_or-eq_default (map g is) 0 {n = L} (omega (arith, length-map is g)))
    ]
