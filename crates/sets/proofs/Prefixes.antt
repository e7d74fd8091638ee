-- The first entries of an array as a list that a loop walks: the next entry and what is left. Cited by the proofs of loops over lists of
-- bids and of clients, in the layers above. Assumes nothing.
use mathlib.Core.Path.{◌≡◌, ap, ◌∙◌}
use mathlib.Core.List.{List, [], ◌∷◌}
use Prim.Native.Nat.{ℕ, suc, ◌+◌, ◌≤◌, ◌<◌}
use native.Mathlib.Numerals.{add-one}
use native.Mathlib.Omega.{arith}
use lib.ListN.{length, get_or, take, drop, drop_of_length-le}
use lib.Seq.{drop-cons, get_or-take, length-take-le}

module _ (xs : List ℕ) (count : ℕ) (h : count ≤ length xs) where
  pub prefix_length : length (take count xs) ≡ count
  prefix_length = length-take-le count xs h

  pub prefix_at : (i : ℕ) → i < count → get_or (take count xs) i 0 ≡ get_or xs i 0
  prefix_at i l = get_or-take count xs i 0 l

  pub prefix_next : (i : ℕ) → i < count → drop i (take count xs) ≡ get_or xs i 0 ∷ drop (i + 1) (take count xs)
  prefix_next i l =
      rw (add-one i) (drop-cons (take count xs) i 0 (omega (arith, prefix_length))
      ∙ ap (λ (x : ℕ). x ∷ drop (suc i) (take count xs)) (prefix_at i l))

  pub prefix_done : (i : ℕ) → count ≤ i → drop i (take count xs) ≡ []
  prefix_done i l = drop_of_length-le (take count xs) {i = i} (omega (arith, prefix_length))
