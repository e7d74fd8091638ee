-- Four entries of a list, cut to those that count. Cited by the proof of src/choice.rt, and by Choosing.antt and HeldBids.antt. Assumes
-- nothing.
use mathlib.Core.Path.{◌≡◌, refl, ◌∙◌}
use mathlib.Core.List.{List, [], ◌∷◌}
use Prim.Native.Nat.{ℕ, zero, suc, ◌≤◌, ◌<◌}
use native.Mathlib.Omega.{arith}
use lib.ListN.{length, get_or, take}
use lib.Seq.{ext_get_or, get_or-take, length-take-le}
use Rattle.book.specs.Lists.{row}
use Rattle.winners.specs.ByKind.{by_kind}

-- what holds of 0, 1, 2 and 3 holds below 4
pub kind_cases : (P : ℕ → Type 0) → P 0 → P 1 → P 2 → P 3 → (i : ℕ) → i < 4 → P i
kind_cases P p q r s zero l = p
kind_cases P p q r s (suc zero) l = q
kind_cases P p q r s (suc (suc zero)) l = r
kind_cases P p q r s (suc (suc (suc zero))) l = s
kind_cases P p q r s (suc (suc (suc (suc i)))) l = absurd (omega arith)

-- four numbers that a function gives are its values
pub kinds_at : (f : ℕ → ℕ) (a b c d : ℕ) → a ≡ f 0 → b ≡ f 1 → c ≡ f 2 → d ≡ f 3 → (i : ℕ) → i < 4 → get_or (a ∷ b ∷ c ∷ d ∷ []) i 0 ≡ f i
kinds_at f a b c d = kind_cases (λ i. get_or (a ∷ b ∷ c ∷ d ∷ []) i 0 ≡ f i)

-- the first four entries of a list of k, cut to k, are the list
pub by_kind_take : (k : ℕ) (xs : List ℕ) → k ≤ 4 → length xs ≡ k → take k (by_kind xs) ≡ xs
unfolding row
by_kind_take k xs h e =
    let own = length-take-le k (by_kind xs) h in
    ext_get_or 0 _ _ (own ∙ omega arith)
    (λ i l. get_or-take k (by_kind xs) i 0 (omega (arith, own))
    ∙ kinds_at (λ i. get_or xs i 0) _ _ _ _ refl refl refl refl i (omega (arith, own)))
