-- The decimal digits of a number, as ASCII bytes. Cited by the contract of `Text::push_decimal`, and by its callers. Assumes nothing.
use Rattle.std.specs.Prelude.{ℕ, zero, suc, ◌+◌, ◌-◌, ◌*◌, ◌/◌, ◌%◌, true, false, List, [], ◌∷◌, ◌++◌, ◌≡◌, refl, ltb}

-- the byte of the digit 0
abbrev pub ascii_zero : ℕ
ascii_zero = 48

-- at most `fuel` digits of n, the most significant first: n itself below ten, and else those of n / 10 and then the last one
unfoldable pub digits : ℕ → ℕ → List ℕ
digits zero n = []
digits (suc fuel) n = elim (ltb n 10) [ true ↦ (ascii_zero + n) ∷ [] | false ↦ digits fuel (n / 10) ++ (ascii_zero + n % 10) ∷ [] ]

-- the digits of n; any fuel above n gives the same list (`digits_enough`)
unfoldable pub decimal : ℕ → List ℕ
decimal n = digits (suc n) n

-- the number that ASCII digits stand for, read behind digits that stand for `before`
unfoldable pub worth : ℕ → List ℕ → ℕ
worth before [] = before
worth before (d ∷ ds) = worth (10 * before + (d - ascii_zero)) ds

-- the definition at work
decimal_examples :
    (decimal 0 ≡ 48 ∷ [])
    × (decimal 7 ≡ 55 ∷ [])
    × (decimal 10 ≡ 49 ∷ 48 ∷ [])
    × (decimal 405 ≡ 52 ∷ 48 ∷ 53 ∷ [])
    × (decimal 18446744073709551615
    ≡ 49 ∷ 56 ∷ 52 ∷ 52 ∷ 54 ∷ 55 ∷ 52 ∷ 52 ∷ 48 ∷ 55 ∷ 51 ∷ 55 ∷ 48 ∷ 57 ∷ 53 ∷ 53 ∷ 49 ∷ 54 ∷ 49 ∷ 53 ∷ [])
unfolding decimal digits
decimal_examples = (refl, refl, refl, refl, refl)
