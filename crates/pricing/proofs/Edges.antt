-- The edges of question 7, computed: each number of a certificate is let through at its bound and not past it, by FORMAT's figures and
-- not by the names that they have in specs/Ranges. So a bound cannot move unseen, in code and definition together. Cited by nothing.
-- Assumes nothing.
use mathlib.Core.Path.{◌≡◌, refl}
use mathlib.Core.Bool.{true, false}
use Prim.Native.Nat.{ℕ, suc, ◌-◌, ◌^◌}
use lib.IntN.{pos, negsuc}
use Rattle.pricing.specs.Certificate.{Certificate}
use Rattle.pricing.specs.Questions.{every, every_set}
use Rattle.pricing.specs.Ranges.{signed, winners_at_most, sets_at_most, g_in_range, in_range}
use Rattle.pricing.proofs.Controls.{pair, by_set, none}

-- certificates that are zero but for the scales, and for what is given: of winner 1 of two, of set 3 of three, G by its bits
abbrev scales : (w q s : ℕ) → Certificate
scales w q s = record { w = w; q = q; s = s; X = none; Z = none; R = none; T = none; G = pos 0; Y = none; U = none }

abbrev winner : (x z r t : ℕ) → Certificate
winner x z r t =
    record { w = 2; q = 1; s = 1; X = pair 0 x; Z = pair 0 z; R = pair 0 r; T = pair 0 t; G = pos 0; Y = none; U = none }

abbrev set : (y u g : ℕ) → Certificate
set y u g =
    record { w = 2; q = 1; s = 1; X = none; Z = none; R = none; T = none; G = signed g; Y = by_set 0 0 y; U = by_set 0 0 u }

-- in range up to b, and not one past it
abbrev Edge : (b : ℕ) → (c : ℕ → Certificate) → Type 0
Edge b c = (in_range (c b) ≡ true) × (in_range (c (suc b)) ≡ false)

counts : Edge 6 (λ n. scales n 1 1)
    × Edge 10000 (λ n. scales 2 n 1)
    × Edge 10000 (λ n. scales 2 1 n)
    × (in_range (scales 2 0 1) ≡ false)
    × (in_range (scales 2 1 0) ≡ false)
unfolding in_range winners_at_most sets_at_most g_in_range every every_set
counts = ((refl, refl), (refl, refl), (refl, refl), refl, refl)

winners : Edge (10 ^ 10) (λ n. winner n 0 0 0)
    × Edge 10000 (λ n. winner 0 n 0 0)
    × Edge (10 ^ 12) (λ n. winner 0 0 n 0)
    × Edge (10 ^ 12) (λ n. winner 0 0 0 n)
unfolding in_range winners_at_most sets_at_most g_in_range every every_set
winners = ((refl, refl), (refl, refl), (refl, refl), (refl, refl))

sets : Edge 10000 (λ n. set n 0 0)
    × Edge (10 ^ 12) (λ n. set 0 n 0)
    × Edge (10 ^ 12) (λ n. set 0 0 n)
    × Edge (10 ^ 12) (λ n. set 0 0 (2 ^ 64 - n))
unfolding in_range signed winners_at_most sets_at_most g_in_range every every_set
sets = ((refl, refl), (refl, refl), (refl, refl), (refl, refl))

-- G's sign is its highest bit
signs : (signed (2 ^ 63 - 1) ≡ pos (2 ^ 63 - 1)) × (signed (2 ^ 63) ≡ negsuc (2 ^ 63 - 1)) × (signed (2 ^ 64 - 1) ≡ negsuc 0)
unfolding signed
signs = (refl, refl, refl)
