-- Question 7 on a certificate's numbers, the only definition of it: at most six winners, q and s from 1 to 10,000, and each other number up
-- to its bound. And G's 64 bits as a number with a sign. Cited by the checks of a certificate and by the questions put to a sheet.
-- Assumes nothing: these are definitions.
use Rattle.std.specs.Prelude.{Bool, cond, ◌&&◌, ℕ, ◌-◌, ◌^◌, leb, ltb, ℤ, pos, neg_ℤ, nat_abs}
use Rattle.pricing.specs.Certificate.{Certificate}
use Rattle.pricing.specs.Questions.{every, every_set}

-- the number whose 64 bits, in two's complement, are these
unfoldable pub signed : (bits : ℕ) → ℤ
signed g = cond (ltb g (2 ^ 63)) (pos g) (neg_ℤ (pos (2 ^ 64 - g)))

-- THE BOUNDS. Winners
abbrev pub most_winners : ℕ
most_winners = 6

-- the denominators q and s, and the multipliers Y and Z of the sum
abbrev pub most_scale : ℕ
most_scale = 10000

-- a discount X, over q
abbrev pub most_discount : ℕ
most_discount = 10 ^ 10

-- the multipliers U, R, T and G of the distance, G without its sign
abbrev pub most_multiplier : ℕ
most_multiplier = 10 ^ 12

-- THE TEST. Whether each winner's number is at most b
unfoldable pub winners_at_most : (w b : ℕ) → (f : ℕ → ℕ) → Bool
winners_at_most w b f = every w (λ j. leb (f j) b)

-- whether each non-empty set's number is at most b
unfoldable pub sets_at_most : (w b : ℕ) → (f : ℕ → ℕ) → Bool
sets_at_most w b f = every_set w (λ L. leb (f L) b)

-- whether a denominator is from 1 to its bound
abbrev pub scale_in_range : ℕ → Bool
scale_in_range n = leb 1 n && leb n most_scale

-- question 7 on the counts: of winners, and both denominators
abbrev pub counts_in_range : (w q s : ℕ) → Bool
counts_in_range w q s = leb w most_winners && scale_in_range q && scale_in_range s

-- question 7 on the winners' numbers
abbrev pub winners_in_range : (w : ℕ) → (X Z R T : ℕ → ℕ) → Bool
winners_in_range w X Z R T =
    winners_at_most w most_discount X && winners_at_most w most_scale Z && winners_at_most w most_multiplier R
    && winners_at_most w most_multiplier T

-- question 7 on the sets' numbers
abbrev pub sets_in_range : (w : ℕ) → (Y U : ℕ → ℕ) → Bool
sets_in_range w Y U = sets_at_most w most_scale Y && sets_at_most w most_multiplier U

-- question 7 on G
unfoldable pub g_in_range : (G : ℤ) → Bool
g_in_range G = leb (nat_abs G) most_multiplier

-- question 7
unfoldable pub in_range : Certificate → Bool
in_range c =
    counts_in_range c.w c.q c.s && winners_in_range c.w c.X c.Z c.R c.T && sets_in_range c.w c.Y c.U
    && g_in_range c.G
