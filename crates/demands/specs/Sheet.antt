-- Where a sheet's fields stand in its bytes, and the sheet that they hold (FORMAT, "Sheet"). Total: any bytes read as some sheet, and the
-- questions say whether it is acceptable. Every statement on sheets and the contracts of their reader cite it. Assumes nothing: these are
-- definitions.
use Rattle.std.specs.Prelude.{cond, ◌&&◌, List, ℕ, ◌+◌, ◌*◌, ◌-◌, ◌^◌, leb, ltb}
use Rattle.book.specs.Bytes.{byte, field, bytes_at}
use Rattle.pricing.specs.Certificate.{Certificate}
use Rattle.pricing.specs.Ranges.{signed}

-- the winners by their bid numbers, and the discounts with the multipliers that are to show them best
pub record Sheet : Type 0 where
  pub bids : List ℕ
  pub numbers : Certificate

-- the length that the sheet gives itself
unfoldable pub sheet_long : List ℕ → ℕ
sheet_long bs = field 1 2 bs

-- w, the number of winners
unfoldable pub sheet_w : List ℕ → ℕ
sheet_w bs = byte 3 bs

-- the length of a sheet with w winners
unfoldable pub sheet_formula : (w : ℕ) → ℕ
sheet_formula w = 20 + 29 * w + 12 * (2 ^ w - 1)

-- where the numbers of winner j stand: X, then Z, R and T
unfoldable pub winner_place : (w j : ℕ) → ℕ
winner_place w j = 12 + w + 28 * j

-- where the numbers of set L stand: Y, then U
unfoldable pub set_place : (w L : ℕ) → ℕ
set_place w L = 20 + 29 * w + 12 * (L - 1)

-- a number of each winner, 0 past the last
unfoldable pub of_winner : (w : ℕ) → (f : ℕ → ℕ) → (winner : ℕ) → ℕ
of_winner w f j = cond (ltb j w) (f j) 0

-- a number of each non-empty set of w winners, 0 for every other number of a set
unfoldable pub of_set : (w : ℕ) → (f : ℕ → ℕ) → (set : ℕ) → ℕ
of_set w f L = cond (leb 1 L && ltb L (2 ^ w)) (f L) 0

-- q, s, G, and the numbers of winners and sets
unfoldable pub numbers_in : (w : ℕ) → List ℕ → Certificate
numbers_in w bs = record {
  w = w;
  q = field (4 + w) 4 bs;
  s = field (8 + w) 4 bs;
  X = of_winner w (λ j. field (winner_place w j) 8 bs);
  Z = of_winner w (λ j. field (winner_place w j + 8) 4 bs);
  R = of_winner w (λ j. field (winner_place w j + 12) 8 bs);
  T = of_winner w (λ j. field (winner_place w j + 20) 8 bs);
  G = signed (field (12 + 29 * w) 8 bs);
  Y = of_set w (λ L. field (set_place w L) 4 bs);
  U = of_set w (λ L. field (set_place w L + 4) 8 bs);
}

unfoldable pub sheet_in : List ℕ → Sheet
sheet_in bs = record { bids = bytes_at (sheet_w bs) 4 bs; numbers = numbers_in (sheet_w bs) bs }
