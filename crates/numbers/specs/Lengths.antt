-- How long a sheet is (FORMAT, "Sheet"): a table by its number of winners, which the contract of `sheet_length` cites; and the formula that
-- its entries come from, with the law that says so. Assumes nothing: these are definitions.
use Rattle.std.specs.Prelude.{◌≡◌, List, [], ◌∷◌, ℕ, ◌+◌, ◌*◌, ◌-◌, ◌^◌, ◌≤◌, get_or}

-- the length of a sheet with no winner, with one, and so on up to six
unfoldable pub sheet_lengths : List ℕ
sheet_lengths = 20 ∷ 61 ∷ 114 ∷ 191 ∷ 316 ∷ 537 ∷ 950 ∷ []

-- the length of a sheet with w winners, looked up; 0, which is no sheet's, past the table
unfoldable pub sheet_length : (w : ℕ) → ℕ
sheet_length w = get_or sheet_lengths w 0

-- the formula: 20 bytes, 29 for each winner and 12 for each non-empty set
unfoldable pub sheet_formula : (w : ℕ) → ℕ
sheet_formula w = 20 + 29 * w + 12 * (2 ^ w - 1)

-- THE TABLE IS THE FORMULA'S, for every number of winners that a sheet can have. proofs/Lengths.antt shows it
unfoldable pub LengthsByFormula : Type 0
LengthsByFormula = (w : ℕ) → w ≤ 6 → sheet_length w ≡ sheet_formula w
