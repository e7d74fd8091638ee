-- Numbers in bytes, big-endian (FORMAT, "Numbers"). What stands past the end of the bytes reads as 0, so reading is total.
-- Every definition that reads input cites this file, and so do the contracts of src/bytes.rt. Assumes nothing: these are definitions.
use Rattle.std.specs.Prelude.{List, [], ◌∷◌, ℕ, zero, suc, ◌+◌, ◌*◌, get_or}

-- the byte at a place
abbrev pub byte : (at : ℕ) → List ℕ → ℕ
byte at bs = get_or bs at 0

-- the number in n bytes from a place on, the first byte weighing most
unfoldable pub field : (at n : ℕ) → List ℕ → ℕ
field at zero bs = 0
field at (suc n) bs = 256 * field at n bs + byte (at + n) bs

-- n bytes from a place on, one by one
unfoldable pub bytes_at : (n at : ℕ) → List ℕ → List ℕ
bytes_at zero at bs = []
bytes_at (suc n) at bs = byte at bs ∷ bytes_at n (at + 1) bs
