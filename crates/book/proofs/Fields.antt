-- Big-endian numbers: a number byte by byte and in halves, and what is read past the end. Cited by the proofs of src/bytes.rt. Assumes
-- nothing.
use mathlib.Core.Path.{◌≡◌, refl}
use mathlib.Core.List.{List}
use Prim.Native.Nat.{ℕ, zero, suc, ◌+◌, ◌*◌, ◌^◌, ◌≤◌}
use native.Mathlib.Nat.{add-zero, mul_left_comm, pow-succ'}
use native.Mathlib.Omega.{arith}
use lib.ListN.{length, get_or-eq_default}
use Rattle.book.specs.Bytes.{byte, field}

-- past the end every number is 0
pub field_past : (at n : ℕ) (bs : List ℕ) → length bs ≤ at → field at n bs ≡ 0
unfolding field
field_past at zero bs h = refl
field_past at (suc n) bs h = omega (arith, field_past at n bs h, get_or-eq_default bs 0 {n = at + n} (omega arith))

-- a number of m + n bytes is that of the first m and that of the n after them
pub field_join : (at m n : ℕ) (bs : List ℕ) → field at m bs * 256 ^ n + field (at + m) n bs ≡ field at (m + n) bs
unfolding field
field_join at m zero bs = rw (add-zero m) (omega arith)
field_join at m (suc n) bs =
    let place : at + m + n ≡ at + (m + n) = omega arith in
    let more : m + suc n ≡ suc (m + n) = omega arith in
    rw (pow-succ', more, place) (omega (arith, field_join at m n bs, mul_left_comm (field at m bs) 256 (256 ^ n)))

-- two, four and eight bytes, one by one
module _ (at : ℕ) (bs : List ℕ) where
  pub field_two : byte at bs * 256 + byte (at + 1) bs ≡ field at 2 bs
  unfolding field
  field_two = rw (add-zero at) (omega arith)

  pub field_four : byte at bs * 16777216 + byte (at + 1) bs * 65536 + byte (at + 2) bs * 256 + byte (at + 3) bs ≡ field at 4 bs
  unfolding field
  field_four = rw (add-zero at) (omega arith)

  pub field_eight : byte at bs * 72057594037927936 + byte (at + 1) bs * 281474976710656 + byte (at + 2) bs * 1099511627776
      + byte (at + 3) bs * 4294967296 + byte (at + 4) bs * 16777216 + byte (at + 5) bs * 65536 + byte (at + 6) bs * 256 + byte (at + 7) bs
      ≡ field at 8 bs
  unfolding field
  field_eight = rw (add-zero at) (omega arith)
