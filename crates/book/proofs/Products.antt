-- How large products of a book's small numbers are: what the overflow of the code's multiplications asks. Cited by Refusals
-- and by the layers above. Assumes nothing.
use Prim.Native.Nat.{ℕ, ◌*◌, ◌≤◌}
use native.Mathlib.Nat.{mul-le-mul}

-- two factors at most a and b have a product of at most a * b
pub product_most : (a b x y : ℕ) → x ≤ a → y ≤ b → x * y ≤ a * b
product_most a b x y h k = mul-le-mul h k
