-- Exact arithmetic on fractions of whole numbers, none negative; for statements, nothing runs it. Assumes nothing: these are definitions.
use Rattle.std.specs.Prelude.{◌≡◌, ℕ, zero, suc, ◌+◌, ◌*◌, ◌-◌, ◌≤◌, ◌<◌}

-- num / den, with a den of 1 or more wherever a statement speaks of one
pub record Fraction : Type 0 where
  pub num : ℕ
  pub den : ℕ

-- the fraction of two numbers
unfoldable pub over : (num den : ℕ) → Fraction
over n d = record { num = n; den = d }

-- a whole number as a fraction
unfoldable pub whole : ℕ → Fraction
whole n = over n 1

-- a / b + c / d is (a d + c b) / (b d)
unfoldable pub plus : Fraction → Fraction → Fraction
plus x y = over (x.num * y.den + y.num * x.den) (x.den * y.den)

-- the difference, but it stops at zero, as `-` does on ℕ
unfoldable pub minus : Fraction → Fraction → Fraction
minus x y = over (x.num * y.den - y.num * x.den) (x.den * y.den)

-- how far apart two are: one of the two differences is zero
unfoldable pub gap : Fraction → Fraction → Fraction
gap x y = plus (minus x y) (minus y x)

-- a fraction times itself
unfoldable pub square : Fraction → Fraction
square x = over (x.num * x.num) (x.den * x.den)

-- at most, in value: a / b against c / d is a d against c b
unfoldable pub AtMost : Fraction → Fraction → Type 0
AtMost x y = x.num * y.den ≤ y.num * x.den

-- less, in value
unfoldable pub Less : Fraction → Fraction → Type 0
Less x y = x.num * y.den < y.num * x.den

-- equal in value
unfoldable pub Equal : Fraction → Fraction → Type 0
Equal x y = x.num * y.den ≡ y.num * x.den

-- f 0 + f 1 + .. + f (n - 1)
unfoldable pub total : (n : ℕ) → (f : ℕ → Fraction) → Fraction
total zero f = whole 0
total (suc n) f = plus (total n f) (f n)
