-- When a test is false, and when two tests are equal. Cited by the laws of keys, of auctions and of reading. Assumes nothing.
use mathlib.Core.Path.{◌≡◌, refl, sym}
use mathlib.Core.Bool.{Bool, true, false}

-- what cannot be true is false
pub false_unless : (t : Bool) → (t ≡ true → ⊥) → t ≡ false
false_unless true h = absurd (h refl)
false_unless false h = refl

-- two tests of which each passes where the other does
pub same_test : (s t : Bool) → (s ≡ true → t ≡ true) → (t ≡ true → s ≡ true) → s ≡ t
same_test true t f g = sym (f refl)
same_test false true f g = g refl
same_test false false f g = refl
