-- What text is after bytes have been put behind it. Cited by the contracts of the methods of `Text`, and by their callers. Assumes nothing.
use Rattle.std.specs.Prelude.{ℕ, ◌+◌, ◌-◌, cond, List, [], ◌∷◌, ◌++◌, ltb, length, replicate, set}
use Rattle.text.specs.declared.Text.{Text}

-- how many bytes there is room for
abbrev pub capacity : ℕ
capacity = 128

-- no byte yet: zeros, none of them counted
unfoldable pub blank : Text
blank = record { bytes = replicate capacity 0; len = 0 }

-- b at the place behind the counted bytes, and counted; where there is no room left, t as it is
unfoldable pub pushed : Text → ℕ → Text
pushed t b = cond (ltb t.len capacity) (record { bytes = set t.bytes t.len b; len = t.len + 1 }) t

-- the bytes of a list, pushed one after the other
unfoldable pub pushes : Text → List ℕ → Text
pushes t [] = t
pushes t (b ∷ bs) = pushes (pushed t b) bs

-- the text that is the bytes of xs, for which there is room: they come first, all are counted, and the rest is zeros
unfoldable pub holding : List ℕ → Text
holding xs = record { bytes = xs ++ replicate (capacity - length xs) 0; len = length xs }
