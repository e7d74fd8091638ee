-- What the private functions that fill arrays ask and answer. Cited by the contract of src/columns.rt. Assumes nothing: these are
-- definitions.
use Rattle.std.specs.Prelude.{◌≡◌, ◌&&◌, cond, List, ℕ, leb, ltb}
use Rattle.certificate.specs.Figures.{at}

-- numbers by place, from place `first` on and before `end`, and 0 at every other place
abbrev pub Column : (first end : ℕ) → (f : ℕ → ℕ) → List ℕ → Type 0
Column first end f xs = (i : ℕ) → at xs i ≡ cond (leb first i && ltb i end) (f i) 0
