-- What the figures of a certificate, numbers and arrays of numbers, say: the certificate that they stand for. Cited by the contracts.
-- Assumes nothing: these are definitions.
use Rattle.std.specs.Prelude.{cond, List, ℕ, ◌-◌, ◌^◌, ltb, get_or}
use Rattle.pricing.specs.Certificate.{Certificate}
use Rattle.pricing.specs.Ranges.{signed}
use Rattle.certificate.specs.declared.ranges.Figures.{Figures}

-- the number at a place, 0 past the end
abbrev pub at : List ℕ → (place : ℕ) → ℕ
at xs k = get_or xs k 0

-- its part above zero, and its part below zero without the sign: one of them is 0
unfoldable pub above : (bits : ℕ) → ℕ
above g = cond (ltb g (2 ^ 63)) g 0

unfoldable pub below : (bits : ℕ) → ℕ
below g = cond (ltb g (2 ^ 63)) 0 (2 ^ 64 - g)

-- the certificate that figures stand for
abbrev pub certificate : Figures → Certificate
certificate f =
    record {
      w = f.w;
      q = f.q;
      s = f.s;
      X = at f.x;
      Z = at f.z;
      R = at f.r;
      T = at f.t;
      G = signed f.g;
      Y = at f.y;
      U = at f.u;
    }
