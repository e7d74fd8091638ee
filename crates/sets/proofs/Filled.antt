-- Arrays filled from the front, one entry a turn. Cited by the proofs of loops that fill an array, in the layers above. Assumes nothing.
use mathlib.Core.Path.{◌≡◌, refl, sym, ◌∙◌}
use mathlib.Core.List.{List}
use Prim.Native.Nat.{ℕ, zero, suc, ◌+◌, ◌≤◌, ◌<◌}
use native.Mathlib.Decide.{dec_lt}
use native.Mathlib.Omega.{arith}
use lib.ListN.{length, get_or, set, replicate, length-set, length-replicate}
use lib.Seq.{get_or-set_same, get_or-set_other}

-- an array of n that holds f below i and z from i on
pub record FilledOver {A : Type 0} (z : A) (n : ℕ) (f : ℕ → A) (i : ℕ) (xs : List A) : Type 0 where
  pub long : length xs ≡ n
  pub below : (L : ℕ) → L < i → get_or xs L z ≡ f L
  pub above : (L : ℕ) → i ≤ L → get_or xs L z ≡ z

-- the same of numbers, with 0 from i on
abbrev pub Filled : (n : ℕ) (f : ℕ → ℕ) (i : ℕ) (xs : List ℕ) → Type 0
Filled = FilledOver 0

pub zeros_at : {A : Type 0} {z : A} (n L : ℕ) → get_or (replicate n z) L z ≡ z
zeros_at zero L = refl
zeros_at (suc n) zero = refl
zeros_at (suc n) (suc L) = zeros_at n L

module _ {A : Type 0} {z : A} where
  -- zeros hold nothing yet, or a first entry that is 0
  pub filled_none : (n : ℕ) (f : ℕ → A) → FilledOver z n f 0 (replicate n z)
  filled_none n f = record { long = length-replicate n z; below = λ L l. absurd (omega arith); above = λ L l. zeros_at n L }

  pub filled_zero : (n : ℕ) (f : ℕ → A) → f 0 ≡ z → FilledOver z n f 1 (replicate n z)
  filled_zero n f e = record {
    long = length-replicate n z;
    below = λ L l. let first : L ≡ 0 = omega arith in rw first (zeros_at n 0 ∙ sym e);
    above = λ L l. zeros_at n L;
  }

  pub filled_next : (n : ℕ) (f : ℕ → A) (i : ℕ) (xs : List A) (v : A) → i < n → v ≡ f i → FilledOver z n f i xs
      → FilledOver z n f (i + 1) (set xs i v)
  filled_next n f i xs v l e h = record {
    long = length-set xs i v ∙ h.long;
    below = λ L k. elim (dec_lt L i) [
      | yes m ↦ get_or-set_other xs i L v z (λ q. omega arith) ∙ h.below L m
      | no m ↦ let q : L ≡ i = omega arith in rw q (get_or-set_same xs i v z (omega (arith, h.long)) ∙ e)
    ];
    above = λ L k. get_or-set_other xs i L v z (λ q. omega arith) ∙ h.above L (omega arith);
  }
