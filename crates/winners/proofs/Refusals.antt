-- The number of a question is not 0. Cited by the proofs of the answers. Assumes nothing.
use mathlib.Core.Path.{◌≡◌}
use mathlib.Core.Bool.{false}
use Prim.Native.Nat.{ℕ}
use native.Mathlib.Omega.{arith}
use borrow.Author.Tests.{ne_eqb}
use lib.Dec.{eqb}
use Rattle.questions.specs.Numbers.{number_of}
use Rattle.questions.specs.declared.Question.{Question}
use Rattle.questions.proofs.Numbers.{number_range}

pub refused_not_zero : (q : Question) (r : ℕ) → number_of q ≡ r → eqb r 0 ≡ false
refused_not_zero q r e = ne_eqb r 0 (λ (z : r ≡ 0). omega (arith, e, number_range q))
