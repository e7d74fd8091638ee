-- `SigmaTable::from` meets its contract. Assumes nothing.
use mathlib.Core.Path.{◌≡◌, sym, ap, ◌∙◌}
use Prim.Native.Nat.{ℕ}
use native.Mathlib.Omega.{arith}
use lib.ListN.{replicate, length-replicate}
use lib.Seq.{ext_get_or}
use Rattle.std.specs.Array.{AllOfLen}
use Rattle.std.specs.Prelude.{Result, Ok, Err}
use Rattle.std.specs.Result.{result_unwrap_or, ResultUnwrapsOrElse}
use Rattle.sets.proofs.Filled.{zeros_at}
use Rattle.questions.specs.declared.Question.{Question}
use Rattle.winners.specs.Surpluses.{no_surpluses}
use Rattle.winners.specs.declared.values.Surpluses.{Surpluses}
use Rattle.winners.proofs.table.SigmaTableFromResultSurplusesQuestion.from.Goals as goal

-- the surpluses that there are by default
abbrev IsDefault : Surpluses → Type 0
IsDefault x = (x.value ≡ 0) × AllOfLen (λ (y : ℕ). y ≡ 0) x.sigma 64

found_is : (answer : Result Surpluses Question) (found : Surpluses) → ResultUnwrapsOrElse answer IsDefault found
    → let was = result_unwrap_or answer no_surpluses in (found.value ≡ was.value) × (found.sigma ≡ was.sigma)
found_is (Ok x) found e = (ap (λ (s : Surpluses). s.value) e, ap (λ (s : Surpluses). s.sigma) e)
found_is (Err q) found (value, sigma) = (
  value,
  ext_get_or 0 found.sigma (replicate 64 0) (sigma.long ∙ sym (length-replicate {A = ℕ} 64 0))
      (λ j l. sigma.at j 0 (omega (arith, sigma.long)) ∙ sym (zeros_at 64 j)),
)

pub returns : goal.returns
returns c =
    let (value, sigma) = found_is _ _ c.unwrap_or_default-found.ensures in
    (c.number_in-number.ensures, value, sigma)
