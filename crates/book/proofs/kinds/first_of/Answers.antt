-- `kinds::first_of` meets its contract: each of the four is kept, or left out. Assumes nothing.
use Rattle.std.proofs.Common.{arith}
use Rattle.std.proofs.lemmas.Grind.{common_steps}
use Rattle.book.proofs.kinds.first_of.Goals as goal

pub returns : goal.returns
returns g c = record { kept = λ j l. grind (arith, common_steps); left_out = λ j l. grind (arith, common_steps) }
