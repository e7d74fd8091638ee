-- `asked::is_hour_asked` meets its contract. Assumes nothing.
use borrow.Author.Rules.{rules}
use mathlib.Core.Path.{◌∙◌}
use native.Mathlib.Omega.{arith}
use Rattle.book.proofs.AskedHours.{four_asked}
use Rattle.book.proofs.asked.is_hour_asked.Goals as goal

pub returns : goal.returns
returns c k l e =
    four_asked c.args.hours (omega arith) (search rules) k _ _ l e (c.from.ensures ∙ c.from_be_bytes.ensures)
