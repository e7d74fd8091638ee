-- `Book::supplies` meets its contract. Assumes nothing.
use native.Mathlib.Omega.{arith}
use Rattle.book.proofs.ByKind.{kinds_first, four_supplies}
use Rattle.book.proofs.value.Book.supplies.Goals as goal

pub returns : goal.returns
returns c =
    four_supplies c.args.self.now _ c.kind_count.ensures _ (kinds_first _ _ _ (omega arith) c.first_of.ensures)
