-- `Book::held_kinds` meets its contract. Assumes nothing.
use native.Mathlib.Omega.{arith}
use Rattle.book.specs.Value.{zero_kind, kind_of, book_of}
use Rattle.book.proofs.RowLaws.{made_row}
use Rattle.book.proofs.value.Book.held_kinds.Goals as goal

pub returns : goal.returns
unfolding book_of
returns c = rw (← c.kind_count.ensures) (made_row kind_of zero_kind _ c.args.self.now.kinds (omega arith))
