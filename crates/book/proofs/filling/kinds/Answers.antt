-- `filling::kinds` meets its contract. Assumes nothing.
use mathlib.Core.Path.{◌∙◌}
use mathlib.Core.List.{[], ◌∷◌}
use native.Mathlib.Omega.{arith}
use Rattle.book.specs.Reading.{arrays_of}
use Rattle.book.proofs.ByKind.{kinds_first}
use Rattle.book.proofs.Entered.{four_kinds, kinds_read}
use Rattle.book.proofs.filling.kinds.Goals as goal

pub returns : goal.returns
unfolding arrays_of
returns c =
    let k = c.from-k.ensures ∙ c.kinds.ensures in
    let four = c.kind_at-first.result ∷ c.kind_at-second.result ∷ c.kind_at-third.result ∷ c.kind_at-fourth.result ∷ [] in
    kinds_read c.args.input.now _ four _ k (omega arith) (kinds_first _ four _ (omega arith) c.first_of.ensures)
    (four_kinds c.args.input.now _ _ _ _ c.kind_at-first.ensures c.kind_at-second.ensures c.kind_at-third.ensures c.kind_at-fourth.ensures)
