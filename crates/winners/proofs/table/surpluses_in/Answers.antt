-- `table::surpluses_in` meets its contract. Assumes nothing.
use mathlib.Core.Path.{◌≡◌, sym, ap, ◌∙◌}
use native.Mathlib.Omega.{arith}
use lib.Seq.{length-take-le}
use Rattle.std.proofs.lemmas.Result.{err_from_is_err_and}
use Rattle.book.specs.Book.{clients}
use Rattle.book.specs.Layout.{book_in}
use Rattle.book.proofs.Held.{counts_held}
use Rattle.winners.proofs.HeldBids.{clients_are}
use Rattle.winners.proofs.SigmaAnswers.{surpluses_refused}
use Rattle.winners.proofs.table.surpluses_in.Goals as goal

pub returns-in_err-reading : goal.returns-in_err-reading
returns-in_err-reading c =
    let p = err_from_is_err_and c.from_residual.result c.from_residual.ensures.1 in
    rw (p.1, p.2) (surpluses_refused _ _ _ _ c.in_err-reading.ensures.numbered)

pub slice_bounds-clients-end : goal.slice_bounds-clients-end
slice_bounds-clients-end c = omega (arith, c.from-n.ensures, (counts_held _ c.in_ok-reading.ensures.accepted.sound).n_high)

pub slice_bounds-of_sound-end : goal.slice_bounds-of_sound-end
slice_bounds-of_sound-end c =
    sym (length-take-le c.from-n.result _ (omega (arith, c.from-n.ensures, (counts_held _ c.in_ok-reading.ensures.accepted.sound).n_high)))

pub returns : goal.returns
returns c =
    let read = c.in_ok-reading.ensures in
    let n : c.from-n.result ≡ clients (book_in c.args.book.now) =
    c.from-n.ensures ∙ sym (clients_are c.in_ok-reading.reading.book read.accepted.sound) ∙ ap clients read.accepted.means in
    rw (sym read.numbered) (rw (read.accepted.means, n) at c.of_sound.ensures)
