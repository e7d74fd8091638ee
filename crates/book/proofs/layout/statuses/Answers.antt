-- `book::layout::statuses` meets its contract. Assumes nothing.
use mathlib.Core.Path.{◌≡◌}
use Prim.Native.Nat.{◌+◌, ◌-◌, ◌≤◌}
use native.Mathlib.Omega.{arith}
use lib.ListN.{length}
use Rattle.book.specs.Layout.{book_in}
use Rattle.book.proofs.Inside.{laid, bytes_taken}
use Rattle.book.proofs.layout.statuses.Goals as goal
use Rattle.book.proofs.layout.statuses.Goals.{After-from-n}

-- the statuses end inside the bytes
inside : (c : After-from-n) → c.statuses_from-from.result + c.from-n.result ≤ length c.args.book.now
inside c = omega (arith, (laid _ c.requires).statuses)

pub slice_bounds-result-end : goal.slice_bounds-result-end
slice_bounds-result-end c = inside c

pub returns : goal.returns
unfolding book_in
returns c =
    let n = c.from-n.result in
    let from = c.statuses_from-from.result in
    let long : from + n - from ≡ n = omega arith in
    rw (← c.clients.ensures, ← c.from-n.ensures, ← c.statuses_from-from.ensures.place, long)
    (bytes_taken n from c.args.book.now (omega (arith, (laid _ c.requires).statuses)))
