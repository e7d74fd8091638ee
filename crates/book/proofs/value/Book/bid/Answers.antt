-- `Book::bid` meets its contract. Assumes nothing.
use mathlib.Core.Path.{◌≡◌, sym, ◌∙◌}
use mathlib.Core.Bool.{true, false}
use Prim.Native.Nat.{min}
use native.Mathlib.Omega.{arith}
use Rattle.book.specs.Lists.{within}
use Rattle.book.proofs.ByKind.{numbers_first, no_hours, four_hours}
use Rattle.book.proofs.Held.{client_by_number, amount_by_number}
use Rattle.book.proofs.value.Book.bid.Goals as goal
use Rattle.book.proofs.value.Book.bid.Goals.{After-within, Then-not-within, Else-not-within}

-- the test of the number, and what it tells
none : (c : Then-not-within) → let a = c.args in within 1 a.number (min a.self.now.m 48) ≡ false
none c = rw (← c.bid_count.ensures, ← c.within.ensures.tested) c.if-not-within.true

there : (c : Else-not-within) → let a = c.args in within 1 a.number (min a.self.now.m 48) ≡ true
there c = rw (← c.bid_count.ensures, ← c.within.ensures.tested) c.if-not-within.false

pub returns-then-not-within-clause-client : goal.returns-then-not-within-clause-client
returns-then-not-within-clause-client c =
    let a = c.args in
    c.default.ensures.0 ∙ sym (rw (client_by_number a.self.now a.number, none c.before))

pub returns-then-not-within-clause-hours : goal.returns-then-not-within-clause-hours
returns-then-not-within-clause-hours c =
    let a = c.args in
    let hours = c.default.ensures.1.0 in
    no_hours a.self.now a.number _ (none c.before) hours.long (λ j l. hours.at j 0 l)

pub returns-then-not-within-clause-amount : goal.returns-then-not-within-clause-amount
returns-then-not-within-clause-amount c =
    let a = c.args in
    c.default.ensures.1.1 ∙ sym (rw (amount_by_number a.self.now a.number, none c.before))

pub returns-clause-client : goal.returns-clause-client
returns-clause-client c =
    let a = c.args in
    rw (client_by_number a.self.now a.number, there (goal.at.returns-clause-client c).Else-not-within)

pub returns-clause-hours : goal.returns-clause-hours
returns-clause-hours c =
    let a = c.args in
    numbers_first _ _ _ (omega arith) c.first_of.ensures
    ∙ four_hours a.self.now _ c.kind_count.ensures a.number (there (goal.at.returns-clause-hours c).Else-not-within)

pub returns-clause-amount : goal.returns-clause-amount
returns-clause-amount c =
    let a = c.args in
    rw (amount_by_number a.self.now a.number, there (goal.at.returns-clause-amount c).Else-not-within)
