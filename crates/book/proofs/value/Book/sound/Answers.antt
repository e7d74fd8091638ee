-- `Book::sound` meets its contract. Assumes nothing.
use mathlib.Core.Path.{◌≡◌, sym, ◌∙◌}
use Rattle.std.proofs.lemmas.Result.{err_from_is_err_and}
use Rattle.book.specs.Book.{clients}
use Rattle.book.specs.Lists.{all}
use Rattle.book.specs.Room.{bids_refusal}
use Rattle.book.specs.Questions.{counts_ranged, kind_good}
use Rattle.book.specs.Value.{book_of, sound_number}
use Rattle.book.specs.declared.value.Book.{Book as Arrays}
use mathlib.Core.Bool.{true}
use Rattle.book.proofs.HeldTests.{entries_held}
use Rattle.book.proofs.value.Book.sound.Goals as goal
use Rattle.book.proofs.value.Book.sound.Goals.{After-are_counts_ranged, After-kinds_good}

-- the first test is of the counts that the value has, and the second of its kinds
ranged : (c : After-are_counts_ranged) → let v = c.args.self.now in c.are_counts_ranged.result ≡ counts_ranged v.k v.n v.m
ranged c = rw (← c.from-k.ensures, ← c.from.ensures, ← c.from-2.ensures) c.are_counts_ranged.ensures

kinds : (c : After-kinds_good) → c.kinds_good.result ≡ all kind_good (book_of c.args.self.now).kinds
unfolding book_of
kinds c = rw (← c.held_kinds.ensures) c.kinds_good.ensures

pub returns-then-not-are_counts_ranged-clause-number : goal.returns-then-not-are_counts_ranged-clause-number
unfolding sound_number
returns-then-not-are_counts_ranged-clause-number c =
    let here = goal.at.returns-then-not-are_counts_ranged-clause-number c in
    let no = sym (ranged here.After-are_counts_ranged) ∙ c.if-not-are_counts_ranged.true in
    rw no

pub returns-then-not-kinds_good-clause-number : goal.returns-then-not-kinds_good-clause-number
unfolding sound_number
returns-then-not-kinds_good-clause-number c =
    let here = goal.at.returns-then-not-kinds_good-clause-number c in
    let yes = sym (ranged here.After-are_counts_ranged) ∙ c.if-not-are_counts_ranged.false in
    let no = sym (kinds here.After-kinds_good) ∙ c.if-not-kinds_good.true in
    rw (yes, entries_held c.args.self.now, no)

-- past both tests the number is that of questions 4 and 5
module _ (v : Arrays) (counts : counts_ranged v.k v.n v.m ≡ true) (tables : all kind_good (book_of v).kinds ≡ true) where
  rest : sound_number v ≡ bids_refusal (clients (book_of v)) (book_of v).kinds (book_of v).bids
  unfolding sound_number
  rest = rw (counts, entries_held v, tables)

pub returns-in_err-bids-clause-number : goal.returns-in_err-bids-clause-number
returns-in_err-bids-clause-number c =
    let p = err_from_is_err_and c.from_residual.result c.from_residual.ensures.1 in
    let at = goal.at.returns-in_err-bids-clause-number c in
    let counts = sym (ranged at.After-are_counts_ranged) ∙ c.if-not-are_counts_ranged.false in
    rw (p.1, p.2) (c.in_err-bids.ensures ∙ sym (rest _ counts (sym (kinds at.After-kinds_good) ∙ c.if-not-kinds_good.false)))

pub invariant_of-result : goal.invariant_of-result
invariant_of-result c =
    let at = goal.at.invariant_of-result c in
    let counts = sym (ranged at.After-are_counts_ranged) ∙ c.if-not-are_counts_ranged.false in
    record { sound = rest _ counts (sym (kinds at.After-kinds_good) ∙ c.if-not-kinds_good.false) ∙ sym c.in_ok-bids.ensures }
