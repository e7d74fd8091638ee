-- `reading::read` meets its contract. Assumes nothing.
use mathlib.Core.Path.{◌≡◌, refl, sym, ap, ap₂, ◌∙◌}
use mathlib.Core.Bool.{true, ◌&&◌}
use mathlib.Core.List.{List}
use Prim.Native.Nat.{ℕ, ◌≤◌}
use native.Mathlib.Omega.{arith}
use lib.ListN.{length}
use Rattle.std.proofs.lemmas.List.{length-take-le}
use Rattle.std.proofs.lemmas.Result.{err_from_is_err_and}
use Rattle.sets.specs.Tables.{tabulate}
use Rattle.book.specs.Lists.{all}
use Rattle.book.specs.Book.{Kind}
use Rattle.book.specs.Layout.{book_in}
use Rattle.book.specs.Questions.{version_good, counts_good, kind_good, status_good, tables_good}
use Rattle.book.specs.Reading.{cap_of, arrays_of}
use Rattle.book.proofs.Answering.{
  refused_by_one,
  refused_by_two,
  refused_by_three,
  kinds_are,
  same_arrays,
  number_is,
  accepted_is,
}
use Rattle.book.proofs.Inside.{laid}
use Rattle.book.proofs.Places.{kinds_count, clients_count, bids_count}
use Rattle.book.proofs.reading.read.Goals as goal
use Rattle.book.proofs.reading.read.Goals.{
  Else-not-is_version_good,
  Else-not-are_counts_good,
  After-from,
  After-statuses_good,
  After-fill_bids,
}

-- past the first test the version is good, and past the second the counts
one : (c : Else-not-is_version_good) → version_good c.args.input.now ≡ true
one c = sym c.is_version_good.ensures ∙ c.if-not-is_version_good.false

two : (c : Else-not-are_counts_good) → counts_good c.args.input.now ≡ true
two c = sym c.are_counts_good.ensures ∙ c.if-not-are_counts_good.false

-- question 3, of the arrays and the bytes
three : (c : After-statuses_good) → counts_good c.args.input.now ≡ true
    → (c.kinds_good-kinds_good.result && c.statuses_good.result) ≡ tables_good (book_in c.args.input.now)
unfolding tables_good
three c good =
    let kinds = kinds_are _ _ _ good (c.from.ensures ∙ c.kinds-k.ensures) c.kinds-kinds.ensures in
    ap₂ ◌&&◌ (c.kinds_good-kinds_good.ensures ∙ ap (λ (ks : List Kind). all kind_good ks) kinds)
    (c.statuses_good.ensures ∙ ap (λ (ss : List ℕ). all status_good ss) c.statuses-statuses.ensures)

pub returns-then-not-is_version_good : goal.returns-then-not-is_version_good
returns-then-not-is_version_good c = record {
  numbered = refused_by_one _ (sym c.is_version_good.ensures ∙ c.if-not-is_version_good.true);
  accepted = tt;
}

pub returns-then-not-are_counts_good : goal.returns-then-not-are_counts_good
returns-then-not-are_counts_good c = record {
  numbered =
      refused_by_two _ (one (goal.at.returns-then-not-are_counts_good c).Else-not-is_version_good)
      (sym c.are_counts_good.ensures ∙ c.if-not-are_counts_good.true);
  accepted = tt;
}

-- so the kinds that count are among the four
room : (c : After-from) → counts_good c.args.input.now ≡ true → c.from.result ≤ length c.kinds-kinds.result
room c good = omega (arith, c.from.ensures, c.kinds-k.ensures, (laid _ good).room.kinds)

pub slice_bounds-kinds-end : goal.slice_bounds-kinds-end
slice_bounds-kinds-end c = let at = goal.at.slice_bounds-kinds-end c in room at.After-from (two at.Else-not-are_counts_good)

pub slice_bounds-kinds_good-end : goal.slice_bounds-kinds_good-end
slice_bounds-kinds_good-end c =
    let at = goal.at.slice_bounds-kinds_good-end c in
    sym (length-take-le _ _ (room at.After-from (two at.Else-not-are_counts_good)))

pub returns-then-not-kinds_good-statuses_good : goal.returns-then-not-kinds_good-statuses_good
returns-then-not-kinds_good-statuses_good c =
    let at = goal.at.returns-then-not-kinds_good-statuses_good c in
    let good = two at.Else-not-are_counts_good in
    record {
      numbered =
          refused_by_three _ (one at.Else-not-is_version_good) good
          (sym (three at.After-statuses_good good) ∙ c.if-not-kinds_good-statuses_good.true);
      accepted = tt;
    }

-- the book that is filled has the arrays of the bytes' book
held : (c : After-fill_bids) → c.fill_bids.new.book ≡ arrays_of (book_in c.args.input.now)
unfolding arrays_of
held c =
    let bs = c.args.input.now in
    c.fill_bids.ensures
    ∙ same_arrays _ (arrays_of (book_in bs))
    (c.kinds-k.ensures ∙ sym (kinds_count bs))
    c.kinds-kinds.ensures
    (c.clients.ensures ∙ sym (clients_count bs))
    (c.caps.ensures ∙ ap (λ (ss : List ℕ). tabulate 6 (cap_of ss)) c.statuses-statuses.ensures)
    (c.bids.ensures ∙ sym (bids_count bs))
    refl
    refl
    refl

pub returns-in_err-bids : goal.returns-in_err-bids
returns-in_err-bids c =
    let at = goal.at.returns-in_err-bids c in
    let good = two at.Else-not-are_counts_good in
    let tables = sym (three at.After-statuses_good good) ∙ c.if-not-kinds_good-statuses_good.false in
    let p = err_from_is_err_and c.from_residual.result c.from_residual.ensures.1 in
    rw (p.1, p.2) (record {
      numbered = number_is _ (one at.Else-not-is_version_good) good tables _ _ (held at.After-fill_bids) c.in_err-bids.ensures;
      accepted = tt;
    })

pub returns : goal.returns
returns c =
    let at = goal.at.returns c in
    let first = one at.Else-not-is_version_good in
    let good = two at.Else-not-are_counts_good in
    let tables = sym (three at.After-statuses_good good) ∙ c.if-not-kinds_good-statuses_good.false in
    let book = held at.After-fill_bids in
    let number = number_is _ first good tables _ _ book c.in_ok-bids.ensures in
    record { numbered = number; accepted = accepted_is _ first good tables (sym number) _ c.length.ensures book }
