-- `paid::amounts_good` meets its contract. Assumes nothing.
use borrow.Author.Count.{below_more}
use mathlib.Core.Path.{◌≡◌, sym, ◌∙◌}
use mathlib.Core.Bool.{cond}
use mathlib.Core.List.{List}
use Prim.Native.Nat.{ℕ, ◌+◌, ◌*◌, ◌-◌, ◌<◌, min}
use native.Mathlib.Omega.{arith}
use lib.Dec.{ltb}
use lib.ListN.{get_or}
use Rattle.book.specs.Book.{no_bid}
use Rattle.book.specs.Questions.{reserves_met}
use Rattle.book.specs.Value.{zero_kind, bid_held, book_of}
use Rattle.book.specs.declared.value.Kind.{Kind as KindValue}
use Rattle.book.specs.declared.value.Book.{Book as Arrays}
use Rattle.book.proofs.ByKind.{kinds_first}
use Rattle.book.proofs.Lists.{row_passed, row_not, row_last}
use Rattle.book.proofs.ReservedHours.{reserves_tested}
use Rattle.book.proofs.paid.amounts_good.Goals as goal
use Rattle.book.proofs.paid.amounts_good.Goals.{After-first_of-kinds, After-is_met, After-is_met-in-loop-pair, After-is_met-2}

-- the kinds that there are
abbrev Cut : Arrays → List KindValue → Type 0
Cut v ks = (j : ℕ) → j < 4 → get_or ks j zero_kind ≡ cond (ltb j (min v.k 4)) (get_or v.kinds j zero_kind) zero_kind

cut : (c : After-first_of-kinds) → Cut c.args.book.now c.first_of-kinds.result
cut c = rw c.kind_count.ensures at (kinds_first _ _ _ (omega arith) c.first_of-kinds.ensures)

-- with these, the test of the first bid of two is question 5's
first_met : (c : After-is_met) → Cut c.args.book.now c.first_of-kinds.result → let v = c.args.book.now in
    c.is_met.result ≡ reserves_met (book_of v).kinds (bid_held (min v.k 4) v.client v.hours v.amount (2 * c.loop-pair.pair))
unfolding book_of
first_met c cut = reserves_tested _ _ _ _ cut (omega arith) _ _ _ _ _ c.reserves_of_eight-both.ensures.0 c.is_met.ensures

-- and that of the second
second_met : (c : After-is_met-in-loop-pair) → Cut c.args.book.now c.first_of-kinds.result → let v = c.args.book.now in
    c.is_met-in-loop-pair.result
    ≡ reserves_met (book_of v).kinds (bid_held (min v.k 4) v.client v.hours v.amount (2 * c.loop-pair.pair + 1))
unfolding book_of
second_met c cut =
    reserves_tested _ _ _ _ cut (omega arith) _ _ _ _ _ c.reserves_of_eight-both.ensures.1 c.is_met-in-loop-pair.ensures

-- and that of a last bid by itself
last_met : (c : After-is_met-2) → Cut c.args.book.now c.first_of-kinds.result → let v = c.args.book.now in
    c.is_met-2.result ≡ reserves_met (book_of v).kinds (bid_held (min v.k 4) v.client v.hours v.amount (c.bid_count-m.result - 1))
unfolding book_of
last_met c cut = reserves_tested _ _ _ _ cut (omega arith) _ _ _ _ _ c.reserves_of_four.ensures c.is_met-2.ensures

pub returns-then-not-is_met : goal.returns-then-not-is_met
unfolding book_of
returns-then-not-is_met c =
    let at = goal.at.returns-then-not-is_met c in
    row_not (reserves_met _) no_bid _ (2 * c.loop-pair.pair) _ (omega arith)
    (sym (first_met at.After-is_met (cut at.After-first_of-kinds)) ∙ c.if-not-is_met.true)

pub returns-then-not-is_met-2 : goal.returns-then-not-is_met-2
unfolding book_of
returns-then-not-is_met-2 c =
    let at = goal.at.returns-then-not-is_met-2 c in
    row_not (reserves_met _) no_bid _ (2 * c.loop-pair.pair + 1) _ (omega arith)
    (sym (second_met at.After-is_met-in-loop-pair (cut at.After-first_of-kinds)) ∙ c.if-not-is_met-2.true)

pub loop-pair-preserved : goal.loop-pair-preserved
loop-pair-preserved c =
    let at = goal.at.loop-pair-preserved c in
    let next : 2 * c.loop-pair.pair + 1 + 1 ≡ 2 * (c.loop-pair.pair + 1) = omega arith in
    let first = sym (first_met at.After-is_met (cut at.After-first_of-kinds)) ∙ c.if-not-is_met.false in
    let second = sym (second_met at.After-is_met-in-loop-pair (cut at.After-first_of-kinds)) ∙ c.if-not-is_met-2.false in
    rw (← next) (below_more _ _ (below_more _ _ c.loop-pair.invariant first) second)

pub returns-then-m-eq0 : goal.returns-then-m-eq0
unfolding book_of
returns-then-m-eq0 c = row_passed (reserves_met _) no_bid _ (2 * c.loop-pair.pair) _ (omega arith) c.loop-pair.invariant

pub returns : goal.returns
unfolding book_of
returns c =
    row_last (reserves_met _) no_bid _ (c.bid_count-m.result - 1) _ _ (omega arith) (λ j l. c.loop-pair.invariant j (omega arith))
    (last_met c (cut (goal.at.returns c).After-first_of-kinds))
