-- `choice::all_follow` meets its contract. The loop keeps the answer of the bids left, which is that of all. Assumes nothing.
use borrow.Author.Rules.{rules}
use mathlib.Core.Path.{◌≡◌, refl, sym, ◌∙◌}
use mathlib.Core.Bool.{◌&&◌}
use native.Mathlib.Omega.{arith}
use Prim.Native.Nat.{◌+◌, ◌≤◌}
use lib.Dec.{ltb}
use lib.ListN.{length, get_or, take, drop}
use Rattle.std.proofs.lemmas.List.{drop_more, drop_all}
use Rattle.market.specs.Market.{less}
use Rattle.market.specs.Combination.{rising_from, is_combination}
use Rattle.book.specs.Book.{bid_at, client_of, clients, supplies}
use Rattle.book.specs.Value.{book_of}
use Rattle.book.specs.declared.value.Book.{Book as Arrays}
use Rattle.book.proofs.Held.{held_kinds, held_shaped}
use Rattle.winners.specs.Combinations.{market}
use Rattle.winners.specs.ByKind.{by_kind}
use Rattle.winners.proofs.Books.{supplies_count}
use Rattle.winners.proofs.Choosing.{choice_next}
use Rattle.winners.proofs.KindEntries.{by_kind_take}
use Rattle.winners.proofs.choice.all_follow.Goals as goal
use Rattle.winners.proofs.choice.all_follow.Goals.{After-fit}

few : (v : Arrays) → length (book_of v).kinds ≤ 4
few v = omega (arith, held_kinds v)

pub loop-bid-init : goal.loop-bid-init
unfolding is_combination
loop-bid-init c =
    let b = book_of c.args.book.now in
    (search rules, rw (c.supplies-left.ensures, by_kind_take (length b.kinds) (supplies b) (few _) (supplies_count b)) refl)

-- the test of the bid at hand is question 8's, and what it leaves is put to the rest
stepped : (c : After-fit) →
    let b = book_of c.args.book.now in
    let l = c.loop-bid in
    let xs = c.args.bids.now in
    let i = get_or xs l.bid-index 0 in
    rising_from (market b) (clients b) l.last (take (length b.kinds) l.left) (drop l.bid-index xs)
    ≡ (((ltb l.last c.from-client.result && c.is_standing.result) && c.fit.result)
    && rising_from (market b) (clients b) (client_of b i) (take (length b.kinds) (less l.left (by_kind (bid_at b i).hours)))
    (drop (l.bid-index + 1) xs))
stepped c =
    let b = book_of c.args.book.now in
    let l = c.loop-bid in
    let xs = c.args.bids.now in
    let i = get_or xs l.bid-index 0 in
    rw (
      drop_more xs l.bid-index 0 c.loop-bid-test.true,
      c.fit.ensures,
      c.is_standing.ensures,
      c.from-client.ensures,
      c.client_of.ensures,
      c.hours_of-asked.ensures,
      c.from-number.ensures,
    ) (choice_next b (held_shaped _) (few _) l.last l.left l.invariant.0 i (drop (l.bid-index + 1) xs))

pub returns-then-not-follows : goal.returns-then-not-follows
returns-then-not-follows c =
    (rw c.if-not-follows.true at (sym (stepped (goal.at.returns-then-not-follows c).After-fit))) ∙ c.loop-bid.invariant.1

pub loop-bid-preserved : goal.loop-bid-preserved
loop-bid-preserved c = (
  search rules,
  rw (c.rest-rest.ensures, c.hours_of-asked.ensures, c.from-client.ensures, c.client_of.ensures, c.from-number.ensures)
      ((rw c.if-not-follows.false at (sym (stepped (goal.at.loop-bid-preserved c).After-fit))) ∙ c.loop-bid.invariant.1),
)

pub returns : goal.returns
unfolding rising_from
returns c = rw (drop_all c.loop-bid.bid-index c.args.bids.now c.loop-bid-test.false) at c.loop-bid.invariant.1
