-- `limit::few_for_each` meets its contract. Assumes nothing.
use mathlib.Core.Path.{◌≡◌, ◌∙◌}
use native.Mathlib.Omega.{arith}
use lib.ListN.{take}
use Rattle.book.specs.Lists.{all_to}
use Rattle.book.specs.Book.{clients}
use Rattle.book.specs.Questions.{few_bids}
use Rattle.book.specs.Value.{book_of}
use Rattle.book.proofs.Tally.{few_named, few_under, few_over, few_more, few_passed, one_over, few_held}
use Rattle.book.proofs.limit.few_for_each.Goals as goal
use Rattle.book.proofs.limit.few_for_each.Goals.{After-client_count-client-end}

-- the test of the clients that are named is of the bids
held : (c : After-client_count-client-end) → let v = c.args.book.now in
    all_to c.client_count-client-end.result (few_named (take c.bid_count.result v.client))
    ≡ all_to (clients (book_of v)) (few_bids (book_of v).bids)
held c = few_held _ _ _ c.bid_count.ensures c.client_count-client-end.ensures (omega arith)

pub returns-then-bids_of-gt-MOST_EACH : goal.returns-then-bids_of-gt-MOST_EACH
returns-then-bids_of-gt-MOST_EACH c =
    one_over (few_named _) _ c.loop-client.client (omega arith) (omega arith)
    (few_over _ _ _ c.bids_of.ensures (omega arith))
    ∙ held (goal.at.returns-then-bids_of-gt-MOST_EACH c).After-client_count-client-end

pub loop-client-preserved : goal.loop-client-preserved
loop-client-preserved c =
    few_more (few_named _) _ c.loop-client.invariant (few_under _ _ _ c.bids_of.ensures c.if-bids_of-gt-MOST_EACH.false)

pub returns-else-bids_of-gt-MOST_EACH : goal.returns-else-bids_of-gt-MOST_EACH
returns-else-bids_of-gt-MOST_EACH c =
    few_passed (few_named _) _ _ (omega arith)
    (few_more (few_named _) _ c.loop-client.invariant (few_under _ _ _ c.bids_of.ensures c.if-bids_of-gt-MOST_EACH.false))
    ∙ held (goal.at.returns-else-bids_of-gt-MOST_EACH c).After-client_count-client-end

pub returns : goal.returns
returns c = few_passed (few_named _) _ _ (omega arith) c.loop-client.invariant ∙ held (goal.at.returns c).After-client_count-client-end
