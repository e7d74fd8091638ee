-- `listing::push_winners` meets its contract: the loop's next pair stands behind those passed. Assumes nothing.
use Rattle.std.proofs.Common.{length-append, rules}
use Rattle.std.proofs.lemmas.Slice.Zip.{zip_turn}
use Rattle.listing.proofs.Pushing.{winners_none, winners_more}
use Rattle.listing.proofs.push_winners.Goals as goal

pub loop-bid-init : goal.loop-bid-init
loop-bid-init c = winners_none _ _ _ _

pub loop-bid-preserved : goal.loop-bid-preserved
loop-bid-preserved c =
    let passed = c.loop-bid.yielded in
    let pair = zip_turn c.args.bids.now c.args.prices.now passed c.into_iter-bid-iterator.result c.loop-bid.bid-iterator c.next.new.self _
    (search rules) (search rules) c.loop-bid.yielded_by _ c.in-Some.is c.next.ensures.steps in
    winners_more _ _ _ _ _ _ _ _ _ _ (length-append passed _) (pair.2 0) (pair.3 0) c.loop-bid.invariant c.push_winner.ensures
