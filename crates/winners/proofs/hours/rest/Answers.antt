-- `hours::rest` meets its contract. Assumes nothing.
use borrow.Author.Rules.{rules}
use Rattle.winners.proofs.KindTests.{less_is}
use Rattle.winners.proofs.hours.rest.Goals as goal

pub returns : goal.returns
returns c = less_is c.args.left c.args.asked c.from_fn.result (search rules) (λ kind k. search rules)
