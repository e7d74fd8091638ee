-- `tables::statuses_good` meets its contract. Assumes nothing.
use Rattle.std.proofs.Common.{rules}
use Rattle.book.specs.Questions.{status_good}
use Rattle.book.proofs.Lists.{all_each}
use Rattle.book.proofs.tables.statuses_good.Goals as goal

pub returns : goal.returns
unfolding status_good
returns c = all_each 0 status_good _ _ (search rules)
