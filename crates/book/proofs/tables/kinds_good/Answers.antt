-- `tables::kinds_good` meets its contract. Assumes nothing.
use Rattle.std.proofs.Common.{rules}
use Rattle.book.specs.Questions.{kind_good}
use Rattle.book.specs.Value.{zero_kind, kind_of}
use Rattle.book.proofs.Lists.{all_each_made}
use Rattle.book.proofs.tables.kinds_good.Goals as goal

pub returns : goal.returns
unfolding kind_good kind_of
returns c = all_each_made zero_kind kind_good kind_of _ _ (search rules)
