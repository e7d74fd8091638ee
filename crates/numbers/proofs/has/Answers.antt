-- `has` meets its contract. A place from 64 on is in no set. Assumes nothing.
use Rattle.std.proofs.Common.{sym, ◌∙◌}
use Rattle.std.proofs.lemmas.Bool.{le-ltb}
use Rattle.sets.proofs.Members.{has_above}
use Rattle.numbers.proofs.has.Goals as goal

pub returns-else-place-lt64 : goal.returns-else-place-lt64
returns-else-place-lt64 c =
    let past = c.if-place-lt64.false in
    le-ltb c.args.place 64 past ∙ sym (has_above 64 c.args.set c.args.place c.ranges.set.fits past)
