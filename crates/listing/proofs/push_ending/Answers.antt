-- `listing::push_ending` meets its contract. Assumes nothing.
use Rattle.std.proofs.Common.{◌∙◌}
use Rattle.listing.proofs.Pushing.{fields_more, fields_all}
use Rattle.listing.proofs.push_ending.Goals as goal

pub loop-field-preserved : goal.loop-field-preserved
loop-field-preserved c =
    fields_more _ _ _ _ _ c.loop-field-test.true c.push.ensures c.push_decimal.ensures ∙ c.loop-field.invariant

pub returns : goal.returns
returns c = fields_all _ _ _ _ c.loop-field-test.false c.push-2.ensures ∙ c.loop-field.invariant
