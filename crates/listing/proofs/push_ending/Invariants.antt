-- What the loop of `push_ending` keeps: with the fields from the index on the line is whole. Assumes nothing.
use Rattle.std.proofs.Common.{◌≡◌, drop}
use Rattle.text.specs.Text.{pushes}
use Rattle.listing.specs.Listing.{ending}
use Rattle.listing.proofs.push_ending.Given as goal

abbrev pub invariant-loop-field : goal.invariant-loop-field
invariant-loop-field l = pushes l.list (ending (drop l.field-index l.fields)) ≡ pushes l.initial.list (ending l.fields)
