-- `Text::push_all` meets its contract: one byte more is one push more. Assumes nothing.
use Rattle.std.proofs.Common.{refl, sym}
use Rattle.text.specs.Text.{pushes}
use Rattle.text.proofs.Pushes.{pushes_more}
use Rattle.text.proofs.Text.push_all.Goals as goal

pub loop-byte-init : goal.loop-byte-init
unfolding pushes
loop-byte-init c = refl

pub loop-byte-preserved : goal.loop-byte-preserved
loop-byte-preserved c = rw (c.push.ensures, c.loop-byte.invariant) (sym (pushes_more _ _ _ c.loop-byte-test.true))
