-- `value::of_sound` meets its contract. Assumes nothing.
use mathlib.Core.Path.{refl, sym}
use native.Mathlib.Omega.{arith}
use Rattle.book.proofs.Held.{counts_held, held_shaped, sound_held}
use Rattle.winners.proofs.HeldBids.{clients_are}
use Rattle.winners.proofs.SetValues.{all_value, all_few}
use Rattle.winners.proofs.WorthAnswers.{worth_past, worth_found}
use Rattle.winners.proofs.value.of_sound.Goals as goal

pub overflow_shr-discard : goal.overflow_shr-discard
overflow_shr-discard c = omega (arith, (counts_held _ c.args.sound.sound).n_high)

pub returns-then-discard-sound-gt0 : goal.returns-then-discard-sound-gt0
returns-then-discard-sound-gt0 c = worth_past _ _ _ refl _ (sym (clients_are _ c.args.sound.sound)) c.if-discard-sound-gt0.true

pub overflow_cast-result : goal.overflow_cast-result
overflow_cast-result c = omega (arith, all_few _ (sound_held _ c.args.sound.sound) _ _ c.weigh_all-values.ensures)

pub returns : goal.returns
returns c =
    let yes = c.args.sound.sound in
    worth_found _ _ _ refl (held_shaped _) _ _ (sym (clients_are _ yes)) c.if-discard-sound-gt0.false
    (all_value _ (sound_held _ yes) _ _ c.weigh_all-values.ensures)
