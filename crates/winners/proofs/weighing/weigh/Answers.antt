-- `weighing::weigh` meets its contract. Assumes nothing.
use Rattle.std.proofs.lemmas.Result.{err_from_is_err_and}
use Rattle.book.proofs.Held.{held_shaped}
use Rattle.winners.proofs.WeighedAnswers.{weighed_refused}
use Rattle.winners.proofs.weighing.weigh.Goals as goal

pub returns-in_err-sound : goal.returns-in_err-sound
returns-in_err-sound c =
    let p = err_from_is_err_and c.from_residual.result c.from_residual.ensures.1 in
    rw (p.1, p.2) (weighed_refused _ (held_shaped _) _ _ _ c.in_err-sound.ensures.number)
