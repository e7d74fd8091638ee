-- `RangedSheet::test_certificate` meets its contract where question 10 refuses. Assumes nothing.
use Rattle.std.proofs.lemmas.Result.{err_from_is_err_and}
use Rattle.judge.proofs.Limits.{ten_no}
use Rattle.judge.proofs.ranged.RangedSheet.test_certificate.Goals as goal

pub returns-in_err-reserve : goal.returns-in_err-reserve
returns-in_err-reserve c =
    let p = err_from_is_err_and c.from_residual.result c.from_residual.ensures.1 in
    let s = c.args.self in
    rw (p.1, p.2) (ten_no _ _ _ _ s.sound.sound s.in_range c.requires _ c.reserves-rho.ensures _ c.in_err-reserve.ensures)
