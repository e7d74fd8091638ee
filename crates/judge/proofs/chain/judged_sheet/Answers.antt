-- `judge::chain::judged_sheet` meets its contract: each question is passed, or its refusal is the answer. Assumes nothing.
use Rattle.std.proofs.Common.{◌≡◌, ℕ, arith, ◌∙◌}
use Rattle.std.proofs.lemmas.Result.{err_from_is_err_and}
use Rattle.book.specs.Value.{book_of}
use Rattle.questions.proofs.Numbers.{number_range}
use Rattle.demands.specs.Questions.{judged}
use Rattle.judge.specs.Chain.{certificate_judged}
use Rattle.judge.specs.Reading.{sheet_of}
use Rattle.judge.proofs.Parts.{sheet_no, sheet_yes}
use Rattle.judge.proofs.Weighing.{weighed_yes}
use Rattle.judge.proofs.chain.judged_sheet.Goals as goal
use Rattle.judge.proofs.chain.judged_sheet.Goals.{After-test_certificate}

-- questions 10 to 15 come last
last : (c : After-test_certificate) (n : ℕ)
    → n ≡ certificate_judged (book_of c.args.sound.book.now) (sheet_of c.args.sheet.now)
    → n ≡ judged (book_of c.args.sound.book.now) (sheet_of c.args.sheet.now)
last c n e =
    let s = c.args.sheet.now in
    e ∙ weighed_yes c.args.sound.book.now s.bids s.figures c.in_ok-ranges.ensures _ c.bids.ensures.bids c.bids.ensures.count
    _ c.in_ok-weighed.ensures

pub returns-in_err-test_certificate : goal.returns-in_err-test_certificate
returns-in_err-test_certificate c part n of_n read =
    let p = err_from_is_err_and c.from_residual-in_err-test_certificate.result c.from_residual-in_err-test_certificate.ensures.1 in
    rw (p.1, p.2)
    (sheet_no _ _ c.args.sound.sound _ of_n c.args.sheet.now read _
    (last (goal.at.returns-in_err-test_certificate c).After-test_certificate _ c.in_err-test_certificate.ensures) (number_range _).0)

pub returns : goal.returns
returns c part n of_n read =
    c.accepted.ensures
    ∙ sheet_yes _ _ c.args.sound.sound _ of_n c.args.sheet.now read 0
    (last (goal.at.returns c).After-test_certificate 0 c.in_ok-test_certificate.ensures) (omega arith)
