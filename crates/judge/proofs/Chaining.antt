-- The chain of questions 7 to 15 by where it ends. Cited by the laws of weighing and of the certificate. Assumes nothing.
use mathlib.Core.Path.{◌≡◌}
use mathlib.Core.Bool.{true, false, cond, and_assoc}
use Rattle.pricing.specs.Ranges.{in_range}
use Rattle.pricing.specs.Questions.{test, within_reserve, slack_sets, slack_reserve, slack_zero}
use Rattle.certificate.specs.DiscountRefusals.{slack_test}
use Rattle.certificate.specs.Refusals.{first_failed}
use Rattle.book.specs.Book.{Book}
use Rattle.demands.specs.Sheet.{Sheet}
use Rattle.demands.specs.Winners.{sigma, rho}
use Rattle.judge.specs.Chain.{certificate_judged}
use Rattle.demands.specs.Questions.{winners_good, value_good, certificate_tests, sheet_tests, first_no, judged}

module _ (b : Book) (h : Sheet) where
  -- 7
  pub judged_range : in_range h.numbers ≡ false → 7 ≡ judged b h
  unfolding judged sheet_tests first_no
  judged_range e = rw e

  -- 8, 9 and the later ones
  pub judged_winners : in_range h.numbers ≡ true
      → cond (winners_good b h.bids) (cond (value_good b h.bids) (certificate_judged b h) 9) 8 ≡ judged b h
  unfolding judged sheet_tests first_no certificate_judged
  judged_winners e = rw e

  -- 10, and the first of 11 to 15
  pub certificate_first : certificate_judged b h
      ≡ cond (test within_reserve h.numbers (sigma b h.bids) (rho b h.bids))
      (first_failed h.numbers (sigma b h.bids) (rho b h.bids)) 10
  unfolding certificate_judged certificate_tests first_no first_failed slack_test
  certificate_first = rw (and_assoc (test slack_sets _ _ _) (test slack_reserve _ _ _) (test slack_zero _ _ _))
