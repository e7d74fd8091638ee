-- Calls that pass the questions: what each question says of them, with the tests of 10 to 15 taken for what they ask; exactly these are
-- accepted, and whatever else is refused has a number up to 15. Cited by the demands. Assumes nothing.
use mathlib.Core.Path.{◌≡◌, refl}
use mathlib.Core.Bool.{Bool, true, false, cond, and-eq-true_iff}
use Prim.Native.Nat.{ℕ, ◌≤◌}
use native.Mathlib.Omega.{arith}
use lib.Dec.{eqb}
use borrow.Author.Tests.{eqb-true, eqb-false, eq-eqb}
use Rattle.pricing.specs.Certificate.{Certificate, WithinReserve, WithinSets, Balances}
use Rattle.pricing.specs.Questions.{Asks, test, within_reserve, within_sets, cover, totals, stationary}
use Rattle.pricing.specs.Questions.{slack_sets, slack_reserve, slack_zero}
use Rattle.pricing.proofs.Questions.{test_iff}
use Rattle.book.specs.Book.{Book}
use Rattle.winners.specs.Combinations.{worth}
use Rattle.winners.specs.Greatest.{greatest}
use Rattle.demands.specs.Sheet.{Sheet}
use Rattle.demands.specs.Winners.{sigma, rho}
use Rattle.pricing.specs.Ranges.{in_range}
use Rattle.demands.specs.Questions.{form_good, winners_good, value_good, certificate_tests, sheet_tests, judged}
use Rattle.demands.specs.Call.{Call, sheet, call_refusal, Accepted}
use Rattle.demands.proofs.Judgeable.{Judgeable}
use Rattle.demands.proofs.Chain.{All, none, more, first_no_all, all_first_no, first_no_most}

-- QUESTIONS 10 TO 15
pub record Passed (c : Certificate) (σ ρ : ℕ → ℕ) : Type 0 where
  pub reserve : WithinReserve c.w c.q ρ c.X
  pub sets : WithinSets c.w c.q σ c.X
  pub balances : Balances c σ ρ

module _ (c : Certificate) (σ ρ : ℕ → ℕ) where
  pub certificate_passed : All (certificate_tests c σ ρ) → Passed c σ ρ
  unfolding certificate_tests Asks
  certificate_passed (more a (more b (more d (more e (more f (more g none)))))) =
      let (of_sets, of_winners) = (and-eq-true_iff (test slack_sets c σ ρ) _).0 g in
      let (at_reserve, at_zero) = (and-eq-true_iff (test slack_reserve c σ ρ) _).0 of_winners in
      record {
        reserve = (test_iff within_reserve c σ ρ).0 a;
        sets = (test_iff within_sets c σ ρ).0 b;
        balances = record {
          cover = (test_iff cover c σ ρ).0 d;
          totals = (test_iff totals c σ ρ).0 e;
          stationary = (test_iff stationary c σ ρ).0 f;
          slack_sets = (test_iff slack_sets c σ ρ).0 of_sets;
          slack_reserve = (test_iff slack_reserve c σ ρ).0 at_reserve;
          slack_zero = (test_iff slack_zero c σ ρ).0 at_zero;
        };
      }

  pub passed_certificate : Passed c σ ρ → All (certificate_tests c σ ρ)
  unfolding certificate_tests Asks
  passed_certificate p =
      let b = p.balances in
      let at_zero = (test_iff slack_zero c σ ρ).1 b.slack_zero in
      let of_winners = (and-eq-true_iff (test slack_reserve c σ ρ) _).1 ((test_iff slack_reserve c σ ρ).1 b.slack_reserve, at_zero) in
      let slack = (and-eq-true_iff (test slack_sets c σ ρ) _).1 ((test_iff slack_sets c σ ρ).1 b.slack_sets, of_winners) in
      more ((test_iff within_reserve c σ ρ).1 p.reserve)
      (more ((test_iff within_sets c σ ρ).1 p.sets)
      (more ((test_iff cover c σ ρ).1 b.cover)
      (more ((test_iff totals c σ ρ).1 b.totals)
      (more ((test_iff stationary c σ ρ).1 b.stationary)
      (more slack none)))))

-- QUESTIONS 7 TO 15
pub record SheetPassed (b : Book) (h : Sheet) : Type 0 where
  pub ranges : in_range h.numbers ≡ true
  pub winners : winners_good b h.bids ≡ true
  pub value : worth b h.bids ≡ greatest b 0
  pub numbers : Passed h.numbers (sigma b h.bids) (rho b h.bids)

module _ (b : Book) (h : Sheet) where
  all_passed : All (sheet_tests b h) → SheetPassed b h
  unfolding sheet_tests value_good
  all_passed (more ranges (more winners (more value numbers))) =
      record {
        ranges = ranges;
        winners = winners;
        value = eqb-true (worth b h.bids) (greatest b 0) value;
        numbers = certificate_passed h.numbers (sigma b h.bids) (rho b h.bids) numbers;
      }

  passed_all : SheetPassed b h → All (sheet_tests b h)
  unfolding sheet_tests value_good
  passed_all p =
      more p.ranges
      (more p.winners
      (more (eq-eqb (worth b h.bids) (greatest b 0) p.value)
      (passed_certificate h.numbers (sigma b h.bids) (rho b h.bids) p.numbers)))

  pub judged_passed : judged b h ≡ 0 → SheetPassed b h
  unfolding judged
  judged_passed e = all_passed (first_no_all 7 (sheet_tests b h) (omega arith) e)

  pub passed_judged : SheetPassed b h → judged b h ≡ 0
  unfolding judged
  passed_judged p = all_first_no 7 (sheet_tests b h) (passed_all p)

  pub judged_most : judged b h ≤ 15
  unfolding judged sheet_tests certificate_tests
  judged_most = omega (arith, first_no_most 7 (sheet_tests b h) (omega arith))

-- ALL QUESTIONS
pub record CallPassed (c : Call) : Type 0 where
  pub sound : c.refusal ≡ 0
  pub layout : form_good c.book c.part ≡ true
  pub sheet : SheetPassed c.book (sheet c)

-- a first number, a test whose 'no' is 6, and a later number
three_parts : (zero? form : Bool) (first later : ℕ) → eqb first 0 ≡ zero? → cond zero? (cond form later 6) first ≡ 0 →
    (first ≡ 0) × (form ≡ true) × (later ≡ 0)
three_parts true true first later e h = (eqb-true first 0 e, refl, h)
three_parts true false first later e h = absurd (omega arith)
three_parts false form first later e h = absurd (eqb-false first 0 e h)

three_most : (zero? form : Bool) (first later : ℕ) → first ≤ 15 → later ≤ 15 → cond zero? (cond form later 6) first ≤ 15
three_most true true first later l m = m
three_most true false first later l m = omega arith
three_most false form first later l m = l

module _ (c : Call) where
  pub accepted_passed : Accepted c → CallPassed c
  unfolding call_refusal
  accepted_passed h =
      let r = c.refusal in
      let (e, f, j) = three_parts (eqb r 0) (form_good c.book c.part) r (judged c.book (sheet c)) refl h in
      record { sound = e; layout = f; sheet = judged_passed c.book (sheet c) j }

  pub passed_accepted : CallPassed c → Accepted c
  unfolding call_refusal
  passed_accepted p = rw (p.sound, p.layout, passed_judged c.book (sheet c) p.sheet)

  pub refusal_most : Judgeable c → call_refusal c ≤ 15
  unfolding call_refusal
  refusal_most j =
      three_most (eqb c.refusal 0) (form_good c.book c.part) c.refusal (judged c.book (sheet c)) (omega (arith, j.few))
      (judged_most c.book (sheet c))
