-- Questions 7 to 9 of a sheet that arrays hold, by what the test of ranges and the weighing of the winners answer. Cited by the proof
-- and the attributes of src/chain.rt. Assumes nothing.
use mathlib.Core.Path.{◌≡◌, refl, ap, ◌∙◌}
use mathlib.Core.Bool.{true, cond}
use mathlib.Core.List.{List}
use Prim.Native.Nat.{ℕ, ◌^◌, ◌≤◌, min}
use native.Mathlib.Nat.{le_trans}
use native.Mathlib.Omega.{arith}
use borrow.Author.Tests.{le-leb, lt-ltb}
use lib.Dec.{ltb}
use lib.ListN.{length, get_or, take, length-map}
use lib.Pow.{pow_mono}
use Rattle.pricing.specs.Ranges.{in_range}
use Rattle.sets.proofs.Tables.{tabulate_at}
use Rattle.market.proofs.Bools.{cond_true}
use Rattle.std.specs.Prelude.{Ok, Err}
use Rattle.questions.specs.Numbers.{number_of}
use Rattle.questions.specs.declared.Question.{Question}
use Rattle.questions.proofs.Numbers.{number_range}
use Rattle.book.specs.Book.{Book}
use Rattle.book.specs.Value.{book_of}
use Rattle.book.specs.declared.value.Book.{Book as Arrays}
use Rattle.winners.specs.Surplus.{surplus}
use Rattle.winners.specs.Surpluses.{surplus_table}
use Rattle.winners.specs.Weighed.{choice_good, weigh_refusal, owners_of, WeighedIs}
use Rattle.winners.specs.declared.weighing.Weighed.{Weighed}
use Rattle.certificate.specs.Figures.{certificate}
use Rattle.certificate.specs.declared.ranges.Figures.{Figures}
use Rattle.certificate.proofs.InRange.{in_range_iff}
use Rattle.certificate.proofs.Refusals.{range_number_zero}
use Rattle.demands.specs.Sheet.{Sheet}
use Rattle.demands.specs.Questions.{winners_good, value_good, judged}
use Rattle.demands.specs.Winners.{clients_of, sigma}
use Rattle.judge.specs.Reading.{sheet_held}
use Rattle.judge.specs.Chain.{certificate_judged, SigmaHeld}
use Rattle.judge.proofs.Chaining.{judged_range, judged_winners}
use Rattle.judge.proofs.Parts.{form_no, sheet_no}
use Rattle.judge.proofs.NumberedTests.{answered_no, answered_yes, two_no, two_yes}

module _ (v : Arrays) (bids : List ℕ) (f : Figures) where
  abbrev b : Book
  b = book_of v

  abbrev h : Sheet
  h = sheet_held bids f

  -- question 7
  pub seven_no : (q : Question) → number_of q ≡ cond (in_range (certificate f)) 0 7 → number_of q ≡ judged b h
  seven_no q e =
      let no = answered_no (in_range (certificate f)) 7 (number_of q) e (number_range q).0 in
      no.1 ∙ judged_range b h no.0

  module _ (seven : ◌≡◌ {A = ℕ} 0 (cond (in_range (certificate f)) 0 7)) (is : List ℕ) (taken : is ≡ take f.w bids)
      (count : length is ≡ min f.w 6) where
    ranged : in_range (certificate f) ≡ true
    ranged = answered_yes (in_range (certificate f)) 7 0 (omega arith) seven (omega arith)

    few : f.w ≤ 6
    few = ((in_range_iff (certificate f)).0 ranged).few

    winners : length h.bids ≡ f.w
    winners = omega (arith, few, count, ap length taken)

    -- questions 8 and 9
    number_is : (n : ℕ) → n ≡ weigh_refusal 0 b is → n ≡ cond (winners_good b h.bids) (cond (value_good b h.bids) 0 9) 8
    unfolding weigh_refusal choice_good winners_good value_good
    number_is n e = e ∙ ap (weigh_refusal 0 b) taken ∙ rw (le-leb (length h.bids) 6 (omega (arith, few, winners))) refl

    pub weighed_no : (q : Question) → WeighedIs 0 b is (Err q) → number_of q ≡ judged b h
    weighed_no q k =
        two_no (winners_good b h.bids) (value_good b h.bids) (number_of q) (certificate_judged b h) (number_is _ k.numbered)
        (number_range q).0
        ∙ judged_winners b h ranged

    module _ (r : Weighed) (k : WeighedIs 0 b is (Ok r)) where
      pub weighed_yes : certificate_judged b h ≡ judged b h
      weighed_yes =
          two_yes (winners_good b h.bids) (value_good b h.bids) 0 (certificate_judged b h) (number_is 0 k.numbered) (omega arith)
          ∙ judged_winners b h ranged

      -- σ of every set of winners
      pub sigma_held : SigmaHeld b h r.sigma
      unfolding surplus_table owners_of sigma clients_of
      sigma_held L l =
          let σ : ℕ → ℕ = λ L. surplus b (owners_of b h.bids) L in
          let owners : length (owners_of b h.bids) ≡ f.w = length-map h.bids _ ∙ winners in
          ap (λ (xs : List ℕ). get_or xs L 0) (k.weighed.tabled ∙ ap (λ (js : List ℕ). surplus_table b (owners_of b js)) taken)
          ∙ tabulate_at 64 _ L 0 (le_trans l (pow_mono {i = f.w} {j = 6} few))
          ∙ cond_true (ltb L (2 ^ length (owners_of b h.bids))) (σ L) 0 (rw owners (lt-ltb L (2 ^ f.w) l))

-- what the attributes of `judged` and `judged_sheet` cite, for all questions but the last
pub ruleset chain_steps = (form_no, sheet_no, seven_no, weighed_no, sigma_held, range_number_zero, number_range)
