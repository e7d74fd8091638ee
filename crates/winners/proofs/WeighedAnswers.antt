-- The answers of weighing bids, for a book and the number that it is refused with, each as the record that its contract asks. Cited by the
-- proof of src/weighing.rt. Assumes nothing.
use mathlib.Core.Path.{◌≡◌, ◌∙◌}
use mathlib.Core.Bool.{true, false, and-eq-true_iff}
use mathlib.Core.List.{List}
use mathlib.Core.Logic.{◌≢◌}
use Prim.Native.Nat.{ℕ, ◌≤◌}
use native.Mathlib.Omega.{arith}
use borrow.Author.Tests.{leb-true, eq-eqb, ne_eqb}
use lib.Dec.{leb}
use lib.ListN.{length}
use Rattle.std.specs.Prelude.{Ok, Err}
use Rattle.questions.specs.Numbers.{number_of}
use Rattle.questions.specs.declared.Question.{Question}
use Rattle.questions.specs.declared.Question.TheVariants.{Combination as CombinationAsked, Value as ValueAsked}
use Rattle.book.specs.Book.{Book}
use Rattle.book.specs.Sound.{Shaped}
use Rattle.winners.specs.Combinations.{worth, Combination, Rising, CombinationsAgree}
use Rattle.winners.specs.Greatest.{greatest}
use Rattle.winners.specs.Surpluses.{surplus_table}
use Rattle.winners.specs.Weighed.{choice_good, weigh_refusal, owners_of, six, WeighedIs}
use Rattle.winners.specs.declared.weighing.Weighed.{Weighed}
use Rattle.winners.proofs.Books.{combinations_agree}
use Rattle.winners.proofs.Greatest.{greatest_value, greatest_all}
use Rattle.winners.proofs.Owners.{owners_length}
use Rattle.winners.proofs.Refusals.{refused_not_zero}
use Rattle.winners.proofs.SigmaAnswers.{table_surplus}

-- what is chosen is a combination by rising client, of at most six bids
pub record ChosenBids (b : Book) (is : List ℕ) : Type 0 where
  pub few : length is ≤ 6
  pub combination : Combination b is
  pub rising : Rising b is

module _ (b : Book) (shaped : Shaped b) (is : List ℕ) where
  pub chosen_bids : choice_good b is ≡ true → ChosenBids b is
  unfolding choice_good CombinationsAgree
  chosen_bids h =
      let (few, test) = (and-eq-true_iff (leb (length is) 6) _).0 h in
      let (c, r) = (combinations_agree b shaped is).0 test in
      record { few = leb-true (length is) 6 few; combination = c; rising = r }

  module _ (r : ℕ) where
    none : (q : Question) → number_of q ≡ weigh_refusal r b is → WeighedIs r b is (Err q)
    none q e = record { numbered = e; weighed = tt; agree = combinations_agree b shaped is }

    pub weighed_refused : (q : Question) → number_of q ≡ r → WeighedIs r b is (Err q)
    unfolding weigh_refusal
    weighed_refused q e = none q (rw (refused_not_zero q r e) e)

    pub weighed_none : r ≡ 0 → choice_good b is ≡ false → WeighedIs r b is (Err CombinationAsked)
    unfolding weigh_refusal
    weighed_none e g = none CombinationAsked (rw (e, g))

    pub weighed_less : r ≡ 0 → choice_good b is ≡ true → worth b is ≢ greatest b 0 → WeighedIs r b is (Err ValueAsked)
    unfolding weigh_refusal
    weighed_less e g n = none ValueAsked (rw (e, g, ne_eqb (worth b is) (greatest b 0) n))

    pub weighed_found : r ≡ 0 → choice_good b is ≡ true → worth b is ≡ greatest b 0 → (a : Weighed) → a.value ≡ greatest b 0
        → a.clients ≡ six (owners_of b is) → a.sigma ≡ surplus_table b (owners_of b is) → WeighedIs r b is (Ok a)
    unfolding weigh_refusal
    weighed_found e g v a ev ec es = record {
      numbered = rw (e, g, eq-eqb (worth b is) (greatest b 0) v);
      weighed = record {
        valued = ev;
        owned = ec;
        tabled = es;
        greatest = rw (ev ∙ greatest_all b) (greatest_value b shaped (λ c. false));
        surpluses = λ L l.
            table_surplus b shaped (owners_of b is) a.sigma (omega (arith, owners_length b is, (chosen_bids g).few)) es L
            (rw owners_length l);
      };
      agree = combinations_agree b shaped is;
    }
