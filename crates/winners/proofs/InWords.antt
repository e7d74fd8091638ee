-- What the contracts say in words leaves no other answer than what they say by value: whatever is the greatest value in words is the
-- recursion's, and whatever is σ in words is σ; bids that are weighed are a combination by rising client, and at most six
-- that are one pass question 8; and all clients of a sound book are a list that is not refused. Nothing cites it. Assumes nothing.
use mathlib.Core.Path.{◌≡◌, refl, sym, ap, ◌∙◌}
use mathlib.Core.Bool.{Bool, true, false, ◌&&◌, cond, false≢true, and-eq-true_iff}
use mathlib.Core.List.{List, [], ◌∷◌}
use Prim.Native.Nat.{ℕ, ◌^◌, ◌≤◌, ◌<◌}
use native.Mathlib.Omega.{arith}
use borrow.Author.Tests.{le-leb, eq-eqb}
use lib.Dec.{leb, eqb}
use lib.ListN.{length, get_or, take}
use Rattle.std.specs.Prelude.{Result, Ok}
use Rattle.questions.specs.declared.Question.{Question}
use Rattle.book.specs.Lists.{all_to}
use Rattle.book.specs.Book.{Book, clients}
use Rattle.book.specs.Layout.{book_in}
use Rattle.book.specs.Questions.{book_refusal}
use Rattle.book.specs.Sound.{Shaped}
use Rattle.book.proofs.SoundRead.{sound_in}
use Rattle.book.proofs.Tests.{all_to_true}
use Rattle.winners.specs.Combinations.{Combination, Rising, worth, CombinationsAgree}
use Rattle.winners.specs.Greatest.{discarded, greatest}
use Rattle.winners.specs.Surplus.{picked, surplus, SurplusIs}
use Rattle.winners.specs.Worth.{WorthIs}
use Rattle.winners.specs.Surpluses.{rising_to, list_good, list_refusal, SurplusesAre, AllSurplusesAre}
use Rattle.winners.specs.Weighed.{choice_good, weigh_refusal, owners_of, WeighedIs}
use Rattle.winners.specs.declared.weighing.Weighed.{Weighed}
use Rattle.winners.proofs.Greatest.{greatest_only_one, greatest_all}

surplus_only_one : (b : Book) → Shaped b → (cs : List ℕ) (L σ : ℕ) → SurplusIs b cs L σ → σ ≡ surplus b cs L
unfolding surplus
surplus_only_one b shaped cs L σ s =
    omega (
      arith,
      s.makes,
      greatest_only_one b shaped (λ c. false) s.v s.all,
      greatest_only_one b shaped (picked cs L) s.u s.others,
      greatest_all b,
    )

-- weighed, bids have passed question 8
question_8 : (sound eight nine : Bool) (n : ℕ) → (n ≡ 0 → sound ≡ true) → cond sound (cond eight (cond nine 0 9) 8) n ≡ 0 → eight ≡ true
question_8 true true nine n h e = refl
question_8 true false nine n h e = absurd (omega arith)
question_8 false eight nine n h e = absurd (false≢true (h e))

module _ (r : ℕ) (b : Book) (shaped : Shaped b) where
  worth_in_words : (d v : ℕ) → WorthIs r b d 0 v → v ≡ greatest b d
  unfolding greatest
  worth_in_words d v k = greatest_only_one b shaped (discarded d) v (k.greatest refl)

  surpluses_in_words : (cs : List ℕ) (v : ℕ) (sigma : List ℕ) → SurplusesAre r b cs 0 v sigma
      → (L : ℕ) → L < 2 ^ length cs → get_or sigma L 0 ≡ surplus b cs L
  surpluses_in_words cs v sigma k L l = surplus_only_one b shaped cs L (get_or sigma L 0) (k.surpluses refl L l)

  module _ (is : List ℕ) (a : Weighed) (k : WeighedIs r b is (Ok a)) where
    weighed_value : a.value ≡ greatest b 0
    weighed_value = greatest_only_one b shaped (λ c. false) a.value k.weighed.greatest ∙ sym (greatest_all b)

    weighed_surpluses : (L : ℕ) → L < 2 ^ length is → get_or a.sigma L 0 ≡ surplus b (owners_of b is) L
    weighed_surpluses L l = surplus_only_one b shaped (owners_of b is) L (get_or a.sigma L 0) (k.weighed.surpluses L l)

    weighed_combination : Combination b is × Rising b is
    unfolding weigh_refusal choice_good CombinationsAgree
    weighed_combination =
        let best = eqb (worth b is) (greatest b 0) in
        let good = question_8 (eqb r 0) (choice_good b is) best r (eq-eqb r 0) (sym k.numbered) in
        k.agree.0 ((and-eq-true_iff (leb (length is) 6) _).0 good).1

  combination_chosen : (is : List ℕ) (answer : Result Weighed Question) → WeighedIs r b is answer → length is ≤ 6
      → Combination b is → Rising b is → choice_good b is ≡ true
  unfolding choice_good CombinationsAgree
  combination_chosen is answer k few c rising =
      (and-eq-true_iff (leb (length is) 6) _).1 (le-leb (length is) 6 few, k.agree.1 (c, rising))

-- the first n of six clients rise to n: one test, computed
abbrev rises : (n : ℕ) → Bool
rises n = let all = take n (1 ∷ 2 ∷ 3 ∷ 4 ∷ 5 ∷ 6 ∷ []) in leb (length all) 6 && rising_to n 0 all

all_rise : (n : ℕ) → 1 ≤ n → n ≤ 6 → rises n ≡ true
unfolding rising_to all_to
all_rise = all_to_true rises 6 refl

all_unrefused : (bs : List ℕ) (number value : ℕ) (sigma : List ℕ) → AllSurplusesAre bs number value sigma
    → book_refusal bs ≡ 0 → number ≡ 0
unfolding list_refusal list_good
all_unrefused bs number value sigma k e =
    let s = sound_in bs e in
    k.numbered ∙ rw e (ap (λ (t : Bool). cond t 0 16) (all_rise (clients (book_in bs)) s.n_low s.n_high))
