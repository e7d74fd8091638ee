-- The demands for whole numbers over one denominator follow from those on fractions, and combinations by rising client say of lowered bids
-- what all combinations say. Nothing cites it. Assumes nothing.
use mathlib.Core.Path.{◌≡◌, refl, sym}
use mathlib.Core.Bool.{Bool, true, false, true≢false}
use mathlib.Core.List.{List}
use mathlib.Core.Logic.Iff
use mathlib.Core.Logic.{◌↔◌, ⊎_elim}
use Prim.Native.Nat.{ℕ, zero, suc, ◌*◌, ◌≤◌, ◌<◌}
use native.Mathlib.Nat.{le_trans, le_of_eq}
use native.Mathlib.Omega.{arith}
use lib.Dec.{eqb}
use lib.ListN.{length}
use borrow.Author.Tests.{eqb-false}
use Rattle.market.specs.Market.{at}
use Rattle.market.specs.Combination as Market·
use Rattle.market.proofs.Bools.{either}
use Rattle.pricing.specs.Certificate.{Differs, Worse}
use Rattle.pricing.specs.Questions.{every}
use Rattle.pricing.specs.Fractions.{Fraction, over, AtMost, Equal}
use Rattle.pricing.specs.Discounts.{Proper, own, Unlike}
use Rattle.pricing.proofs.Fractions.{Is, over_is}
use Rattle.pricing.proofs.Discounts.{reserve_whole, sets_whole, inferior_whole}
use Rattle.pricing.proofs.Best.{own_is}
use Rattle.book.specs.Book.{Book}
use Rattle.book.specs.Sound.{Shaped}
use Rattle.winners.specs.Combinations.{CombinationsAgree}
use Rattle.winners.proofs.Books.{combinations_agree}
use Rattle.winners.proofs.Promises.{combination_sorted}
use Rattle.demands.specs.Winners.{sigma, rho}
use Rattle.demands.specs.Questions.{winners_good}
use Rattle.demands.specs.Call.{Call, sheet, Accepted}
use Rattle.demands.specs.Discounts.{lowered_worth, NoneBetter, Admissible}
use Rattle.demands.specs.OneDenominator.{lowered_over, NoneBetterOver, AdmissibleOver, same_discounts}
use Rattle.demands.specs.OneDenominator.{BestDiscounts, OwnAdmissible, SetsSufficeOver}
use Rattle.demands.proofs.Judgeable.{Judgeable, judgeable_shaped}
use Rattle.demands.proofs.Lowered.{lowered_at_most}
use Rattle.demands.proofs.Suffice.{sets_suffice}
use Rattle.demands.proofs.Accepted.{scales, winners_passed}
use Rattle.demands.proofs.Promise.{accepted_in_form, accepted_acceptable, accepted_best}

-- x over r
abbrev pub all_over : (r : ℕ) → (x : ℕ → ℕ) → (j : ℕ) → Fraction
all_over r x j = over (x j) r

all_over_is : (n r : ℕ) (x : ℕ → ℕ) → 1 ≤ r → (j : ℕ) → j < n → Is r (all_over r x j) (x j)
all_over_is n r x l j m = over_is (x j) r l

all_over_proper : (n r : ℕ) (x : ℕ → ℕ) → 1 ≤ r → Proper n (all_over r x)
unfolding Proper over
all_over_proper n r x l j m = l

module _ (b : Book) (shaped : Shaped b) (is : List ℕ) (r : ℕ) (positive : 1 ≤ r) (x : ℕ → ℕ) where
  compared : (xs : List ℕ) → AtMost (lowered_worth b is (all_over r x) xs) (lowered_worth b is (all_over r x) is)
      ↔ (Market·.worth (lowered_over b is r x) xs ≤ Market·.worth (lowered_over b is r x) is)
  compared = lowered_at_most b is r (all_over r x) x (all_over_is (length is) r x positive) positive

  -- every combination has the bids of one by rising client
  pub none_better_over : NoneBetter b is (all_over r x) ↔ NoneBetterOver b is r x
  unfolding NoneBetter NoneBetterOver winners_good CombinationsAgree
  none_better_over = (
    λ h xs t. (compared xs).0 (h xs ((combinations_agree b shaped xs).0 t).0),
    λ h xs c. (compared xs).1
        (let (js, s) = combination_sorted b shaped xs c in
        le_trans (le_of_eq (sym (s.same (lowered_over b is r x))))
        (h js ((combinations_agree b shaped js).1 (s.combination, s.rising)))),
  )

  pub admissible_over : Admissible b is (all_over r x) ↔ AdmissibleOver b is r x
  admissible_over =
      let reserve = reserve_whole (length is) r positive (all_over r x) x (all_over_is (length is) r x positive) (rho b is) in (
        λ a. record { reserve = reserve.0 a.reserve; none_better = none_better_over.0 a.none_better },
        λ a. record { reserve = reserve.1 a.reserve; none_better = none_better_over.1 a.none_better },
      )

-- where not all are the same, one differs
every_false : (n : ℕ) (p : ℕ → Bool) → every n p ≡ false → (k : ℕ) × (k < n) × (p k ≡ false)
unfolding every
every_false zero p e = absurd (true≢false e)
every_false (suc n) p e =
    ⊎_elim (λ (t : every n p ≡ true). (n, omega arith, rw t at e))
    (λ (t : every n p ≡ false). let (k, l, f) = every_false n p t in (k, omega arith, f))
    (either (every n p))

pub other_differs : (w q : ℕ) (x : ℕ → ℕ) (r : ℕ) (y : ℕ → ℕ) → same_discounts w q x r y ≡ false → Differs w q x r y
unfolding same_discounts Differs
other_differs w q x r y e = let (j, l, f) = every_false w (λ j. eqb (y j * q) (x j * r)) e in (j, l, eqb-false (y j * q) (x j * r) f)

-- THE THREE STATEMENTS, the first two as a plain law and as they are stated
module _ (c : Call) (j : Judgeable c) where
  pub accepted_best_over : Accepted c → (r : ℕ) → 1 ≤ r → (y : ℕ → ℕ) → AdmissibleOver c.book (sheet c).bids r y →
      Differs (sheet c).numbers.w (sheet c).numbers.q (sheet c).numbers.X r y →
      Worse (sheet c).numbers.w (sigma c.book (sheet c).bids) (sheet c).numbers.q (sheet c).numbers.X r y
  unfolding Differs Unlike Equal over own
  accepted_best_over h r positive y a (k, l, other) =
      let n = (sheet c).numbers in
      let form = accepted_in_form c h in
      let shaped = judgeable_shaped c j form.sound in
      let q = (scales n form.ranges).q in
      (inferior_whole n.w (sigma c.book (sheet c).bids) n.q r n.X y (own n) (all_over r y) q positive (own_is n q)
      (all_over_is n.w r y positive)).0
      (accepted_best c j h (all_over r y) (all_over_proper n.w r y positive) (k, l, other)
      ((admissible_over c.book shaped (sheet c).bids r positive y).1 a))

  pub best_discounts : BestDiscounts c
  unfolding BestDiscounts
  best_discounts h ys r positive a other =
      let n = (sheet c).numbers in
      accepted_best_over h r positive (at ys) a (other_differs n.w n.q n.X r (at ys) other)

  pub own_admissible : OwnAdmissible c
  unfolding OwnAdmissible own
  own_admissible h =
      let n = (sheet c).numbers in
      let form = accepted_in_form c h in
      let shaped = judgeable_shaped c j form.sound in
      (admissible_over c.book shaped (sheet c).bids n.q (scales n form.ranges).q n.X).0 (accepted_acceptable c j h).discounts

pub sets_suffice_over : (b : Book) → Shaped b → (is : List ℕ) → SetsSufficeOver b is
unfolding SetsSufficeOver
sets_suffice_over b shaped is t v r positive x reserve =
    let best = (winners_passed b shaped is t v).0 in
    let each = all_over_is (length is) r x positive in
    let within = (reserve_whole (length is) r positive (all_over r x) x each (rho b is)).1 reserve in
    Iff.trans (Iff.symm (none_better_over b shaped is r positive x))
    (Iff.trans (sets_suffice b shaped is (length is) refl best (all_over r x) (all_over_proper (length is) r x positive) within)
    (sets_whole (length is) r positive (all_over r x) x each (sigma b is)))
