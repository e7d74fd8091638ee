-- What is answered is right: an accepted sheet's prices with its discounts make the winners' amounts, and after a refusal there are zeros
-- alone. Cited by the contract of judging. Assumes nothing.
use mathlib.Core.Path.{◌≡◌, refl, sym, ap, ◌∙◌}
use mathlib.Core.Bool.{true, false}
use mathlib.Core.Logic.{⊎_elim}
use Prim.Native.Nat.{ℕ, ◌+◌, ◌*◌, ◌-◌, ◌≤◌, ◌<◌}
use native.Mathlib.Nat.{le_trans, mul-le-mul_left, le_of_eq}
use native.Mathlib.Decide.{dec_le}
use native.Mathlib.Omega.{arith}
use lib.Dec.{ltb, eqb}
use lib.ListN.{length, get_or-eq_default}
use borrow.Author.Tests.{lt-ltb, le-ltb, eqb-true, eqb-false, eq-eqb, ne_eqb}
use Rattle.market.specs.Market.{at}
use Rattle.market.proofs.Bools.{either, cond_true, cond_false}
use Rattle.pricing.specs.Certificate.{WithinReserve}
use Rattle.pricing.specs.Fractions.{over, whole, plus, Equal}
use Rattle.pricing.specs.Discounts.{own}
use Rattle.book.specs.Book.{Book}
use Rattle.demands.specs.Sheet.{Sheet}
use Rattle.demands.specs.Winners.{win, rho}
use Rattle.demands.specs.Call.{Call, sheet, call_refusal, Accepted}
use Rattle.sets.specs.Tables.{tabulate}
use Rattle.sets.proofs.Tables.{tabulate_length, tabulate_at}
use Rattle.demands.specs.Answer.{Answer, price, acceptance, refusal, answer, answer_of, Priced, Zeros, Answered}
use Rattle.demands.proofs.Passed.{accepted_passed}
use Rattle.demands.proofs.Sheet.{sheet_winners}
use Rattle.demands.proofs.Winners.{rho_most}
use Rattle.demands.proofs.Accepted.{scales}

-- PLACES
-- where f is 0, so is the list, within its end and past it
pub tabulate_zero : (n : ℕ) (f : ℕ → ℕ) (k : ℕ) → f k ≡ 0 → at (tabulate n f) k ≡ 0
tabulate_zero n f k e =
    elim (dec_le n k) [
      | yes l ↦ get_or-eq_default (tabulate n f) 0 (le_trans (le_of_eq (tabulate_length n f)) l)
      | no l ↦ tabulate_at n f k 0 (omega arith) ∙ e
    ]

-- THE ANSWER OF A NUMBER
module _ (n : ℕ) (b : Book) (h : Sheet) where
  pub answer_accepted : n ≡ 0 → answer n b h ≡ acceptance b h
  unfolding answer
  answer_accepted e = cond_true (eqb n 0) (acceptance b h) (refusal n) (eq-eqb n 0 e)

  pub answer_refused : 1 ≤ n → answer n b h ≡ refusal n
  unfolding answer
  answer_refused l = cond_false (eqb n 0) (acceptance b h) (refusal n) (ne_eqb n 0 (λ e. omega arith))

  pub answer_number : (answer n b h).number ≡ n
  unfolding acceptance refusal
  answer_number =
      ⊎_elim (λ (t : eqb n 0 ≡ true). ap (λ (a : Answer). a.number) (answer_accepted (eqb-true n 0 t)) ∙ sym (eqb-true n 0 t))
      (λ (t : eqb n 0 ≡ false). ap (λ (a : Answer). a.number) (answer_refused (omega (arith, eqb-false n 0 t))))
      (either (eqb n 0))

-- THE PRICES OF AN ACCEPTED SHEET
module _ (b : Book) (h : Sheet) (long : length h.bids ≡ h.numbers.w) (few : h.numbers.w ≤ 6) (positive : 1 ≤ h.numbers.q)
    (reserve : WithinReserve h.numbers.w h.numbers.q (rho b h.bids) h.numbers.X) where
  -- a price and its discount make the amount
  price_makes : (k : ℕ) → k < h.numbers.w → price b h k + h.numbers.X k ≡ h.numbers.q * win b h.bids k
  unfolding price WithinReserve
  price_makes k l =
      let p = cond_true (ltb k h.numbers.w) (h.numbers.q * win b h.bids k - h.numbers.X k) 0 (lt-ltb k h.numbers.w l) in
      omega (arith, p, reserve k l, mul-le-mul_left h.numbers.q (rho_most b h.bids k))

  price_past : (k : ℕ) → h.numbers.w ≤ k → price b h k ≡ 0
  unfolding price
  price_past k l = cond_false (ltb k h.numbers.w) (h.numbers.q * win b h.bids k - h.numbers.X k) 0 (le-ltb k h.numbers.w l)

  pub acceptance_priced : Priced b h (acceptance b h)
  unfolding acceptance Equal plus over whole own
  acceptance_priced = record {
    number = refl;
    w = sym long;
    q = refl;
    positive = positive;
    places = tabulate_length 6 (price b h);
    price =
        λ k l. let below = le_trans l (le_of_eq long) in
        omega (
          arith,
          ap (λ (z : ℕ). z * h.numbers.q) (price_makes k below),
          ap (λ (z : ℕ). z * h.numbers.q) (tabulate_at 6 (price b h) k 0 (omega arith)),
        );
    rest = λ k l. tabulate_zero 6 (price b h) k (price_past k (le_trans (le_of_eq (sym long)) l));
  }

-- EVERY CALL
module _ (c : Call) where
  pub accepted_priced : Accepted c → Priced c.book (sheet c) (answer_of c)
  unfolding answer_of
  accepted_priced h =
      let p = (accepted_passed c h).sheet in
      let s = scales (sheet c).numbers p.ranges in
      rw (answer_accepted (call_refusal c) c.book (sheet c) h)
      (acceptance_priced c.book (sheet c) (sheet_winners c.part) s.few s.q p.numbers.reserve)

  pub refused_zeros : 1 ≤ call_refusal c → Zeros (answer_of c)
  unfolding answer_of refusal
  refused_zeros l = rw (answer_refused (call_refusal c) c.book (sheet c) l) (record { w = refl; q = refl; prices = refl })

  pub answered : Answered c
  unfolding answer_of
  answered = record {
    number = answer_number (call_refusal c) c.book (sheet c);
    priced = accepted_priced;
    zeros = refused_zeros;
  }
