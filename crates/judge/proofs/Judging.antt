-- Whatever answers with the definitions' answer keeps every promise (judgement), and what is answered to a call by where it is refused.
-- Cited by the laws of the sheet's parts and by the attributes of src/lib.rt. Assumes nothing.
use mathlib.Core.Path.{◌≡◌, sym, ap, ◌∙◌}
use mathlib.Core.Bool.{true, false}
use mathlib.Core.List.{List}
use mathlib.Core.Logic.{inl, inr, ⊎_elim}
use Prim.Native.Nat.{ℕ, ◌≤◌, ◌<◌}
use native.Mathlib.Nat.{le_trans, le_of_eq}
use native.Mathlib.Omega.{arith}
use borrow.Author.Tests.{ne_eqb}
use Rattle.book.specs.declared.value.Book.{Book as Arrays}
use Rattle.demands.specs.Call.{Call, sheet, call_refusal, call_of, Accepted}
use Rattle.demands.specs.Questions.{form_good, judged}
use Rattle.demands.specs.Answer.{Answer, answer_of, acceptance, refusal}
use Rattle.demands.specs.Promise.{Demand1}
use Rattle.demands.proofs.Judgeable.{Judgeable, value_judgeable}
use Rattle.demands.proofs.Promise.{demand_1, demand_2, demand_3}
use Rattle.demands.proofs.Answer.{answer_accepted, answer_refused, answered}
use Rattle.judge.specs.declared.prices.Prices.{Prices}
use Rattle.judge.specs.Judgement.{answer_in, Judgement}

pub judgement : (c : Call) → Judgeable c → (r : Prices) → answer_in r ≡ answer_of c → Judgement c r
unfolding Demand1
judgement c j r e =
    let number : r.number ≡ call_refusal c = ap (λ (a : Answer). a.number) e ∙ (answered c).number in
    record {
      fields = e;
      number_is = number;
      accepted = (λ z. sym number ∙ z, λ a. number ∙ a);
      demand_1 = ⊎_elim (λ (a : Accepted c). inl (number ∙ a))
          (λ l. inr (le_trans l.0 (le_of_eq (sym number)), le_trans (le_of_eq number) l.1, rw e ((answered c).zeros l.0)))
          (demand_1 c j);
      demand_2 = demand_2 c j;
      priced = λ z. rw e ((answered c).priced (sym number ∙ z));
      demand_3 = demand_3 c j;
    }

-- of a book that is a value
pub value_judgement : (v : Arrays) (part : List ℕ) (r : Prices) → answer_in r ≡ answer_of (call_of v part) → Judgement (call_of v part) r
value_judgement v part = judgement (call_of v part) (value_judgeable v part)

module _ (c : Call) where
  refused_with : (n : ℕ) → call_refusal c ≡ n → 0 < n → refusal n ≡ answer_of c
  unfolding answer_of
  refused_with n e l = sym (answer_refused (call_refusal c) c.book (sheet c) (le_trans l (le_of_eq (sym e))) ∙ ap refusal e)

  -- the book is refused
  pub refused_book : (n : ℕ) → n ≡ c.refusal → 0 < n → refusal n ≡ answer_of c
  unfolding call_refusal
  refused_book n e l = refused_with n (rw (ne_eqb c.refusal 0 (λ (z : c.refusal ≡ 0). omega arith)) (sym e)) l

  module _ (e : c.refusal ≡ 0) where
    -- the bytes of the sheet have no good form
    pub refused_form : form_good c.book c.part ≡ false → refusal 6 ≡ answer_of c
    unfolding call_refusal
    refused_form f = refused_with 6 (rw (e, f)) (omega arith)

    module _ (f : form_good c.book c.part ≡ true) (n : ℕ) (j : n ≡ judged c.book (sheet c)) where
      number_judged : call_refusal c ≡ n
      unfolding call_refusal
      number_judged = rw (e, f) (sym j)

      -- the sheet is refused, or accepted
      pub refused_sheet : 0 < n → refusal n ≡ answer_of c
      refused_sheet l = refused_with n number_judged l

      pub accepted_sheet : n ≤ 0 → acceptance c.book (sheet c) ≡ answer_of c
      unfolding answer_of
      accepted_sheet l = sym (answer_accepted (call_refusal c) c.book (sheet c) (number_judged ∙ omega arith))
