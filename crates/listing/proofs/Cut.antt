-- An input cut anywhere past the longest call has the same printed text. Cited by the laws on what was read of an input. Assumes nothing.
use mathlib.Core.Path.{◌≡◌, sym, ap, ap₂, ◌∙◌}
use mathlib.Core.Bool.{true, false}
use mathlib.Core.List.{List, [], ◌∷◌, ◌++◌}
use mathlib.Core.Logic.{⊎_elim}
use Prim.Native.Nat.{ℕ, ◌≤◌, ◌<◌}
use native.Mathlib.Nat.{le_trans, le_of_eq}
use native.Mathlib.Omega.{arith}
use lib.Dec.{eqb}
use lib.ListN.{length, take}
use borrow.Author.Tests.{eqb-true, eqb-false}
use Rattle.market.proofs.Bools.{either}
use Rattle.book.specs.Book.{Book}
use Rattle.demands.specs.Sheet.{sheet_in}
use Rattle.demands.specs.Call.{call_in, sheet, input_refusal, Accepted}
use Rattle.demands.specs.Answer.{Answer, answer_of}
use Rattle.demands.specs.Inputs.{longest_call}
use Rattle.demands.proofs.Cut.{sound_cut, sheet_cut, number_cut, answer_cut}
use Rattle.demands.proofs.Passed.{accepted_passed}
use Rattle.text.specs.declared.Text.{Text}
use Rattle.text.specs.Text.{holding}
use Rattle.listing.specs.Listing.{accepted_word, line, winner_lines, accepted_text, refused_text, listing_of, Listed}
use Rattle.listing.proofs.Listed.{listing_accepted, listing_refused}

module _ (N : ℕ) (bs : List ℕ) (l : longest_call < N) where
  text_cut : Accepted (call_in bs) → accepted_text (call_in (take N bs)) ≡ accepted_text (call_in bs)
  unfolding accepted_text
  text_cut a =
      let r = answer_of (call_in bs) in
      let whole = call_in (take N bs) in
      ap (λ (x : Answer). line accepted_word (x.w ∷ x.q ∷ []) ++ winner_lines whole.book (sheet whole).bids x.w x.prices)
      (answer_cut N bs l)
      ∙ ap₂ (λ (b : Book) (part : List ℕ).
      line accepted_word (r.w ∷ r.q ∷ []) ++ winner_lines b (sheet_in part).bids r.w r.prices)
      (sound_cut N bs l (accepted_passed (call_in bs) a).sound) (sheet_cut N bs l a)

  pub listing_cut : listing_of (call_in (take N bs)) ≡ listing_of (call_in bs)
  listing_cut =
      ⊎_elim
      (λ (t : eqb (input_refusal bs) 0 ≡ true).
      let a = eqb-true (input_refusal bs) 0 t in
      listing_accepted (call_in (take N bs)) (number_cut N bs l ∙ a) ∙ text_cut a ∙ sym (listing_accepted (call_in bs) a))
      (λ (t : eqb (input_refusal bs) 0 ≡ false).
      let refused : 1 ≤ input_refusal bs = omega (arith, eqb-false (input_refusal bs) 0 t) in
      listing_refused (call_in (take N bs)) (le_trans refused (le_of_eq (sym (number_cut N bs l))))
      ∙ ap refused_text (number_cut N bs l)
      ∙ sym (listing_refused (call_in bs) refused))
      (either (eqb (input_refusal bs) 0))

  pub listed_cut : (t : Text) → Listed (take N bs) t → Listed bs t
  listed_cut t h = record {
    text = h.text ∙ ap holding listing_cut;
    fits = le_trans (le_of_eq (sym (ap length listing_cut))) h.fits;
  }
