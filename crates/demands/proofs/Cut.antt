-- How much of an input needs to be read: a sound book has at most 456 bytes and a sheet in form at most 950, so an input cut anywhere past
-- the longest call is answered alike. Cited by the program, which reads no more, and by the longest call. Assumes nothing.
use mathlib.Core.Path.{◌≡◌, sym, ap, ◌∙◌}
use mathlib.Core.Bool.{true, false, cond}
use mathlib.Core.List.{List, [], ◌∷◌}
use mathlib.Core.Logic.{◌⊎◌, inl, inr, ⊎_elim}
use Prim.Native.Nat.{ℕ, zero, suc, ◌+◌, ◌-◌, ◌≤◌, ◌<◌}
use native.Mathlib.Nat.{le_trans, le_of_eq, zero-add, suc-add}
use native.Mathlib.Omega.{arith}
use lib.Dec.{eqb}
use lib.ListN.{take, drop, length-take}
use lib.Seq.{take-nil, take_all}
use borrow.Author.Tests.{eqb-true, eqb-false}
use Rattle.market.proofs.Bools.{either}
use Rattle.book.specs.Book.{Book, clients}
use Rattle.book.specs.Layout.{book_long, k_of, n_of, m_of, book_in}
use Rattle.book.specs.Questions.{version_good, book_formula, counts_good, book_refusal}
use Rattle.book.proofs.Products.{product_most}
use Rattle.book.proofs.Refusals.{counts, questions}
use Rattle.demands.specs.Sheet.{sheet_in}
use Rattle.demands.specs.Questions.{form_good, judged}
use Rattle.demands.specs.Call.{sheet_part, call_in, call_refusal, input_refusal, Accepted}
use Rattle.demands.specs.Answer.{answer, answer_of}
use Rattle.demands.specs.Inputs.{Cut, longest_call}
use Rattle.demands.proofs.Judgeable.{input_judgeable}
use Rattle.demands.proofs.Bools.{same_test}
use Rattle.demands.proofs.Form.{form_short, clients_few}
use Rattle.demands.proofs.Alike.{alike_cut, alike_whole, field_alike, version_alike, book_alike, counts_alike}
use Rattle.demands.proofs.Passed.{accepted_passed}
use Rattle.demands.proofs.Answer.{answer_refused}

-- what is behind a place of cut bytes is what is behind it, cut
drop_take : (l k : ℕ) (xs : List ℕ) → drop l (take (l + k) xs) ≡ take k (drop l xs)
drop_take zero k xs = ap (λ (n : ℕ). take n xs) (zero-add k)
drop_take (suc l) k [] = ap (λ (n : ℕ). drop (suc l) (take n [])) (suc-add l k) ∙ sym (take-nil k)
drop_take (suc l) k (x ∷ xs) = ap (λ (n : ℕ). drop (suc l) (take n (x ∷ xs))) (suc-add l k) ∙ drop_take l k xs

-- THE BOOK
counts_short : (bs : List ℕ) → counts_good bs ≡ true → book_formula (k_of bs) (n_of bs) (m_of bs) ≤ 456
unfolding book_formula
counts_short bs h =
    let c = counts bs h in
    omega (arith, product_most 48 9 (m_of bs) (k_of bs + 5) c.m_high (omega (arith, c.k_range.1)), c.k_range, c.n_range)

pub sound_short : (bs : List ℕ) → book_refusal bs ≡ 0 → book_long bs ≤ 456
sound_short bs h = let two = (questions bs h).two in le_trans (le_of_eq (counts bs two).formula) (counts_short bs two)

module _ (N : ℕ) (bs : List ℕ) (l : 456 ≤ N) where
  version_cut : version_good (take N bs) ≡ version_good bs
  version_cut =
      same_test (version_good (take N bs)) (version_good bs)
      (version_alike N (take N bs) bs (alike_cut N bs) (omega arith)) (version_alike N bs (take N bs) (alike_whole N bs) (omega arith))

  counts_cut : counts_good (take N bs) ≡ counts_good bs
  counts_cut =
      same_test (counts_good (take N bs)) (counts_good bs)
      (λ h. counts_alike N (take N bs) bs (alike_cut N bs) (le_trans (counts_short (take N bs) h) l) h)
      (λ h. counts_alike N bs (take N bs) (alike_whole N bs) (le_trans (counts_short bs h) l) h)

  book_cut : counts_good bs ≡ true → book_in (take N bs) ≡ book_in bs
  book_cut h = sym (book_alike N bs (take N bs) (alike_whole N bs) (le_trans (counts_short bs h) l))

  pub book_refusal_cut : book_refusal (take N bs) ≡ book_refusal bs
  unfolding book_refusal
  book_refusal_cut =
      ⊎_elim (λ (t : counts_good bs ≡ true). rw (version_cut, counts_cut, book_cut t))
      (λ (t : counts_good bs ≡ false). rw (version_cut, counts_cut, t))
      (either (counts_good bs))

-- THE SHEET
module _ (b : Book) (few : clients b ≤ 6) (M : ℕ) (l : 951 ≤ M) (ss : List ℕ) where
  -- a sheet in form, cut or not, is not cut at all
  uncut : (form_good b ss ≡ true) ⊎ (form_good b (take M ss) ≡ true) → take M ss ≡ ss
  uncut (inl h) = take_all M ss (omega (arith, form_short b ss few h))
  uncut (inr h) = take_all M ss (omega (arith, form_short b (take M ss) few h, length-take M ss))

  form_cut : form_good b (take M ss) ≡ form_good b ss
  form_cut =
      same_test (form_good b (take M ss)) (form_good b ss)
      (λ h. ap (form_good b) (sym (uncut (inr h))) ∙ h) (λ h. ap (form_good b) (uncut (inl h)) ∙ h)

  -- the number of questions 6 to 15
  judged_cut : cond (form_good b (take M ss)) (judged b (sheet_in (take M ss))) 6 ≡ cond (form_good b ss) (judged b (sheet_in ss)) 6
  judged_cut =
      ⊎_elim (λ (t : form_good b ss ≡ true). rw (uncut (inl t)))
      (λ (t : form_good b ss ≡ false). rw (form_cut, t))
      (either (form_good b ss))

-- THE INPUT
module _ (N : ℕ) (bs : List ℕ) (l : longest_call < N) where
  book_long_cut : book_long (take N bs) ≡ book_long bs
  unfolding book_long
  book_long_cut = field_alike N (take N bs) bs (alike_cut N bs) 1 2 (omega arith)

  refusal_cut : book_refusal (take N bs) ≡ book_refusal bs
  refusal_cut = book_refusal_cut N bs (omega arith)

  -- behind a sound book, the sheet's part is cut behind the longest sheet
  part_cut : book_refusal bs ≡ 0 → (M : ℕ) × (951 ≤ M) × (sheet_part (take N bs) ≡ take M (sheet_part bs))
  unfolding sheet_part
  part_cut h =
      let short = sound_short bs h in
      let whole : N ≡ book_long bs + (N - book_long bs) = omega arith in (
        N - book_long bs,
        omega arith,
        ap (λ (n : ℕ). drop n (take N bs)) book_long_cut
            ∙ ap (λ (n : ℕ). drop (book_long bs) (take n bs)) whole ∙ drop_take (book_long bs) (N - book_long bs) bs,
      )

  pub sound_cut : book_refusal bs ≡ 0 → book_in (take N bs) ≡ book_in bs
  sound_cut h = book_cut N bs (omega arith) (questions bs h).two

  pub number_cut : input_refusal (take N bs) ≡ input_refusal bs
  unfolding call_refusal
  number_cut =
      ⊎_elim
      (λ (t : eqb (book_refusal bs) 0 ≡ true).
      let h = eqb-true (book_refusal bs) 0 t in
      let (M, long, part) = part_cut h in
      let few = clients_few (call_in bs) (input_judgeable bs) h in
      rw (refusal_cut, t, sound_cut h, part) (judged_cut (book_in bs) few M long (sheet_part bs)))
      (λ (t : eqb (book_refusal bs) 0 ≡ false). rw (refusal_cut, t))
      (either (eqb (book_refusal bs) 0))

  -- an accepted input's sheet is not cut
  pub sheet_cut : Accepted (call_in bs) → sheet_part (take N bs) ≡ sheet_part bs
  sheet_cut a =
      let p = accepted_passed (call_in bs) a in
      let (M, long, part) = part_cut p.sound in
      let few = clients_few (call_in bs) (input_judgeable bs) p.sound in
      part ∙ uncut (book_in bs) few M long (sheet_part bs) (inl p.layout)

  pub answer_cut : answer_of (call_in (take N bs)) ≡ answer_of (call_in bs)
  unfolding answer_of
  answer_cut =
      ⊎_elim
      (λ (t : eqb (input_refusal bs) 0 ≡ true).
      let a = eqb-true (input_refusal bs) 0 t in
      rw (number_cut, sound_cut (accepted_passed (call_in bs) a).sound, sheet_cut a))
      (λ (t : eqb (input_refusal bs) 0 ≡ false).
      let refused : 1 ≤ input_refusal bs = omega (arith, eqb-false (input_refusal bs) 0 t) in
      ap (λ (n : ℕ). answer n (book_in (take N bs)) (sheet_in (sheet_part (take N bs)))) number_cut
      ∙ answer_refused (input_refusal bs) (book_in (take N bs)) (sheet_in (sheet_part (take N bs))) refused
      ∙ sym (answer_refused (input_refusal bs) (book_in bs) (sheet_in (sheet_part bs)) refused))
      (either (eqb (input_refusal bs) 0))

pub cut : (N : ℕ) (bs : List ℕ) → Cut N bs
unfolding Cut
cut N bs l = record { number = number_cut N bs l; answer = answer_cut N bs l }
