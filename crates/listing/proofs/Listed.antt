-- The printed text by the number of its input; that it always fits (listing_most); and that what was pushed for an answer is that text.
-- Cited by the proof of `price_list`, and by the law on cut inputs. Assumes nothing.
use mathlib.Core.Path.{◌≡◌, sym, ap, ◌∙◌}
use mathlib.Core.List.{List, [], ◌∷◌, ◌++◌}
use Prim.Native.Nat.{ℕ, ◌-◌, ◌≤◌, ◌<◌}
use native.Mathlib.Nat.{le_trans}
use native.Mathlib.Omega.{arith}
use lib.Dec.{eqb}
use lib.ListN.{length, take, drop, length-append, replicate, length-replicate}
use borrow.Author.Tests.{eq-eqb, ne_eqb, eqb-true}
use Rattle.market.proofs.Bools.{cond_true, cond_false, cond_cases}
use Rattle.sets.specs.Tables.{tabulate}
use Rattle.market.specs.Market.{at}
use Rattle.std.specs.Prelude.{Ok}
use Rattle.book.specs.Value.{book_of}
use Rattle.book.specs.Reading.{ReadingIs}
use Rattle.book.specs.declared.reading.Reading.{Reading}
use Rattle.demands.specs.Sheet.{sheet_in}
use Rattle.demands.specs.Call.{Call, call_in, sheet, call_refusal, input_refusal, Accepted}
use Rattle.demands.specs.Answer.{Answer, answer_of}
use Rattle.demands.proofs.Judgeable.{Judgeable, input_judgeable}
use Rattle.demands.proofs.Answer.{answered}
use Rattle.judge.proofs.Readings.{read_call}
use Rattle.text.specs.declared.Text.{Text}
use Rattle.text.specs.Text.{capacity, blank, pushes, holding}
use Rattle.text.proofs.Pushes.{pushes_blank_holding}
use Rattle.listing.specs.Listing.{accepted_word, line, winner_lines, accepted_text, refused_text, listing_of, Listed}
use Rattle.listing.proofs.Pushing.{first_lines, part_more, winners_alike}
use Rattle.listing.proofs.Limits.{accepted_few, accepted_most, refused_most}

-- the text by the number
pub listing_accepted : (c : Call) → Accepted c → listing_of c ≡ accepted_text c
unfolding listing_of
listing_accepted c a =
    cond_true (eqb (call_refusal c) 0) (accepted_text c) (refused_text (call_refusal c)) (eq-eqb (call_refusal c) 0 a)

pub listing_refused : (c : Call) → 1 ≤ call_refusal c → listing_of c ≡ refused_text (call_refusal c)
unfolding listing_of
listing_refused c l =
    cond_false (eqb (call_refusal c) 0) (accepted_text c) (refused_text (call_refusal c)) (ne_eqb (call_refusal c) 0 (λ e. omega arith))

-- it is never longer than that of six winners
pub listing_most : (c : Call) → Judgeable c → length (listing_of c) ≤ 119
unfolding listing_of
listing_most c j =
    cond_cases (λ (xs : List ℕ). length xs ≤ 119) (eqb (call_refusal c) 0) (accepted_text c) (refused_text (call_refusal c))
    (λ e. accepted_most c j (eqb-true (call_refusal c) 0 e)) (λ e. le_trans (refused_most c j) (omega arith))

-- so it fits where it was pushed
pushed_listed : (bs xs : List ℕ) (t : Text) → listing_of (call_in bs) ≡ xs → t ≡ pushes blank xs → Listed bs t
pushed_listed bs xs t e p =
    let text = listing_of (call_in bs) in
    let fits : length text ≤ 128 = omega (arith, listing_most (call_in bs) (input_judgeable bs)) in
    record { text = p ∙ ap (pushes blank) (sym e) ∙ pushes_blank_holding text fits; fits = fits }

module _ (bs : List ℕ) (r : Answer) (e : r ≡ answer_of (call_in bs)) where
  number_is : r.number ≡ input_refusal bs
  number_is = ap (λ (a : Answer). a.number) e ∙ (answered (call_in bs)).number

  pub refused_listed : (t : Text) → 0 < r.number → t ≡ pushes blank (refused_text r.number) → Listed bs t
  refused_listed t l p =
      pushed_listed bs (refused_text (input_refusal bs)) t (listing_refused (call_in bs) (omega (arith, number_is)))
      (p ∙ ap (λ (n : ℕ). pushes blank (refused_text n)) number_is)

  module _ (z : r.number ≤ 0) where
    is_accepted : Accepted (call_in bs)
    is_accepted = omega (arith, number_is)

    pub winners_few : r.w ≤ 6
    winners_few =
        omega (arith, ap (λ (x : Answer). x.w) e, accepted_few (call_in bs) (input_judgeable bs) is_accepted)

    -- the lines of the input's winners, with an answer's prices
    abbrev of_winners : Answer → List ℕ
    of_winners x = winner_lines (call_in bs).book (sheet (call_in bs)).bids x.w x.prices

    -- they were pushed for what was read of the input
    pub accepted_listed : (b : Reading) (from : ℕ) (bids : List ℕ) → ReadingIs bs (Ok b) → from ≡ b.length
        → bids ≡ tabulate 6 (at (sheet_in (take (length bs - from) (drop from bs))).bids) → length r.prices ≡ 6
        → (first t : Text) → first ≡ pushes blank (line accepted_word (r.w ∷ r.q ∷ []))
        → t ≡ pushes first (first_lines (book_of b.book) bids r.w r.prices) → Listed bs t
    unfolding accepted_text
    accepted_listed b from bids read start six long first t f p =
        let c = call_in bs in
        let call = read_call bs b read in
        let lines : first_lines (book_of b.book) bids r.w r.prices ≡ of_winners r =
        ap (λ (is : List ℕ). first_lines (book_of b.book) is r.w r.prices) (rw start at six)
        ∙ winners_alike (book_of b.book) _ r.w r.prices winners_few long
        ∙ ap (λ (x : Call). winner_lines x.book (sheet x).bids r.w r.prices) call in
        pushed_listed bs (accepted_text c) t (listing_accepted c is_accepted)
        (part_more blank first t (line accepted_word (r.w ∷ r.q ∷ [])) (of_winners r) f (p ∙ ap (pushes first) lines)
        ∙ ap (λ (x : Answer). pushes blank (line accepted_word (x.w ∷ x.q ∷ []) ++ of_winners x)) e)

-- the array has just the room for it: so none of the text was left out
pub listed_whole : (bs : List ℕ) (t : Text) → Listed bs t → length t.bytes ≡ capacity
unfolding holding
listed_whole bs t h =
    let xs = listing_of (call_in bs) in
    let zeros = length-replicate {A = ℕ} (capacity - length xs) 0 in
    rw h.text (omega (arith, length-append xs (replicate (capacity - length xs) 0), zeros, h.fits))
