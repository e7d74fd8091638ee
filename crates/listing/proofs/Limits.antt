-- How long the printed text is: at most 17 bytes for each line, so at most 119 for six winners, and after a refusal at most 11. Cited by
-- the other laws. Assumes nothing.
use mathlib.Core.Path.{◌≡◌, ap, ◌∙◌}
use mathlib.Core.List.{List, [], ◌∷◌}
use Prim.Native.Nat.{ℕ, zero, suc, ◌+◌, ◌*◌, ◌-◌, ◌^◌, ◌≤◌, ◌<◌}
use native.Mathlib.Nat.{le_trans, le_of_eq}
use native.Mathlib.Omega.{arith}
use lib.Dec.{ltb}
use lib.ListN.{length, length-append}
use Rattle.market.specs.Market.{at}
use Rattle.market.proofs.Bools.{cond_cases}
use Rattle.book.specs.Book.{Book, client_of}
use Rattle.book.specs.Sound.{Sound}
use Rattle.book.proofs.Products.{product_most}
use Rattle.sets.proofs.Tables.{tabulate_at}
use Rattle.winners.specs.Combinations.{market, amount_of}
use Rattle.certificate.specs.InRange.{Ranges}
use Rattle.certificate.proofs.InRange.{in_range_iff}
use Rattle.demands.specs.Winners.{win}
use Rattle.demands.specs.Call.{Call, sheet, call_refusal, Accepted}
use Rattle.demands.specs.Answer.{Answer, price, acceptance, answer_of}
use Rattle.demands.proofs.Judgeable.{Judgeable}
use Rattle.demands.proofs.Sheet.{sheet_winners}
use Rattle.demands.proofs.Passed.{accepted_passed, refusal_most}
use Rattle.demands.proofs.Promise.{accepted_acceptable}
use Rattle.demands.proofs.Answer.{answer_accepted}
use Rattle.text.specs.Decimal.{decimal}
use Rattle.text.proofs.Decimal.{decimal_length}
use Rattle.listing.specs.Listing.{accepted_word, refused_word, ending, line, lines, winner_line, winner_lines}
use Rattle.listing.specs.Listing.{accepted_text, refused_text}

-- PARTS
-- a field below 10 ^ (d + 1) has d + 2 bytes at most, and the rest of its line follows
field_most : (d n m : ℕ) (ns : List ℕ) → n < 10 ^ suc d → length (ending ns) ≤ m → length (ending (n ∷ ns)) ≤ d + 2 + m
unfolding ending
field_most d n m ns l rest = omega (arith, length-append (decimal n) (ending ns), decimal_length d n l)

end_most : length (ending []) ≤ 1
unfolding ending
end_most = omega arith

lines_most : (n b : ℕ) (f : ℕ → List ℕ) → ((k : ℕ) → k < n → length (f k) ≤ b) → length (lines n f) ≤ b * n
unfolding lines
lines_most zero b f each = omega arith
lines_most (suc n) b f each =
    omega (arith, length-append (lines n f) (f n), lines_most n b f (λ k l. each k (omega arith)), each n (omega arith))

-- the line of a winner with a client of one digit, a bid of two and a price of eleven
winner_line_most : (b : Book) (i p : ℕ) → client_of b i < 10 → i < 100 → p < 10 ^ 11 → length (winner_line b i p) ≤ 17
unfolding winner_line
winner_line_most b i p client bid price =
    omega (
      arith,
      length-append (decimal (client_of b i)) (ending (i ∷ p ∷ [])),
      decimal_length 0 (client_of b i) client,
      field_most 1 i 13 (p ∷ []) bid (field_most 10 p 1 [] price end_most),
    )

-- AN ACCEPTED CALL
module _ (c : Call) (judgeable : Judgeable c) (a : Accepted c) where
  accepted_answer : answer_of c ≡ acceptance c.book (sheet c)
  unfolding answer_of
  accepted_answer = answer_accepted (call_refusal c) c.book (sheet c) a

  ranges : Ranges (sheet c).numbers
  ranges = (in_range_iff (sheet c).numbers).0 (accepted_passed c a).sheet.ranges

  sound : Sound c.book
  sound = judgeable.sound (accepted_passed c a).sound

  accepted_w : (answer_of c).w ≡ (sheet c).numbers.w
  unfolding acceptance
  accepted_w = ap (λ (r : Answer). r.w) accepted_answer

  pub accepted_few : (answer_of c).w ≤ 6
  accepted_few = le_trans (le_of_eq accepted_w) ranges.few

  accepted_q : (answer_of c).q ≤ 10000
  unfolding acceptance
  accepted_q = le_trans (le_of_eq (ap (λ (r : Answer). r.q) accepted_answer)) ranges.q_most

  -- winner k
  module _ (k : ℕ) (l : k < (answer_of c).w) where
    abbrev bid : ℕ
    bid = at (sheet c).bids k

    bid_range : (1 ≤ bid) × (bid ≤ length c.book.bids)
    unfolding market
    bid_range =
        let inside : k < length (sheet c).bids = omega (arith, accepted_w, sheet_winners c.part) in
        (accepted_acceptable c judgeable a).winners.combination.numbers k inside

    price_most : at (answer_of c).prices k ≤ 10 ^ 10
    unfolding acceptance price win amount_of
    price_most =
        let (low, high) = bid_range in
        let q = (sheet c).numbers.q in
        let amount = win c.book (sheet c).bids k in
        let full = product_most 10000 1000000 q amount ranges.q_most (sound.amount_high bid low high) in
        let place = tabulate_at 6 (price c.book (sheet c)) k 0 (omega (arith, accepted_few)) in
        le_trans (le_of_eq (ap (λ (r : Answer). at r.prices k) accepted_answer ∙ place))
        (cond_cases (λ (p : ℕ). p ≤ 10 ^ 10) (ltb k (sheet c).numbers.w) (q * amount - (sheet c).numbers.X k) 0
        (λ e. omega (arith, full)) (λ e. omega arith))

    line_most : length (winner_line c.book bid (at (answer_of c).prices k)) ≤ 17
    line_most =
        let (low, high) = bid_range in
        winner_line_most c.book bid (at (answer_of c).prices k)
        (omega (arith, sound.client_high bid low high, sound.n_high)) (omega (arith, sound.m_high)) (omega (arith, price_most))

  pub accepted_most : length (accepted_text c) ≤ 119
  unfolding accepted_text accepted_word winner_lines
  accepted_most =
      let r = answer_of c in
      omega (
        arith,
        length-append (line accepted_word (r.w ∷ r.q ∷ [])) (winner_lines c.book (sheet c).bids r.w r.prices),
        length-append accepted_word (ending (r.w ∷ r.q ∷ [])),
        field_most 0 r.w 7 (r.q ∷ []) (omega (arith, accepted_few)) (field_most 4 r.q 1 [] (omega (arith, accepted_q)) end_most),
        lines_most r.w 17 (λ k. winner_line c.book (at (sheet c).bids k) (at r.prices k)) line_most,
        accepted_few,
      )

-- A REFUSED ONE
pub refused_most : (c : Call) → Judgeable c → length (refused_text (call_refusal c)) ≤ 11
unfolding refused_text refused_word
refused_most c j =
    omega (
      arith,
      length-append refused_word (ending (call_refusal c ∷ [])),
      field_most 1 (call_refusal c) 1 [] (omega (arith, refusal_most c j)) end_most,
    )
