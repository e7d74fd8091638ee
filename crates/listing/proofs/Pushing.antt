-- The parts of the printed text, pushed one behind the other: fields, lines, and the lines of the winners.
-- Cited by the proofs of the loops of src/lib.rt, and of the whole text. Assumes nothing.
use mathlib.Core.Path.{◌≡◌, refl, sym, ap, ap₂, ◌∙◌}
use mathlib.Core.List.{List, ◌++◌}
use Prim.Native.Nat.{ℕ, zero, suc, ◌+◌, ◌≤◌, ◌<◌, min}
use native.Mathlib.Numerals.{add-one}
use native.Mathlib.Omega.{arith}
use lib.ListN.{length, get_or, take, length-take, drop, drop_of_length-le}
use lib.Seq.{drop-cons}
use Rattle.std.proofs.lemmas.List.{get_or-take}
use Rattle.market.specs.Market.{at}
use Rattle.sets.specs.Tables.{tabulate}
use Rattle.sets.proofs.Tables.{tabulate_at, tabulate_length}
use Rattle.book.specs.Book.{Book}
use Rattle.text.specs.declared.Text.{Text}
use Rattle.text.specs.Decimal.{decimal}
use Rattle.text.specs.Text.{pushed, pushes}
use Rattle.text.proofs.Pushes.{pushes_append}
use Rattle.listing.specs.Listing.{ending, lines, winner_line, winner_lines}

module _ (t u r : Text) where
  -- one part, and then another
  pub part_more : (xs ys : List ℕ) → u ≡ pushes t xs → r ≡ pushes u ys → r ≡ pushes t (xs ++ ys)
  part_more xs ys e f = f ∙ ap (λ (x : Text). pushes x ys) e ∙ sym (pushes_append t xs ys)

  -- a space and the next number, and then the rest of the line
  pub fields_more : (ns : List ℕ) (i : ℕ) → i < length ns → u ≡ pushed t 32 → r ≡ pushes u (decimal (get_or ns i 0))
      → pushes r (ending (drop (i + 1) ns)) ≡ pushes t (ending (drop i ns))
  unfolding pushes ending
  fields_more ns i within e f =
      rw (add-one i, drop-cons ns i 0 within, f, e) (sym (pushes_append _ (decimal (get_or ns i 0)) (ending (drop (suc i) ns))))

  -- one winner more
  pub winners_more : (b : Book) (bids prices : List ℕ) (k n bid price : ℕ) → n ≡ k + 1 → bid ≡ at bids k → price ≡ at prices k
      → u ≡ pushes t (winner_lines b bids k prices) → r ≡ pushes u (winner_line b bid price) → r ≡ pushes t (winner_lines b bids n prices)
  unfolding winner_lines lines
  winners_more b bids prices k n bid price next here paid e f =
      rw (next, add-one k) (part_more (winner_lines b bids k prices) (winner_line b (at bids k) (at prices k)) e (rw (here, paid) at f))

-- behind the last field comes the line feed
pub fields_all : (t r : Text) (ns : List ℕ) (i : ℕ) → length ns ≤ i → r ≡ pushed t 10 → r ≡ pushes t (ending (drop i ns))
unfolding pushes ending
fields_all t r ns i all e = rw drop_of_length-le e

-- no winner's line is there yet
pub winners_none : (t : Text) (b : Book) (bids prices : List ℕ) → t ≡ pushes t (winner_lines b bids 0 prices)
unfolding winner_lines lines pushes
winners_none t b bids prices = refl

-- lines that are alike one by one are alike
lines_alike : (n : ℕ) (f g : ℕ → List ℕ) → ((k : ℕ) → k < n → f k ≡ g k) → lines n f ≡ lines n g
unfolding lines
lines_alike zero f g h = refl
lines_alike (suc n) f g h = ap₂ ◌++◌ (lines_alike n f g (λ k l. h k (omega arith))) (h n (omega arith))

-- the lines of the first w of these bids, as many as have a price; of six bids out of a longer row they are those of the row
abbrev pub first_lines : Book → (bids : List ℕ) → (w : ℕ) → (prices : List ℕ) → List ℕ
first_lines b bids w prices = winner_lines b (take w bids) (min (length (take w bids)) (length prices)) prices

pub winners_alike : (b : Book) (bids : List ℕ) (w : ℕ) (prices : List ℕ) → w ≤ 6 → length prices ≡ 6
    → first_lines b (tabulate 6 (at bids)) w prices ≡ winner_lines b bids w prices
unfolding winner_lines
winners_alike b bids w prices few long =
    let six = tabulate 6 (at bids) in
    let all : min (length (take w six)) (length prices) ≡ w = omega (arith, length-take w six, tabulate_length 6 (at bids)) in
    ap (λ (n : ℕ). winner_lines b (take w six) n prices) all
    ∙ lines_alike w _ _
    (λ k l. ap (λ (i : ℕ). winner_line b i (at prices k)) (get_or-take w six k 0 l ∙ tabulate_at 6 (at bids) k 0 (omega arith)))
