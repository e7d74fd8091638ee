-- The text that is printed for an input, as a list of ASCII bytes (FORMAT, "Answers"). The contract of `price_list` cites it, and so do the
-- laws on its length and on cut inputs. Assumes nothing: these are definitions.
use Rattle.std.specs.Prelude.{◌≡◌, cond, List, [], ◌∷◌, ◌++◌, ℕ, zero, suc, ◌≤◌, eqb, length}
use Rattle.market.specs.Market.{at}
use Rattle.book.specs.Book.{Book, client_of}
use Rattle.demands.specs.Call.{Call, call_in, sheet, call_refusal}
use Rattle.demands.specs.Answer.{answer_of}
use Rattle.text.specs.declared.Text.{Text}
use Rattle.text.specs.Decimal.{decimal}
use Rattle.text.specs.Text.{holding}

-- the word `accepted`: a, c, c, e, p, t, e, d
unfoldable pub accepted_word : List ℕ
accepted_word = 97 ∷ 99 ∷ 99 ∷ 101 ∷ 112 ∷ 116 ∷ 101 ∷ 100 ∷ []

-- the word `refused`: r, e, f, u, s, e, d
unfoldable pub refused_word : List ℕ
refused_word = 114 ∷ 101 ∷ 102 ∷ 117 ∷ 115 ∷ 101 ∷ 100 ∷ []

-- a line from behind its first field on: a space (32) and a number in decimal for each, and a line feed (10)
unfoldable pub ending : (numbers : List ℕ) → List ℕ
ending [] = 10 ∷ []
ending (n ∷ ns) = 32 ∷ (decimal n ++ ending ns)

-- a line: its first field, and then numbers
abbrev pub line : (first numbers : List ℕ) → List ℕ
line first ns = first ++ ending ns

-- the lines 0 to n - 1, one after the other
unfoldable pub lines : (n : ℕ) → (nth : ℕ → List ℕ) → List ℕ
lines zero nth = []
lines (suc n) nth = lines n nth ++ nth n

-- the line of a winner: its client, its bid number and its price numerator
unfoldable pub winner_line : Book → (bid price : ℕ) → List ℕ
winner_line b i price = line (decimal (client_of b i)) (i ∷ price ∷ [])

-- the lines of w winners with these bids and prices
unfoldable pub winner_lines : Book → (bids : List ℕ) → (w : ℕ) → (prices : List ℕ) → List ℕ
winner_lines b is w prices = lines w (λ k. winner_line b (at is k) (at prices k))

-- after acceptance: the word with w and q, and the lines of the winners
unfoldable pub accepted_text : Call → List ℕ
accepted_text c =
    let r = answer_of c in
    line accepted_word (r.w ∷ r.q ∷ []) ++ winner_lines c.book (sheet c).bids r.w r.prices

-- after a refusal: the word with the number
unfoldable pub refused_text : (number : ℕ) → List ℕ
refused_text n = line refused_word (n ∷ [])

-- THE PRINTED TEXT of a call
unfoldable pub listing_of : Call → List ℕ
listing_of c = let accepted = accepted_text c in cond (eqb (call_refusal c) 0) accepted (refused_text (call_refusal c))

-- t is the printed text of an input, whole
pub record Listed (input : List ℕ) (t : Text) : Type 0 where
  -- its bytes come first, all are counted, and the rest is zeros
  pub text : t ≡ holding (listing_of (call_in input))
  -- so none was left out
  pub fits : length (listing_of (call_in input)) ≤ 128
