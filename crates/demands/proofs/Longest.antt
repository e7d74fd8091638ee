-- The longest call is as long as the longest book and the longest sheet together; no accepted input is longer, and one that is just as long
-- is accepted. Nothing cites it. Assumes nothing.
use mathlib.Core.Path.{◌≡◌, refl}
use mathlib.Core.List.{List, [], ◌∷◌, ◌++◌}
use Prim.Native.Nat.{ℕ, ◌+◌, ◌≤◌}
use native.Mathlib.Omega.{arith}
use lib.ListN.{length, replicate, length-drop}
use Rattle.book.specs.Layout.{book_long, book_in}
use Rattle.book.specs.Questions.{book_formula}
use Rattle.demands.specs.Sheet.{sheet_formula}
use Rattle.demands.specs.Call.{sheet_part, call_in, Accepted}
use Rattle.demands.specs.Inputs.{longest_call}
use Rattle.demands.proofs.Judgeable.{input_judgeable}
use Rattle.demands.proofs.Form.{form_short, clients_few}
use Rattle.demands.proofs.Passed.{accepted_passed}
use Rattle.demands.proofs.Cut.{sound_short}
use Rattle.demands.proofs.Written.{written, kind, bid, winner, set, book, sheet}
use Rattle.demands.proofs.Calls.{computed}

-- four kinds, six clients, 48 bids; and six winners
pub longest_parts : longest_call ≡ book_formula 4 6 48 + sheet_formula 6
unfolding book_formula sheet_formula
longest_parts = refl

pub accepted_short : (bs : List ℕ) → Accepted (call_in bs) → length bs ≤ longest_call
unfolding sheet_part
accepted_short bs h =
    let p = accepted_passed (call_in bs) h in
    let few = clients_few (call_in bs) (input_judgeable bs) p.sound in
    omega (
      arith,
      sound_short bs p.sound,
      form_short (book_in bs) (sheet_part bs) few p.layout,
      length-drop (book_long bs) bs,
    )

-- SUCH A CALL: six hours of each kind are sold, with no reserve. Each client has one bid for an hour of the first kind, and seven for more
-- hours than there are. So all six win, nobody else could, and the discounts are the amounts
unfoldable pub eight_bids : (client : ℕ) → List (List ℕ)
eight_bids c = bid c (1 ∷ 0 ∷ 0 ∷ 0 ∷ []) 1 ∷ replicate 7 (bid c (7 ∷ 0 ∷ 0 ∷ 0 ∷ []) 1)

unfoldable pub longest_book : List ℕ
longest_book =
    book (replicate 4 (kind 6 0)) (replicate 6 0)
    (eight_bids 1 ++ eight_bids 2 ++ eight_bids 3 ++ eight_bids 4 ++ eight_bids 5 ++ eight_bids 6)

unfoldable pub longest_sheet : List ℕ
longest_sheet = sheet (1 ∷ 9 ∷ 17 ∷ 25 ∷ 33 ∷ 41 ∷ []) 1 1 (replicate 6 (winner 1 1 0 0)) 0 (replicate 63 (set 0 0))

unfoldable pub longest : List ℕ
longest = longest_book ++ longest_sheet

pub longest_length : length longest ≡ longest_call
unfolding longest longest_book longest_sheet eight_bids written
longest_length = refl

pub longest_accepted : Accepted (call_in longest)
unfolding longest longest_book longest_sheet eight_bids written computed
longest_accepted = refl
