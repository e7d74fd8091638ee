-- The sheet's bid numbers as the array that is filled with them, and the array's first as the sheet's. Cited by the proofs of the sheet's
-- reader. Assumes nothing.
use mathlib.Core.Path.{◌≡◌, sym, ◌∙◌}
use mathlib.Core.List.{List}
use Prim.Native.Nat.{ℕ, ◌+◌, ◌≤◌, ◌<◌}
use native.Mathlib.Decide.{dec_lt}
use native.Mathlib.Omega.{arith}
use lib.ListN.{length, get_or, take, get_or-eq_default}
use lib.Seq.{ext_get_or, get_or-take, length-take-le}
use Rattle.sets.specs.Tables.{tabulate}
use Rattle.sets.proofs.Tables.{tabulate_length, tabulate_at}
use Rattle.market.specs.Market.{at}
use Rattle.book.specs.Bytes.{byte, bytes_at}
use Rattle.book.proofs.Next.{bytes_length}
use Rattle.book.proofs.Places.{bytes_entry}
use Rattle.demands.specs.Sheet.{sheet_w, of_winner, sheet_in}
use Rattle.demands.proofs.Sheet.{of_winner_at, of_winner_past}

-- bytes one by one, as numbers of winners
bytes_each : (w from : ℕ) (bs : List ℕ) (k : ℕ) → of_winner w (λ j. byte (from + j) bs) k ≡ at (bytes_at w from bs) k
bytes_each w from bs k =
    elim (dec_lt k w) [
      | yes l ↦ of_winner_at w (λ j. byte (from + j) bs) k l ∙ sym (bytes_entry w from k bs 0 l)
      | no g ↦
          of_winner_past w (λ j. byte (from + j) bs) k (omega arith)
          ∙ sym (get_or-eq_default (bytes_at w from bs) 0 {n = k} (omega (arith, bytes_length w from bs)))
    ]

-- the first of a table of a list that is no longer than it are the list
table_front : (n w : ℕ) (xs : List ℕ) → length xs ≡ w → w ≤ n → take w (tabulate n (at xs)) ≡ xs
table_front n w xs long l =
    let table = tabulate n (at xs) in
    let count : length (take w table) ≡ w = length-take-le w table (omega (arith, tabulate_length n (at xs))) in
    ext_get_or 0 (take w table) xs (count ∙ sym long)
    (λ k h. get_or-take w table k 0 (omega arith) ∙ tabulate_at n (at xs) k 0 (omega arith))

module _ (part : List ℕ) where
  pub bids_filled : (xs : List ℕ) → length xs ≡ 6 → ((j : ℕ) → j < 6 → get_or xs j 0 ≡ of_winner (sheet_w part) (λ k. byte (4 + k) part) j)
      → xs ≡ tabulate 6 (at (sheet_in part).bids)
  unfolding sheet_in
  bids_filled xs long each =
      ext_get_or 0 xs _ (long ∙ sym (tabulate_length 6 _))
      (λ j l. let m : j < 6 = omega (arith, long) in each j m ∙ bytes_each (sheet_w part) 4 part j ∙ sym (tabulate_at 6 _ j 0 m))

  pub bids_front : sheet_w part ≤ 6 → take (sheet_w part) (tabulate 6 (at (sheet_in part).bids)) ≡ (sheet_in part).bids
  unfolding sheet_in
  bids_front l = table_front 6 (sheet_w part) (bytes_at (sheet_w part) 4 part) (bytes_length (sheet_w part) 4 part) l
