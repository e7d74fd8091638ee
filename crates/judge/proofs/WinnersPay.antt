-- Columns of a sheet's winners, ρ and prices, against the definitions. Cited by the proofs of src/ranged.rt. Assumes nothing.
use mathlib.Core.Path.{◌≡◌, sym, ap, ◌∙◌}
use mathlib.Core.List.{List}
use Prim.Native.Nat.{ℕ, ◌*◌, ◌-◌}
use native.Mathlib.Decide.{dec_lt}
use native.Mathlib.Omega.{arith}
use lib.ListN.{length, get_or, take}
use lib.Seq.{ext_get_or}
use Rattle.sets.specs.Tables.{tabulate}
use Rattle.sets.proofs.Tables.{tabulate_length, tabulate_at}
use Rattle.book.specs.Book.{Book}
use Rattle.certificate.specs.Figures.{at}
use Rattle.certificate.specs.declared.ranges.Figures.{Figures}
use Rattle.demands.specs.Answer.{price}
use Rattle.demands.specs.Sheet.{of_winner}
use Rattle.demands.specs.Winners.{win, rho}
use Rattle.demands.proofs.Sheet.{of_winner_at, of_winner_past}
use Rattle.demands.proofs.Winners.{rho_past}
use Rattle.judge.specs.Columns.{Column}
use Rattle.judge.specs.Reading.{sheet_held}
use Rattle.judge.proofs.ReadColumns.{winners_read}

-- ρ of the winners
pub rho_filled : (b : Book) (winners xs : List ℕ) → Column 0 (length winners) (rho b winners) xs → (j : ℕ) → get_or xs j 0 ≡ rho b winners j
rho_filled b is xs h j =
    ap (λ (f : ℕ → ℕ). f j) (winners_read (length is) (rho b is) xs h)
    ∙ elim (dec_lt j (length is)) [
      | yes l ↦ of_winner_at (length is) (rho b is) j l
      | no l ↦ of_winner_past (length is) (rho b is) j (omega arith) ∙ sym (rho_past b is j (omega arith))
    ]

-- what the winners pay
pub prices_filled : (b : Book) (bids : List ℕ) (f : Figures) (xs : List ℕ) → length (take f.w bids) ≡ f.w → length xs ≡ 6
    → Column 0 (length (take f.w bids)) (λ k. f.q * win b (take f.w bids) k - at f.x k) xs → xs ≡ tabulate 6 (price b (sheet_held bids f))
unfolding price of_winner
prices_filled b bids f xs count long h =
    own ∙ ap (tabulate 6) (winners_read _ _ xs h ∙ ap (λ (w : ℕ). of_winner w (λ k. f.q * win b (take f.w bids) k - at f.x k)) count)
  where
    own : xs ≡ tabulate 6 (at xs)
    own = ext_get_or 0 xs _ (long ∙ sym (tabulate_length 6 (at xs))) (λ j l. sym (tabulate_at 6 (at xs) j 0 (omega (arith, long))))
