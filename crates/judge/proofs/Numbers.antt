-- Figures whose columns are those of a sheet with w winners stand for its numbers. Cited by the proof of `figures_of`. Assumes nothing.
use mathlib.Core.Path.{◌≡◌}
use mathlib.Core.List.{List}
use Prim.Native.Nat.{ℕ, ◌+◌, ◌*◌, ◌^◌}
use Rattle.book.specs.Bytes.{field}
use Rattle.pricing.specs.Ranges.{signed}
use Rattle.certificate.specs.declared.ranges.Figures.{Figures}
use Rattle.certificate.specs.Figures.{certificate}
use Rattle.demands.specs.Sheet.{winner_place, set_place, numbers_in}
use Rattle.judge.specs.Columns.{Column}
use Rattle.judge.proofs.ReadColumns.{winners_read, sets_read}

module _ (w : ℕ) (bs : List ℕ) (f : Figures) where
  pub figures_numbers : f.w ≡ w → f.q ≡ field (4 + w) 4 bs → f.s ≡ field (8 + w) 4 bs
      → Column 0 w (λ j. field (winner_place w j) 8 bs) f.x → Column 0 w (λ j. field (winner_place w j + 8) 4 bs) f.z
      → Column 0 w (λ j. field (winner_place w j + 12) 8 bs) f.r → Column 0 w (λ j. field (winner_place w j + 20) 8 bs) f.t
      → f.g ≡ field (12 + 29 * w) 8 bs → (end : ℕ) → end ≡ 2 ^ w
      → Column 1 end (λ L. field (set_place w L) 4 bs) f.y → Column 1 end (λ L. field (set_place w L + 4) 8 bs) f.u
      → certificate f ≡ numbers_in w bs
  unfolding numbers_in
  figures_numbers count q s x z r t g end e y u =
      λ i. record {
        w = count i;
        q = q i;
        s = s i;
        X = winners_read _ _ _ x i;
        Z = winners_read _ _ _ z i;
        R = winners_read _ _ _ r i;
        T = winners_read _ _ _ t i;
        G = signed (g i);
        Y = sets_read _ _ _ _ e y i;
        U = sets_read _ _ _ _ e u i;
      }
