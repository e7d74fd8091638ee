-- A book that was read from an input, with the bytes that follow it, is the call of the input. Cited by the attribute of `judged_input`,
-- and by crates above that read an input themselves. Assumes nothing.
use mathlib.Core.Path.{◌≡◌, ap, ◌∙◌}
use mathlib.Core.List.{List}
use Prim.Native.Nat.{ℕ, ◌-◌}
use native.Mathlib.Nat.{le_of_eq}
use lib.ListN.{length, take, drop, length-drop}
use lib.Seq.{take_all}
use Rattle.book.specs.Layout.{book_in}
use Rattle.book.specs.Questions.{book_refusal}
use Rattle.book.specs.Reading.{ReadingIs}
use Rattle.book.specs.Value.{book_of, sound_number}
use Rattle.std.specs.Prelude.{Ok}
use Rattle.book.specs.declared.reading.Reading.{Reading}
use Rattle.demands.specs.Call.{sheet_part, call_in, call_of}

-- what a slice from a place on holds, as the code hands it over, is what is left there
pub slice_rest : (from : ℕ) (bs : List ℕ) → take (length bs - from) (drop from bs) ≡ drop from bs
slice_rest from bs = take_all (length bs - from) (drop from bs) (le_of_eq (length-drop from bs))

module _ (bs : List ℕ) (r : Reading) (read : ReadingIs bs (Ok r)) where
  pub read_part : take (length bs - r.length) (drop r.length bs) ≡ sheet_part bs
  unfolding sheet_part
  read_part = slice_rest r.length bs ∙ ap (λ (k : ℕ). drop k bs) read.accepted.long

  pub read_call : call_of r.book (take (length bs - r.length) (drop r.length bs)) ≡ call_in bs
  read_call =
      let number : sound_number r.book ≡ book_refusal bs = read.accepted.sound ∙ read.numbered in
      let book : book_of r.book ≡ book_in bs = read.accepted.means in
      λ i. record { refusal = number i; book = book i; part = read_part i }
