-- The printed text is that of what was read, and of all that there was to read: where there is more than there was room for, the rest
-- changes nothing, and else all of it was read. Assumes nothing.
use Rattle.std.proofs.Common.{◌≡◌, ℕ, ◌<◌, ◌≤◌, List, Option, None, Some, Result, Ok, Err, IfSome, OnOk, ◌++◌, length, take, ap, ◌∙◌}
use Rattle.std.proofs.Common.{[], ⊎_elim, append-nil, arith, length-take-le}
use Rattle.std.proofs.lemmas.Bool.{cases_lt}
use Rattle.std.proofs.Math.Seq.{take-append_seam}
use Rattle.std.specs.Io.KnownBytes.{Consumes, IsAtEnd}
use Rattle.text.specs.declared.Text.{Text}
use Rattle.listing.specs.Listing.{Listed}
use Rattle.listing.specs.Readings.{ReadFrom, ListedRead}
use Rattle.listing.proofs.Readings.{read_some}
use Rattle.price_list.proofs.answer.Goals as goal

-- what was read is an input that it can have been read from
own : (read : List ℕ) (room : ℕ) (t : Text) → ListedRead room read t → Listed read t
unfolding ListedRead
own read room t listed = listed read (read_some room read)

-- and so is all that there was
read_from : (input more read : List ℕ) (room : ℕ) → input ≡ read ++ more → (length read < room → more ≡ [])
    → ReadFrom input room read
read_from input more read room parts end = record {
  begins = ap (take (length read)) parts ∙ take-append_seam read more;
  longer_if_full = λ longer. ⊎_elim
      (λ (short : length read < room).
      let all : input ≡ read = parts ∙ ap (λ xs. read ++ xs) (end short) ∙ append-nil read in absurd (omega (arith, longer, ap length all)))
      (λ (full : room ≤ length read). full)
      (cases_lt (length read) room);
}

whole : (old new : Option (List ℕ)) (read : List ℕ) (room : ℕ) (t : Text) → Consumes old new read → (length read < room → IsAtEnd new)
    → ListedRead room read t → IfSome old (λ input. Listed input t)
unfolding ListedRead
whole None new read room t lost end listed = tt
whole (Some input) None read room t lost end listed = absurd lost
whole (Some input) (Some more) read room t lost end listed = listed input (read_from input more read room lost end)

whole_if_ok : {A E : Type 0} (r : Result A E) {P Q : Type 0} → OnOk r P → (P → Q) → OnOk r Q
whole_if_ok (Ok a) p f = f p
whole_if_ok (Err e) p f = tt

pub returns-clause-read : goal.returns-clause-read
returns-clause-read g c = (_, c.read_full-filled.ensures.bytes, own _ _ _ c.price_list_of-list.ensures)

pub returns-clause-whole : goal.returns-clause-whole
returns-clause-whole g c =
    let filled = c.read_full-filled.ensures in
    let listed = c.price_list_of-list.ensures in
    whole_if_ok c.read_full-filled.result.end filled.all
    (λ end. whole _ _ _ _ _ filled.bytes (λ short. end (omega (arith, short, length-take-le _ _ filled.within))) listed)
