-- Questions 3 to 5 one after the other, and of a book that is a value: its statuses are always good. Cited by the proofs of src/value.rt
-- and by Answering. Assumes nothing.
use mathlib.Core.Path.{◌≡◌, refl, ap₂}
use mathlib.Core.Bool.{Bool, true, false, ◌&&◌, not, cond, and-true}
use mathlib.Core.List.{List}
use Prim.Native.Nat.{ℕ, zero, suc, ◌+◌, min}
use lib.Dec.{eqb}
use lib.ListN.{get_or}
use Rattle.book.specs.Lists.{all, row}
use Rattle.book.specs.Book.{Book, clients}
use Rattle.book.specs.Questions.{kind_good, status_good, tables_good, bids_good, amounts_good, entries_refusal}
use Rattle.book.specs.Value.{status_held, book_of}
use Rattle.book.specs.Room.{bids_refusal}
use Rattle.book.specs.declared.value.Book.{Book as Arrays}

-- question 3, then the two that look at bids
pub entries_staged : (b : Book) → entries_refusal b ≡ cond (not (tables_good b)) 3 (bids_refusal (clients b) b.kinds b.bids)
unfolding entries_refusal bids_good amounts_good bids_refusal
entries_staged b = refl

status_held_good : (out : Bool) → status_good (cond out 1 0) ≡ true
unfolding status_good
status_held_good true = refl
status_held_good false = refl

statuses_held_good : (cs : List ℕ) (t i : ℕ) → all status_good (row t i (status_held cs)) ≡ true
unfolding all row status_held
statuses_held_good cs zero i = refl
statuses_held_good cs (suc t) i = ap₂ ◌&&◌ (status_held_good (eqb (get_or cs i 0) 0)) (statuses_held_good cs t (i + 1))

-- question 3, of the kinds alone, then the two that look at bids
pub entries_held : (v : Arrays) → let b = book_of v in
    entries_refusal b ≡ cond (not (all kind_good b.kinds)) 3 (bids_refusal (clients b) b.kinds b.bids)
unfolding tables_good book_of
entries_held v = rw (entries_staged (book_of v), statuses_held_good v.caps (min v.n 6) 0, and-true)
