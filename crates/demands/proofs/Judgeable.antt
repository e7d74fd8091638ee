-- Calls that can be judged: their number is one of questions 1 to 5, and where none of these is answered no the book is sound. Such are
-- the calls of inputs and of books that are values. Cited by the demands and by the judging layer. Assumes nothing.
use mathlib.Core.Path.{◌≡◌}
use mathlib.Core.Bool.{Bool, true, false, not, cond}
use mathlib.Core.List.{List}
use Prim.Native.Nat.{ℕ, ◌≤◌}
use native.Mathlib.Omega.{arith}
use Rattle.book.specs.Book.{Book}
use Rattle.book.specs.Layout.{book_in}
use Rattle.book.specs.Questions.{version_good, counts_good, counts_ranged, tables_good, bids_good, amounts_good}
use Rattle.book.specs.Questions.{entries_refusal, book_refusal}
use Rattle.book.specs.Value.{book_of, sound_number}
use Rattle.book.specs.Sound.{Sound, Shaped}
use Rattle.book.specs.declared.value.Book.{Book as Arrays}
use Rattle.book.proofs.Soundness.{shaped_each}
use Rattle.book.proofs.SoundRead.{sound_in}
use Rattle.book.proofs.Held.{sound_held}
use Rattle.demands.specs.Call.{Call, call_in, call_of}

pub record Judgeable (c : Call) : Type 0 where
  pub few : c.refusal ≤ 5
  pub sound : c.refusal ≡ 0 → Sound c.book

-- what is asked of its book by the laws on combinations
pub judgeable_shaped : (c : Call) → Judgeable c → c.refusal ≡ 0 → Shaped c.book
judgeable_shaped c j e = shaped_each c.book (j.sound e).kinds_each

-- a question before others
ask_first : (t : Bool) (k n : ℕ) → k ≤ 5 → n ≤ 5 → cond (not t) k n ≤ 5
ask_first true k n l m = m
ask_first false k n l m = l

entries_most : (b : Book) → entries_refusal b ≤ 5
unfolding entries_refusal
entries_most b =
    ask_first (tables_good b) 3 _ (omega arith)
    (ask_first (bids_good b) 4 _ (omega arith) (ask_first (amounts_good b) 5 0 (omega arith) (omega arith)))

pub input_judgeable : (bs : List ℕ) → Judgeable (call_in bs)
unfolding book_refusal
input_judgeable bs = record {
  few =
      ask_first (version_good bs) 1 _ (omega arith)
      (ask_first (counts_good bs) 2 _ (omega arith) (entries_most (book_in bs)));
  sound = sound_in bs;
}

pub value_judgeable : (v : Arrays) (ss : List ℕ) → Judgeable (call_of v ss)
unfolding sound_number
value_judgeable v ss = record {
  few = ask_first (counts_ranged v.k v.n v.m) 2 _ (omega arith) (entries_most (book_of v));
  sound = sound_held v;
}
