-- Inputs as bytes: that a book and a sheet apart are an input, and how much of an input needs to be read. Shown in proofs/Pairs.antt and
-- proofs/Cut.antt; cited by the program that prints prices, which reads no more. Assumes nothing: these are definitions.
use Rattle.std.specs.Prelude.{◌≡◌, List, ◌++◌, ℕ, ◌<◌, length, take}
use Rattle.book.specs.Layout.{book_long, book_in}
use Rattle.book.specs.Questions.{book_refusal}
use Rattle.demands.specs.Call.{call_in, input_refusal}
use Rattle.demands.specs.Answer.{answer_of}

-- A BOOK AND A SHEET APART. Behind a sound book that is just as long as it says, the input is the call of that book and of what follows
unfoldable pub PairsAreInputs : (bs ss : List ℕ) → Type 0
PairsAreInputs bs ss =
    book_refusal bs ≡ 0 → length bs ≡ book_long bs → call_in (bs ++ ss) ≡ record { refusal = 0; book = book_in bs; part = ss }

-- READING. A sound book has at most 456 bytes and a sheet 950 (proofs/Longest.antt): an input cut anywhere past that is answered alike
abbrev pub longest_call : ℕ
longest_call = 1406

pub record CutAlike (N : ℕ) (input : List ℕ) : Type 0 where
  pub number : input_refusal (take N input) ≡ input_refusal input
  pub answer : answer_of (call_in (take N input)) ≡ answer_of (call_in input)

unfoldable pub Cut : (N : ℕ) → (input : List ℕ) → Type 0
Cut N bs = longest_call < N → CutAlike N bs
