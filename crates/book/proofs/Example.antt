-- What reading a book promises, and what a book that is a value means, computed: the book of the worked call A, which has three clients and
-- three bids, no bytes at all, and values that the questions refuse. Nothing cites it. Assumes nothing.
use mathlib.Core.Path.{◌≡◌, refl, ◌∙◌}
use mathlib.Core.List.{List, [], ◌∷◌, ◌++◌, map}
use Prim.Native.Nat.{ℕ}
use native.Mathlib.Omega.{arith}
use lib.ListN.{replicate}
use Rattle.std.specs.Prelude.{Result, Ok, Err}
use Rattle.questions.specs.Numbers.{OneNumberEach}
use Rattle.questions.specs.declared.Question.{Question}
use Rattle.questions.specs.declared.Question.TheVariants.{Version}
use Rattle.questions.proofs.Numbers.{one_number_each, number_range}
use Rattle.sets.specs.Tables.{tabulate}
use Rattle.book.specs.Bytes.{field, bytes_at}
use Rattle.book.specs.Lists.{within, all, count, row, all_to, total}
use Rattle.book.specs.Book.{clients, no_bid, reserves_of}
use Rattle.book.specs.Layout.{book_long, k_of, n_of, m_of, statuses_from, bids_from, kind_here, kinds_in, bid_here, bids_in, book_in}
use Rattle.book.specs.Questions.{version_good, book_formula, counts_ranged, counts_good, kind_good, status_good, tables_good}
use Rattle.book.specs.Questions.{bid_good, bids_of, few_bids, bids_good, reserves_met, amounts_good, entries_refusal, book_refusal}
use Rattle.book.specs.Sound.{no_kind}
use Rattle.book.specs.Value.{kind_of, status_held, bid_held, book_of, sound_number}
use Rattle.book.specs.Reading.{cap_of, kind_entry, hours_entry, arrays_of, ReadingIs}
use Rattle.book.specs.declared.value.Kind.{Kind as KindValue}
use Rattle.book.specs.declared.value.Book.{Book as Arrays}
use Rattle.book.specs.declared.reading.Reading.{Reading}

-- what a book computes with
unfoldable computed : Unit {0}
unfolding tabulate field bytes_at within all count row all_to total clients no_bid reserves_of book_long k_of n_of m_of statuses_from
    bids_from kind_here kinds_in bid_here bids_in book_in version_good book_formula counts_ranged counts_good kind_good status_good
    tables_good bid_good bids_of few_bids bids_good reserves_met amounts_good entries_refusal book_refusal no_kind kind_of status_held
    bid_held book_of sound_number cap_of kind_entry hours_entry arrays_of
computed = tt

-- THE BOOK, by its bytes and in arrays: one kind, with two hours at 10; client 3 stands where its status is 0
abbrev bytes : (third_status : ℕ) → List ℕ
bytes third =
    (1 ∷ 0 ∷ 30 ∷ 1 ∷ 2 ∷ 0 ∷ 10 ∷ 3 ∷ 0 ∷ 0 ∷ third ∷ 3 ∷ [])
    ++ (1 ∷ 1 ∷ 0 ∷ 0 ∷ 0 ∷ 60 ∷ []) ++ (2 ∷ 1 ∷ 0 ∷ 0 ∷ 0 ∷ 50 ∷ []) ++ (3 ∷ 2 ∷ 0 ∷ 0 ∷ 0 ∷ 70 ∷ [])

abbrev kind : (supply reserve : ℕ) → KindValue
kind supply reserve = record { supply = supply; reserve = reserve }

abbrev arrays : (k supply third_cap amount : ℕ) → Arrays
arrays k supply cap amount = record {
  k = k;
  kinds = kind supply 10 ∷ replicate 3 (kind 0 0);
  n = 3;
  caps = 65535 ∷ 65535 ∷ cap ∷ replicate 3 0;
  m = 3;
  client = 1 ∷ 2 ∷ 3 ∷ replicate 45 0;
  hours = (1 ∷ replicate 3 0) ∷ (1 ∷ replicate 3 0) ∷ (2 ∷ replicate 3 0) ∷ replicate 45 (replicate 4 0);
  amount = 60 ∷ 50 ∷ amount ∷ replicate 45 0;
}

abbrev zero_arrays : Arrays
zero_arrays = record {
  k = 0;
  kinds = replicate 4 (kind 0 0);
  n = 0;
  caps = replicate 6 0;
  m = 0;
  client = replicate 48 0;
  hours = replicate 48 (replicate 4 0);
  amount = replicate 48 0;
}

-- READ: every field, of client 3 standing and withdrawn; and no bytes are refused with question 1
abbrev of_thirty : (third_cap : ℕ) → Reading
of_thirty third = record { length = 30; book = arrays 1 2 third 70 }

same_reading : (r s : Reading) → r.length ≡ s.length → r.book ≡ s.book → r ≡ s
same_reading r s long book = λ i. record { length = long i; book = book i }

-- an answer with the number 0 is the reading that it promises
is_reading : (bs : List ℕ) (r : Result Reading Question) (s : Reading) → ReadingIs bs r → book_refusal bs ≡ 0 → book_long bs ≡ s.length
    → arrays_of (book_in bs) ≡ s.book → r ≡ Ok s
is_reading bs (Ok x) s read zero long book =
    let e : x ≡ s = same_reading x s (read.accepted.long ∙ long) (read.accepted.held ∙ book) in
    rw e
is_reading bs (Err q) s read zero long book = absurd (omega (arith, read.numbered, number_range q))

read_standing : (r : Result Reading Question) → ReadingIs (bytes 0) r → r ≡ Ok (of_thirty 65535)
unfolding computed
read_standing r read = is_reading (bytes 0) r (of_thirty 65535) read refl refl refl

read_withdrawn : (r : Result Reading Question) → ReadingIs (bytes 1) r → r ≡ Ok (of_thirty 0)
unfolding computed
read_withdrawn r read = is_reading (bytes 1) r (of_thirty 0) read refl refl refl

read_nothing : (r : Result Reading Question) → ReadingIs [] r → r ≡ Err Version
unfolding computed OneNumberEach
read_nothing (Ok x) read = absurd (omega (arith, read.numbered))
read_nothing (Err q) read = rw (one_number_each q Version read.numbered)

-- MEANT: any cap but 0 is standing
meant : book_of (arrays 1 2 1 70) ≡ book_in (bytes 0)
unfolding computed
meant = refl

-- REFUSED: a count before a supply, a supply before an amount of 0, that before one under its reserves
refused :
    map sound_number (arrays 1 200 0 20 ∷ arrays 1 200 0 19 ∷ arrays 1 200 0 0 ∷ arrays 1 201 0 0 ∷ arrays 5 201 0 0 ∷ zero_arrays ∷ [])
    ≡ 0 ∷ 5 ∷ 4 ∷ 3 ∷ 2 ∷ 2 ∷ []
unfolding computed
refused = refl

-- an hour of a kind that the book does not have adds nothing to the reserves
past_kinds : reserves_of (2 ∷ 3 ∷ []) (record { supply = 2; reserve = 10 } ∷ []) ≡ 20
unfolding computed
past_kinds = refl
