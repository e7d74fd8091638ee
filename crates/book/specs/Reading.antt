-- What reading a book answers (FORMAT, "Book"): questions 1 to 5, then the book as a value. The contract of `read`. Assumes nothing: these
-- are definitions.
use Rattle.std.specs.Prelude.{◌≡◌, cond, List, ℕ, ◌≤◌, Result, IfOk, eqb, length, get_or}
use Rattle.sets.specs.Tables.{tabulate}
use Rattle.questions.specs.Numbers.{number_in}
use Rattle.questions.specs.declared.Question.{Question}
use Rattle.book.specs.Lists.{row}
use Rattle.book.specs.Book.{Kind, Book, no_bid, clients}
use Rattle.book.specs.Layout.{book_long, book_in}
use Rattle.book.specs.Questions.{book_refusal}
use Rattle.book.specs.Sound.{no_kind}
use Rattle.book.specs.Value.{book_of, sound_number}
use Rattle.book.specs.declared.value.Kind.{Kind as KindValue}
use Rattle.book.specs.declared.value.Book.{Book as Arrays}
use Rattle.book.specs.declared.reading.Reading.{Reading}

-- the cap of the client at place c: 65,535 where its status is 0, which is standing; else, and past the last client, 0
unfoldable pub cap_of : (statuses : List ℕ) → (c : ℕ) → ℕ
cap_of ss c = cond (eqb (get_or ss c 1) 0) 65535 0

-- a kind as an entry
unfoldable pub kind_entry : Kind → KindValue
kind_entry x = record { supply = x.supply; reserve = x.reserve }

-- four hours, with 0 past those that there are
unfoldable pub hours_entry : List ℕ → List ℕ
hours_entry hs = tabulate 4 (λ j. get_or hs j 0)

-- a book's entries in their places, and zeros past them
unfoldable pub arrays_of : Book → Arrays
arrays_of b = record {
  k = length b.kinds;
  kinds = row 4 0 (λ j. kind_entry (get_or b.kinds j no_kind));
  n = clients b;
  caps = tabulate 6 (cap_of b.statuses);
  m = length b.bids;
  client = tabulate 48 (λ i. (get_or b.bids i no_bid).client);
  hours = row 48 0 (λ i. hours_entry (get_or b.bids i no_bid).hours);
  amount = tabulate 48 (λ i. (get_or b.bids i no_bid).amount);
}

-- what a reading says where every question is answered yes
pub record Accepted (bs : List ℕ) (r : Reading) : Type 0 where
  -- the length that the book gives itself, and the book's entries
  pub long : r.length ≡ book_long bs
  pub held : r.book ≡ arrays_of (book_in bs)
  -- the book ends inside the bytes
  pub inside : r.length ≤ length bs
  -- the value means the book that the bytes hold, and it is sound
  pub means : book_of r.book ≡ book_in bs
  pub sound : sound_number r.book ≡ 0

-- the first question that is answered no, or else the reading
pub record ReadingIs (bs : List ℕ) (r : Result Reading Question) : Type 0 where
  pub numbered : number_in r ≡ book_refusal bs
  pub accepted : IfOk r (Accepted bs)
