-- What a book that is a value means: the book of the definitions that its entries hold, whoever made them; and the number of the first
-- question that it fails. Entries past the counts, and hours past the kinds, are not looked at. Every contract over such a value speaks of
-- this file. Assumes nothing: these are definitions.
use Rattle.std.specs.Prelude.{not, cond, List, [], ℕ, min, eqb, get_or}
use Rattle.book.specs.Lists.{row}
use Rattle.book.specs.Book.{Kind, Bid, Book}
use Rattle.book.specs.Questions.{counts_ranged, entries_refusal}
use Rattle.book.specs.declared.value.Kind.{Kind as KindValue}
use Rattle.book.specs.declared.value.Book.{Book as Arrays}

-- what is read past the last kind
abbrev pub zero_kind : KindValue
zero_kind = record { supply = 0; reserve = 0 }

-- the kind that an entry holds
unfoldable pub kind_of : KindValue → Kind
kind_of x = record { supply = x.supply; reserve = x.reserve }

-- the status of the client at place c: withdrawn where its cap is 0, else standing
unfoldable pub status_held : (caps : List ℕ) → (c : ℕ) → ℕ
status_held cs c = cond (eqb (get_or cs c 0) 0) 1 0

-- the bid at place i, over k kinds
unfoldable pub bid_held : (k : ℕ) → (client : List ℕ) → (hours : List (List ℕ)) → (amount : List ℕ) → (i : ℕ) → Bid
bid_held k cs hs xs i =
    record { client = get_or cs i 0; hours = row k 0 (λ j. get_or (get_or hs i []) j 0); amount = get_or xs i 0 }

-- THE BOOK, with as many kinds, clients and bids as the counts say and the arrays have room for
unfoldable pub book_of : Arrays → Book
book_of v = record {
  kinds = row (min v.k 4) 0 (λ j. kind_of (get_or v.kinds j zero_kind));
  statuses = row (min v.n 6) 0 (status_held v.caps);
  bids = row (min v.m 48) 0 (bid_held (min v.k 4) v.client v.hours v.amount);
}

-- 2 where a count is out of its range, then questions 3 to 5; 0 where none is answered no
unfoldable pub sound_number : Arrays → ℕ
sound_number v = cond (not (counts_ranged v.k v.n v.m)) 2 (entries_refusal (book_of v))
