-- Where a book's fields stand in its bytes, and the book that they hold (FORMAT, "Book"). Total: any bytes read as some book, and the
-- questions say whether it is sound. Assumes nothing: these are definitions.
use Rattle.std.specs.Prelude.{List, [], ◌∷◌, ℕ, zero, suc, ◌+◌, ◌*◌}
use Rattle.book.specs.Bytes.{byte, field, bytes_at}
use Rattle.book.specs.Book.{Kind, Bid, Book}

-- the length that the book gives itself
unfoldable pub book_long : List ℕ → ℕ
book_long bs = field 1 2 bs

-- K, the number of kinds; n, of clients; m, of bids
unfoldable pub k_of : List ℕ → ℕ
k_of bs = byte 3 bs

unfoldable pub n_of : List ℕ → ℕ
n_of bs = byte (4 + 3 * k_of bs) bs

unfoldable pub m_of : List ℕ → ℕ
m_of bs = byte (5 + 3 * k_of bs + n_of bs) bs

-- where the first status and the first bid stand
unfoldable pub statuses_from : List ℕ → ℕ
statuses_from bs = 5 + 3 * k_of bs

unfoldable pub bids_from : List ℕ → ℕ
bids_from bs = 6 + 3 * k_of bs + n_of bs

-- the kind at a place: supply, then reserve in 16 bits
unfoldable pub kind_here : (at : ℕ) → List ℕ → Kind
kind_here at bs = record { supply = byte at bs; reserve = field (at + 1) 2 bs }

unfoldable pub kinds_in : (left at : ℕ) → List ℕ → List Kind
kinds_in zero at bs = []
kinds_in (suc t) at bs = kind_here at bs ∷ kinds_in t (at + 3) bs

-- the bid at a place: client, hours of each of k kinds, then amount in 32 bits
unfoldable pub bid_here : (k at : ℕ) → List ℕ → Bid
bid_here k at bs = record { client = byte at bs; hours = bytes_at k (at + 1) bs; amount = field (at + (k + 1)) 4 bs }

unfoldable pub bids_in : (left k at : ℕ) → List ℕ → List Bid
bids_in zero k at bs = []
bids_in (suc t) k at bs = bid_here k at bs ∷ bids_in t k (at + (k + 5)) bs

unfoldable pub book_in : List ℕ → Book
book_in bs = record {
  kinds = kinds_in (k_of bs) 4 bs;
  statuses = bytes_at (n_of bs) (statuses_from bs) bs;
  bids = bids_in (m_of bs) (k_of bs) (bids_from bs) bs;
}
