-- Questions 1 to 5, put to the bytes of a book in their order, and the number of the first 'no' (FORMAT, "Questions"). A book with
-- refusal 0 is sound. Assumes nothing: these are definitions.
use Rattle.std.specs.Prelude.{Bool, ◌&&◌, not, cond, List, ℕ, ◌+◌, ◌*◌, leb, ltb, eqb, length}
use Rattle.book.specs.Bytes.{byte}
use Rattle.book.specs.Lists.{within, all, all_to, count, total}
use Rattle.book.specs.Book.{Kind, Bid, Book, clients, reserves_of}
use Rattle.book.specs.Layout.{book_long, k_of, n_of, m_of, book_in}

-- 1. three bytes, of which the first is the version
unfoldable pub version_good : List ℕ → Bool
version_good bs = leb 3 (length bs) && eqb (byte 0 bs) 1

-- the length of a book with K kinds, n clients and m bids
unfoldable pub book_formula : (K n m : ℕ) → ℕ
book_formula k n m = 6 + 3 * k + n + m * (k + 5)

-- each count is in its range
unfoldable pub counts_ranged : (K n m : ℕ) → Bool
counts_ranged k n m = within 1 k 4 && (within 1 n 6 && leb m 48)

-- 2. the bytes that the length counts are there; m, and so K and n before it, stands inside them; each count is in its range; and the
-- length is the formula's
unfoldable pub counts_good : List ℕ → Bool
counts_good bs =
    (leb (book_long bs) (length bs) && ltb (5 + 3 * k_of bs + n_of bs) (book_long bs))
    && (counts_ranged (k_of bs) (n_of bs) (m_of bs) && eqb (book_long bs) (book_formula (k_of bs) (n_of bs) (m_of bs)))

-- 3. each supply, reserve and status
unfoldable pub kind_good : Kind → Bool
kind_good k = leb k.supply 200 && leb k.reserve 10000

unfoldable pub status_good : ℕ → Bool
status_good s = leb s 1

unfoldable pub tables_good : Book → Bool
tables_good b = all kind_good b.kinds && all status_good b.statuses

-- 4. each bid, of a withdrawn client too: its client is 1 to n, it asks for an hour, its amount is in range; no client has over eight
unfoldable pub bid_good : (n : ℕ) → Bid → Bool
bid_good n x = within 1 x.client n && (leb 1 (total x.hours) && within 1 x.amount 1000000)

unfoldable pub bids_of : (client : ℕ) → List Bid → ℕ
bids_of c xs = count (λ x. eqb x.client c) xs

unfoldable pub few_bids : List Bid → (client : ℕ) → Bool
few_bids xs c = leb (bids_of c xs) 8

unfoldable pub bids_good : Book → Bool
bids_good b = all (bid_good (clients b)) b.bids && all_to (clients b) (few_bids b.bids)

-- 5. each amount is at least the reserves of its hours
unfoldable pub reserves_met : List Kind → Bid → Bool
reserves_met ks x = leb (reserves_of x.hours ks) x.amount

unfoldable pub amounts_good : Book → Bool
amounts_good b = all (reserves_met b.kinds) b.bids

-- the number of the first of questions 3 to 5, which look at the book alone, that is answered no; 0 where none is
unfoldable pub entries_refusal : Book → ℕ
entries_refusal b = cond (not (tables_good b)) 3 (cond (not (bids_good b)) 4 (cond (not (amounts_good b)) 5 0))

-- the number of the first question that is answered no; 0 where none is
unfoldable pub book_refusal : List ℕ → ℕ
book_refusal bs = cond (not (version_good bs)) 1 (cond (not (counts_good bs)) 2 (entries_refusal (book_in bs)))
