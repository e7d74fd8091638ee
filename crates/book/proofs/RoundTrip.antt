-- A book put into arrays and taken back out is the same book, where the arrays have room for it. Cited by Inside, Entered and Answering,
-- and for the layers above. Assumes nothing.
use mathlib.Core.Path.{◌≡◌, refl, ap, ◌∙◌}
use mathlib.Core.Bool.{true, cond, and-eq-true_iff}
use mathlib.Core.List.{List, []}
use Prim.Native.Nat.{ℕ, zero, suc, ◌+◌, ◌≤◌, ◌<◌, min}
use native.Mathlib.Omega.{arith}
use lib.Dec.{eqb}
use lib.ListN.{length, get_or}
use lib.Seq.{ext_get_or}
use borrow.Author.Tests.{leb-true}
use Rattle.sets.specs.Tables.{tabulate}
use Rattle.sets.proofs.Tables.{tabulate_at}
use Rattle.book.specs.Lists.{all, row}
use Rattle.book.specs.Book.{Kind, Bid, Book, no_bid, bid_at, clients}
use Rattle.book.specs.Questions.{kind_good, status_good, tables_good}
use Rattle.book.specs.Sound.{no_kind}
use Rattle.book.specs.Value.{zero_kind, kind_of, status_held, bid_held, book_of}
use Rattle.book.specs.Reading.{cap_of, kind_entry, hours_entry, arrays_of}
use Rattle.book.proofs.RowLaws.{row_length, row_at}
use Rattle.book.proofs.Soundness.{KindsEach}
use Rattle.book.proofs.Tests.{all_true}

-- k kinds, n clients and m bids have their places in the arrays
pub record Room (k n m : ℕ) : Type 0 where
  pub kinds : k ≤ 4
  pub clients : n ≤ 6
  pub bids : m ≤ 48

-- a list is the row of its entries, as something else gives them
same_row : {A : Type 0} (d : A) (xs : List A) (f : ℕ → A) → ((i : ℕ) → i < length xs → f i ≡ get_or xs i d) → row (length xs) 0 f ≡ xs
same_row d xs f h =
    ext_get_or d (row (length xs) 0 f) xs (row_length (length xs) 0 f) (λ i l.
    let k : i < length xs = omega (arith, row_length (length xs) 0 f) in
    row_at (length xs) 0 f i d k ∙ ap f (omega arith) ∙ h i k)

pub kinds_back : (ks : List Kind) → length ks ≤ 4
    → row (length ks) 0 (λ j. kind_of (get_or (row 4 0 (λ j. kind_entry (get_or ks j no_kind))) j zero_kind)) ≡ ks
unfolding kind_of kind_entry
kinds_back ks l =
    same_row no_kind ks _ (λ i k.
    let here : 0 + i ≡ i = omega arith in
    rw (row_at 4 0 (λ j. kind_entry (get_or ks j no_kind)) i zero_kind (omega arith), here))

-- a status of 0 or 1 by its cap
status_back : (s : ℕ) → s ≤ 1 → cond (eqb (cond (eqb s 0) 65535 0) 0) 1 0 ≡ s
status_back zero l = refl
status_back (suc zero) l = refl
status_back (suc (suc s)) l = absurd (omega arith)

pub statuses_back : (ss : List ℕ) → length ss ≤ 6 → all status_good ss ≡ true
    → row (length ss) 0 (status_held (tabulate 6 (cap_of ss))) ≡ ss
unfolding status_held status_good cap_of
statuses_back ss l h =
    same_row 1 ss _ (λ i k.
    rw (tabulate_at 6 (cap_of ss) i 0 (omega arith)) (status_back (get_or ss i 1) (leb-true _ _ (all_true status_good 1 ss h i k))))

-- the hours of a bid over k kinds
hours_back : (hs : List ℕ) (k : ℕ) → length hs ≡ k → k ≤ 4 → row k 0 (λ j. get_or (hours_entry hs) j 0) ≡ hs
unfolding hours_entry
hours_back hs k e l = rw (← e) (same_row 0 hs _ (λ j h. tabulate_at 4 (λ j. get_or hs j 0) j 0 (omega arith)))

module _ (k : ℕ) (xs : List Bid) (lk : k ≤ 4) (lm : length xs ≤ 48)
    (each : (i : ℕ) → i < length xs → length (get_or xs i no_bid).hours ≡ k) where
  pub bids_back : row (length xs) 0 (bid_held k (tabulate 48 (λ i. (get_or xs i no_bid).client))
      (row 48 0 (λ i. hours_entry (get_or xs i no_bid).hours)) (tabulate 48 (λ i. (get_or xs i no_bid).amount))) ≡ xs
  unfolding bid_held
  bids_back =
      same_row no_bid xs _ (λ i l.
      let here : 0 + i ≡ i = omega arith in
      rw (
        tabulate_at 48 (λ i. (get_or xs i no_bid).client) i 0 (omega arith),
        row_at 48 0 (λ i. hours_entry (get_or xs i no_bid).hours) i [] (omega arith),
        here,
        hours_back (get_or xs i no_bid).hours k (each i l) lk,
        tabulate_at 48 (λ i. (get_or xs i no_bid).amount) i 0 (omega arith),
      ))

pub each_place : (b : Book) → KindsEach b → (i : ℕ) → i < length b.bids → length (get_or b.bids i no_bid).hours ≡ length b.kinds
unfolding bid_at
each_place b each i l = each (suc i) (omega arith) l

module _ (b : Book) (r : Room (length b.kinds) (clients b) (length b.bids)) (each : KindsEach b) where
  pub arrays_back : tables_good b ≡ true → book_of (arrays_of b) ≡ b
  unfolding book_of arrays_of clients tables_good
  arrays_back h =
      let k : min (length b.kinds) 4 ≡ length b.kinds = omega (arith, r.kinds) in
      let n : min (length b.statuses) 6 ≡ length b.statuses = omega (arith, r.clients) in
      let m : min (length b.bids) 48 ≡ length b.bids = omega (arith, r.bids) in
      let statuses = ((and-eq-true_iff (all kind_good b.kinds) _).0 h).1 in
      rw (
        k,
        n,
        m,
        kinds_back b.kinds r.kinds,
        statuses_back b.statuses r.clients statuses,
        bids_back (length b.kinds) b.bids r.kinds r.bids (each_place b each),
      )
