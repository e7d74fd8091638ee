-- A book whose counts are in range and that questions 3 to 5 do not refuse is sound, whether it was read from bytes or is a value; and a
-- sound book is just such a one, but for its statuses. Cited by the layers above. Assumes nothing.
use mathlib.Core.Path.{◌≡◌, refl, ap₂}
use mathlib.Core.Bool.{Bool, true, false, ◌&&◌, not, cond, and-eq-true_iff}
use Prim.Native.Nat.{ℕ, zero, suc, ◌≤◌, ◌<◌}
use native.Mathlib.Nat.{le_of_eq}
use native.Mathlib.Decide.{dec_lt}
use native.Mathlib.Omega.{arith}
use lib.Dec.{leb}
use lib.ListN.{length, get_or, get_or-eq_default}
use borrow.Author.Tests.{leb-true, le-leb}
use Rattle.book.specs.Lists.{within, all, total}
use Rattle.book.specs.Book.{Bid, Book, no_bid, bid_at, client_of, clients}
use Rattle.book.specs.Questions.{
  counts_ranged,
  kind_good,
  status_good,
  tables_good,
  bid_good,
  few_bids,
  bids_good,
  reserves_met,
  amounts_good,
  entries_refusal,
}
use Rattle.book.specs.Sound.{no_kind, Sound, Shaped}
use Rattle.book.proofs.Tests.{within_true, true_within, all_true, true_all, all_to_true, true_all_to}

-- counts in their ranges
pub record Counted (k n m : ℕ) : Type 0 where
  pub k_low : 1 ≤ k
  pub k_high : k ≤ 4
  pub n_low : 1 ≤ n
  pub n_high : n ≤ 6
  pub m_high : m ≤ 48

pub counted : (k n m : ℕ) → counts_ranged k n m ≡ true → Counted k n m
unfolding counts_ranged
counted k n m h =
    let p = (and-eq-true_iff (within 1 k 4) _).0 h in
    let q = (and-eq-true_iff (within 1 n 6) _).0 p.1 in
    let kinds = within_true 1 k 4 p.0 in
    let clients = within_true 1 n 6 q.0 in
    record { k_low = kinds.0; k_high = kinds.1; n_low = clients.0; n_high = clients.1; m_high = leb-true _ _ q.1 }

-- three questions in a row, of which none is answered no
record Three (a b c : Bool) : Type 0 where
  pub three : a ≡ true
  pub four : b ≡ true
  pub five : c ≡ true

three_yes : (a b c : Bool) → ◌≡◌ {A = ℕ} (cond (not a) 3 (cond (not b) 4 (cond (not c) 5 0))) 0 → Three a b c
three_yes true true true h = record { three = refl; four = refl; five = refl }
three_yes true true false h = absurd (omega arith)
three_yes true false c h = absurd (omega arith)
three_yes false b c h = absurd (omega arith)

questions : (b : Book) → entries_refusal b ≡ 0 → Three (tables_good b) (bids_good b) (amounts_good b)
unfolding entries_refusal
questions b h = three_yes _ _ _ h

-- a test of every bid is one of each number from 1 to m
numbered : (b : Book) (p : Bid → Bool) → all p b.bids ≡ true → (i : ℕ) → 1 ≤ i → i ≤ length b.bids → p (bid_at b i) ≡ true
unfolding bid_at
numbered b p h zero l k = absurd (omega arith)
numbered b p h (suc i) l k = all_true p no_bid b.bids h i k

record BidFacts (n : ℕ) (x : Bid) : Type 0 where
  pub client : (1 ≤ x.client) × (x.client ≤ n)
  pub hours : 1 ≤ total x.hours
  pub amount : (1 ≤ x.amount) × (x.amount ≤ 1000000)

bid_facts : (n : ℕ) (x : Bid) → bid_good n x ≡ true → BidFacts n x
unfolding bid_good
bid_facts n x h =
    let p = (and-eq-true_iff (within 1 x.client n) _).0 h in
    let q = (and-eq-true_iff (leb 1 (total x.hours)) _).0 p.1 in
    record { client = within_true 1 x.client n p.0; hours = leb-true _ _ q.0; amount = within_true 1 x.amount 1000000 q.1 }

-- each bid asks of each kind
abbrev pub KindsEach : Book → Type 0
KindsEach b = (i : ℕ) → 1 ≤ i → i ≤ length b.bids → length (bid_at b i).hours ≡ length b.kinds

pub shaped_each : (b : Book) → KindsEach b → Shaped b
unfolding bid_at no_bid
shaped_each b e zero = omega arith
shaped_each b e (suc i) = elim (dec_lt i (length b.bids)) [
  | yes l ↦ le_of_eq (e (suc i) (omega arith) l)
  | no l ↦ rw (get_or-eq_default b.bids no_bid {n = i} (omega arith)) (omega arith)
]

pub sound_shaped : (b : Book) → Sound b → Shaped b
sound_shaped b s = shaped_each b s.kinds_each

pub sound_book : (b : Book) → Counted (length b.kinds) (clients b) (length b.bids) → KindsEach b → entries_refusal b ≡ 0 → Sound b
unfolding tables_good bids_good amounts_good kind_good few_bids reserves_met client_of
sound_book b c e h =
    let q = questions b h in
    let kinds = ((and-eq-true_iff (all kind_good b.kinds) _).0 q.three).0 in
    let four = (and-eq-true_iff (all (bid_good (clients b)) b.bids) _).0 q.four in
    let kind : (k : ℕ) → k < length b.kinds → kind_good (get_or b.kinds k no_kind) ≡ true
    = λ k l. all_true kind_good no_kind b.kinds kinds k l in
    let bid : (i : ℕ) → 1 ≤ i → i ≤ length b.bids → BidFacts (clients b) (bid_at b i)
    = λ i l k. bid_facts (clients b) (bid_at b i) (numbered b (bid_good (clients b)) four.0 i l k) in
    record {
      k_low = c.k_low;
      k_high = c.k_high;
      n_low = c.n_low;
      n_high = c.n_high;
      m_high = c.m_high;
      supply = λ k l. leb-true _ _ ((and-eq-true_iff (leb (get_or b.kinds k no_kind).supply 200) _).0 (kind k l)).0;
      reserve = λ k l. leb-true _ _ ((and-eq-true_iff (leb (get_or b.kinds k no_kind).supply 200) _).0 (kind k l)).1;
      client_low = λ i l k. (bid i l k).client.0;
      client_high = λ i l k. (bid i l k).client.1;
      hours = λ i l k. (bid i l k).hours;
      amount_low = λ i l k. (bid i l k).amount.0;
      amount_high = λ i l k. (bid i l k).amount.1;
      eight = λ c l k. leb-true _ _ (all_to_true (few_bids b.bids) (clients b) four.1 c l k);
      reserves = λ i l k. leb-true _ _ (numbered b (reserves_met b.kinds) q.five i l k);
      kinds_each = e;
    }

-- SOUND SAYS NO LESS: the counts are in range, and questions 3 to 5 have nothing to say but of the statuses
module _ (b : Book) (s : Sound b) where
  pub sound_ranged : counts_ranged (length b.kinds) (clients b) (length b.bids) ≡ true
  unfolding counts_ranged
  sound_ranged =
      ap₂ ◌&&◌ (true_within 1 _ 4 s.k_low s.k_high) (ap₂ ◌&&◌ (true_within 1 _ 6 s.n_low s.n_high) (le-leb _ 48 s.m_high))

  pub sound_unrefused : all status_good b.statuses ≡ true → entries_refusal b ≡ 0
  unfolding entries_refusal tables_good bids_good amounts_good kind_good bid_good few_bids reserves_met client_of bid_at
  sound_unrefused statuses =
      let first : (i : ℕ) → 1 ≤ suc i = λ i. omega arith in
      let kinds = true_all kind_good no_kind b.kinds (λ k l.
      ap₂ ◌&&◌ (le-leb _ 200 (s.supply k l)) (le-leb _ 10000 (s.reserve k l))) in
      let bids = true_all (bid_good (clients b)) no_bid b.bids (λ i l.
      ap₂ ◌&&◌ (true_within 1 _ _ (s.client_low (suc i) (first i) l) (s.client_high (suc i) (first i) l))
      (ap₂ ◌&&◌ (le-leb 1 _ (s.hours (suc i) (first i) l))
      (true_within 1 _ 1000000 (s.amount_low (suc i) (first i) l) (s.amount_high (suc i) (first i) l)))) in
      let few = true_all_to (few_bids b.bids) (clients b) (λ c l k. le-leb _ 8 (s.eight c l k)) in
      let amounts = true_all (reserves_met b.kinds) no_bid b.bids (λ i l. le-leb _ _ (s.reserves (suc i) (first i) l)) in
      rw (kinds, statuses, bids, few, amounts)
