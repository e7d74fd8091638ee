-- The auction that a book and its winners make: allocations are the combinations, a winner gets what its client's bid in a combination
-- offers, and without a set of winners the greatest value is that without their clients. Cited by the laws of lowered bids.
-- Assumes nothing.
use mathlib.Core.Path.{◌≡◌, refl, sym, ap, ◌∙◌}
use mathlib.Core.Bool.{Bool, true, false, cond}
use mathlib.Core.List.{List}
use Prim.Native.Nat.{ℕ, zero, suc, ◌+◌, ◌≤◌, ◌<◌}
use native.Mathlib.Nat.{le_trans, le_of_eq}
use native.Mathlib.Omega.{arith}
use lib.ListN.{length}
use Rattle.sets.specs.Sums.{sum}
use Rattle.sets.specs.Sets.{has}
use Rattle.sets.proofs.Sums.{sum_ext}
use Rattle.market.specs.Combination as Market·
use Rattle.market.specs.Vector.{entry, bid_of}
use Rattle.market.proofs.Bools.{cond_false}
use Rattle.pricing.specs.Auction.{Auction}
use Rattle.book.specs.Book.{Book, client_of, clients, supplies}
use Rattle.book.specs.Sound.{Shaped}
use Rattle.winners.specs.Combinations.{market, amount_of, Combination}
use Rattle.winners.specs.Greatest.{greatest_without}
use Rattle.winners.specs.Surplus.{picked}
use Rattle.winners.proofs.Promises.{to_staying, staying_unbeaten, staying_attained}
use Rattle.winners.proofs.Surplus.{picked_true, true_picked}
use Rattle.demands.specs.Winners.{clients_of}
use Rattle.demands.proofs.Bools.{false_unless, same_test}
use Rattle.demands.proofs.Keys.{Different, Absent, among, key_once}
use Rattle.demands.proofs.Winners.{client, clients_length, clients_at}
use Rattle.demands.proofs.Shares.{worth_shared}

module _ (b : Book) (is : List ℕ) where
  -- what a combination offers to others than the winners' clients
  unfoldable pub rest : (w : ℕ) → (bids : List ℕ) → ℕ
  rest w xs = Market·.worth (λ i. cond (among w (client b is) (client_of b i)) 0 (amount_of b i)) xs

  -- what it offers to winner k's client
  unfoldable pub gets : (bids : List ℕ) → (k : ℕ) → ℕ
  gets xs k = entry (amount_of b) (bid_of (market b) (client b is k) xs)

  -- what it offers to all but a set's winners
  abbrev pub others_get : (w set : ℕ) → (bids : List ℕ) → ℕ
  others_get w s xs = rest w xs + sum w (λ k. cond (has s k) 0 (gets xs k))

  -- c is the client of one of a set's winners
  unfoldable pub left_out : (set : ℕ) → (c : ℕ) → Bool
  left_out s = picked (clients_of b is) s

entry_cond : (t : Bool) (f : ℕ → ℕ) (x : ℕ) → entry (λ i. cond t 0 (f i)) x ≡ cond t 0 (entry f x)
entry_cond true f zero = refl
entry_cond true f (suc i) = refl
entry_cond false f zero = refl
entry_cond false f (suc i) = refl

module _ (b : Book) (is : List ℕ) (w : ℕ) (long : length is ≡ w) (c : Combination b is) where
  -- no two winners have the same client
  pub winners_different : Different w (client b is)
  unfolding market
  winners_different j k l m = c.one_each j k l (omega arith)

  -- a set leaves out the client of winner k just if it holds k, and never the client of none
  left_out_winner : (s k x : ℕ) → k < w → x ≡ client b is k → has s k ≡ left_out b is s x
  unfolding left_out
  left_out_winner s k x l e =
      same_test (has s k) (picked (clients_of b is) s x)
      (λ t. true_picked (clients_of b is) s x k (omega (arith, clients_length b is)) t (clients_at b is k ∙ sym e))
      (λ p. let (j, m, h, o) = picked_true (clients_of b is) s x p in
      let same = key_once w (client b is) winners_different j k (omega (arith, clients_length b is)) l (sym (clients_at b is j) ∙ o ∙ e) in
      sym (ap (has s) same) ∙ h)

  left_out_other : (s x : ℕ) → Absent w (client b is) x → left_out b is s x ≡ false
  unfolding left_out
  left_out_other s x n =
      false_unless (picked (clients_of b is) s x)
      (λ p. let (j, m, h, o) = picked_true (clients_of b is) s x p in
      n j (omega (arith, clients_length b is)) (sym o ∙ clients_at b is j))

  -- what a combination gives to the winners outside a set and to all others is its worth without the set's clients
  outside : (s : ℕ) (xs : List ℕ) → Combination b xs →
      others_get b is w s xs ≡ Market·.worth (to_staying b (left_out b is s)) xs
  unfolding rest gets market
  outside s xs d =
      ap (λ (z : ℕ). rest b is w xs + z)
      (sum_ext w (λ k. cond (has s k) 0 (gets b is xs k))
      (λ k. entry (λ i. cond (has s k) 0 (amount_of b i)) (bid_of (market b) (client b is k) xs))
      (λ k l. sym (entry_cond (has s k) (amount_of b) (bid_of (market b) (client b is k) xs))))
      ∙ worth_shared (market b) (clients b) w (client b is) winners_different (amount_of b) (λ k i. cond (has s k) 0 (amount_of b i))
      (to_staying b (left_out b is s))
      (λ i k l e. ap (λ (t : Bool). cond t 0 (amount_of b i)) (left_out_winner s k (client_of b i) l e))
      (λ i n. sym (cond_false (left_out b is s (client_of b i)) 0 (amount_of b i) (left_out_other s (client_of b i) n)))
      (supplies b) xs d

module _ (b : Book) (shaped : Shaped b) (is : List ℕ) (w : ℕ) (long : length is ≡ w) (c : Combination b is) where
  pub unbeaten : (s : ℕ) (xs : List ℕ) → Combination b xs → others_get b is w s xs ≤ greatest_without b (left_out b is s)
  unbeaten s xs d = le_trans (le_of_eq (outside b is w long c s xs d)) (staying_unbeaten b shaped (left_out b is s) xs d)

  pub attained : (s : ℕ) →
      (a : (xs : List ℕ) × Combination b xs) × (others_get b is w s a.0 ≡ greatest_without b (left_out b is s))
  attained s = let (xs, d, e) = staying_attained b shaped (left_out b is s) in ((xs, d), outside b is w long c s xs d ∙ e)

  abbrev pub auction : Auction w
  auction = record {
    Allocation = (xs : List ℕ) × Combination b xs;
    rest = λ a. rest b is w a.0;
    gets = λ a. gets b is a.0;
    without = λ s. greatest_without b (left_out b is s);
    unbeaten = λ s a l. unbeaten s a.0 a.1;
    attained = λ s l. attained s;
  }
