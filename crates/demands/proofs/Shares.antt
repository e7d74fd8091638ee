-- What a combination is worth, shared out: to each of some clients what its bid weighs, and to all others together the rest. The weights
-- may differ from client to client. Cited by the auction that a book makes and by the laws of lowered bids. Assumes nothing.
use mathlib.Core.Path.{◌≡◌, refl, sym, ◌∙◌}
use mathlib.Core.Bool.{true, false, cond}
use mathlib.Core.List.{List, [], ◌∷◌}
use mathlib.Core.Logic.{⊎_elim}
use Prim.Native.Nat.{ℕ, ◌+◌, ◌*◌, ◌<◌}
use native.Mathlib.Omega.{arith}
use lib.Dec.{eqb}
use lib.ListN.{length}
use borrow.Author.Tests.{eqb-true}
use Rattle.sets.specs.Sums.{sum}
use Rattle.sets.proofs.Sums.{sum_ext, sum_zero, sum_add, sum_front}
use Rattle.market.specs.Market.{Market, at}
use Rattle.market.specs.Combination.{Combination, worth}
use Rattle.market.specs.Vector.{entry, bid_of}
use Rattle.market.proofs.Bools.{either}
use Rattle.market.proofs.Each.{Each, Pairwise, each_map, each_if}
use Rattle.market.proofs.Parts.{Candidate, Apart, combination_candidates, combination_apart}
use Rattle.market.proofs.Clients.{entry_bid, at_client, at_client_other}
use Rattle.market.proofs.Worth.{worth_eq, worth_add, worth_zero}
use Rattle.demands.proofs.Keys.{Different, Absent, among, sum_at, sum_either}

-- WORTHS OF LISTS
pub worth_ext : (f g : ℕ → ℕ) (is : List ℕ) → ((i : ℕ) → f i ≡ g i) → worth f is ≡ worth g is
worth_ext f g is h = worth_eq f g is (each_if (λ i. f i ≡ g i) is (λ k l. h (at is k)))

-- a list's worth is a sum over its places
pub worth_places : (f : ℕ → ℕ) (is : List ℕ) → worth f is ≡ sum (length is) (λ k. f (at is k))
unfolding worth sum
worth_places f [] = refl
worth_places f (i ∷ is) = omega (arith, worth_places f is, sum_front (length is) (λ k. f (at (i ∷ is) k)))

pub worth_mul : (c : ℕ) (f : ℕ → ℕ) (is : List ℕ) → worth (λ i. c * f i) is ≡ c * worth f is
unfolding worth
worth_mul c f [] = omega arith
worth_mul c f (i ∷ is) = omega (arith, worth_mul c f is)

worth_sum : (w : ℕ) (f : ℕ → ℕ → ℕ) (is : List ℕ) → sum w (λ k. worth (f k) is) ≡ worth (λ i. sum w (λ k. f k i)) is
unfolding worth
worth_sum w f [] = sum_zero w (λ k. 0) (λ k l. refl)
worth_sum w f (i ∷ is) = omega (arith, worth_sum w f is, sum_add w (λ k. f k i) (λ k. worth (f k) is))

-- SHARES
module _ (m : Market) (n : ℕ) where
  -- what a client's bid weighs is the worth of its bids, of which there is one at most
  entry_worth : (f : ℕ → ℕ) (c : ℕ) (is : List ℕ) → Each (Candidate m n) is → Pairwise (Apart m) is →
      entry f (bid_of m c is) ≡ worth (at_client m f c) is
  unfolding worth bid_of
  entry_worth f c [] e p = refl
  entry_worth f c (i ∷ is) e p =
      ⊎_elim
      (λ (t : eqb (m.owner i) c ≡ true).
      let none = each_map (Apart m i) (λ j. at_client m f c j ≡ 0)
      (λ j d. at_client_other m f c j (λ o. d (eqb-true (m.owner i) c t ∙ sym o))) is p.0 in
      rw t (omega (arith, entry_bid f i e.0.first, worth_zero (at_client m f c) is none)))
      (λ (t : eqb (m.owner i) c ≡ false). rw t (omega (arith, entry_worth f c is e.1 p.1)))
      (either (eqb (m.owner i) c))

  -- the worth by h, shared out: where h is f k for the client of key k, and g for all other clients
  pub worth_shared : (w : ℕ) (key : ℕ → ℕ) → Different w key → (g : ℕ → ℕ) (f : ℕ → ℕ → ℕ) (h : ℕ → ℕ) →
      ((i k : ℕ) → k < w → m.owner i ≡ key k → f k i ≡ h i) → ((i : ℕ) → Absent w key (m.owner i) → g i ≡ h i) →
      (supply is : List ℕ) → Combination m n supply is →
      worth (λ i. cond (among w key (m.owner i)) 0 (g i)) is + sum w (λ k. entry (f k) (bid_of m (key k) is)) ≡ worth h is
  worth_shared w key different g f h there none supply is c =
      omega (
        arith,
        sum_ext w (λ k. entry (f k) (bid_of m (key k) is)) (λ k. worth (at_client m (f k) (key k)) is)
            (λ k l. entry_worth (f k) (key k) is (combination_candidates m n supply is c) (combination_apart m n supply is c)),
        worth_sum w (λ k. at_client m (f k) (key k)) is,
        worth_add (λ i. cond (among w key (m.owner i)) 0 (g i)) (λ i. sum_at w key (m.owner i) (λ k. f k i)) is,
        worth_ext (λ i. cond (among w key (m.owner i)) 0 (g i) + sum_at w key (m.owner i) (λ k. f k i)) h is
            (λ i. sum_either w key different (m.owner i) (g i) (λ k. f k i) (h i) (there i) (none i)),
      )
