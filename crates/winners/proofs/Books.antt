-- A book as a market: no bid asks for a kind that has no supply, whoever stands is one of the clients 1 to n, and the one-pass test is a
-- combination by rising client. For any book whose bids ask for its kinds alone, sound or not. Cited by the layers above. Assumes nothing.
use mathlib.Core.Path.{◌≡◌, sym, ap, ◌∙◌}
use mathlib.Core.Bool.{true, false, false≢true}
use mathlib.Core.List.{List}
use mathlib.Core.Logic.{◌≢◌}
use Prim.Native.Nat.{ℕ, zero, suc, ◌≤◌, ◌<◌}
use native.Mathlib.Nat.{le_trans, le_of_eq}
use native.Mathlib.Decide.{dec_le}
use native.Mathlib.Omega.{arith}
use lib.Dec.{eqb}
use lib.ListN.{length, length-map, get_or-eq_default}
use Rattle.market.specs.Market.{at, Supplied}
use Rattle.market.specs.Combination as Market·
use Rattle.market.proofs.Test as Test
use Rattle.book.specs.Book.{Book, client_of, clients, standing, supplies}
use Rattle.book.specs.Sound.{Shaped}
use Rattle.winners.specs.Combinations.{market, Combination, CombinationsAgree}

module _ (b : Book) where
  pub supplies_count : length (supplies b) ≡ length b.kinds
  unfolding supplies
  supplies_count = length-map b.kinds (λ k. k.supply)

  -- nobody is client 0, and nobody stands past the last client
  standing_zero : (c : ℕ) → c ≡ 0 → standing b c ≡ false
  unfolding standing
  standing_zero c e = rw e

  standing_past : (c : ℕ) → clients b < c → standing b c ≡ false
  unfolding standing clients
  standing_past zero l = absurd (omega arith)
  standing_past (suc c) l = ap (λ (x : ℕ). eqb x 0) (get_or-eq_default b.statuses 1 {n = c} (omega arith))

  -- who stands is a client of the book
  pub standing_client : (c : ℕ) → standing b c ≡ true → (1 ≤ c) × (c ≤ clients b)
  standing_client c h = (
    elim (dec_le 1 c) [ yes l ↦ l | no l ↦ absurd (false≢true (sym (standing_zero c (omega arith)) ∙ h)) ],
    elim (dec_le c (clients b)) [ yes l ↦ l | no l ↦ absurd (false≢true (sym (standing_past c (omega arith)) ∙ h)) ],
  )

  -- so a combination needs no more than its words say
  pub combination : (is : List ℕ) → ((k : ℕ) → k < length is → (1 ≤ at is k) × (at is k ≤ length b.bids))
      → ((k : ℕ) → k < length is → standing b (client_of b (at is k)) ≡ true)
      → ((j k : ℕ) → j < k → k < length is → client_of b (at is j) ≢ client_of b (at is k))
      → ((kind : ℕ) → kind < length (supplies b) → Market·.hours_of (market b) kind is ≤ at (supplies b) kind)
      → Combination b is
  unfolding market
  combination is numbers stand one_each within = record {
    numbers = numbers;
    eligible = stand;
    owners = λ k l. standing_client (client_of b (at is k)) (stand k l);
    one_each = one_each;
    within = within;
  }

  module _ (shaped : Shaped b) where
    pub supplied : Supplied (market b) (supplies b)
    unfolding market
    supplied i l k = le_trans (shaped i) (le_of_eq (sym supplies_count))

    -- question 8's test, in one pass with the hours left
    pub combinations_agree : (is : List ℕ) → CombinationsAgree b is
    unfolding CombinationsAgree
    combinations_agree is = Test.combination_test (market b) (clients b) (supplies b) is supplied
