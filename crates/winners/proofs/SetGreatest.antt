-- The value of a set of clients is the greatest value of the book without all others. Cited by SetValues.
-- Assumes nothing.
use mathlib.Core.Path.{◌≡◌, sym, ap, ◌∙◌}
use mathlib.Core.Bool.{Bool, true, false, ◌&&◌, not, and_comm, and-true, and-false}
use mathlib.Core.List.{List}
use mathlib.Core.Logic.{⊎_elim}
use Prim.Native.Nat.{ℕ, suc, ◌+◌, ◌-◌, ◌≤◌, ◌<◌}
use native.Mathlib.Omega.{arith}
use lib.ListN.{get_or}
use Rattle.sets.specs.Sets.{has}
use Rattle.book.specs.Book.{Book, bid_at, client_of, clients, standing, supplies}
use Rattle.book.specs.Sound.{Sound}
use Rattle.book.proofs.Soundness.{sound_shaped}
use Rattle.market.specs.Market.{Market, fits}
use Rattle.market.specs.Greatest.{best}
use Rattle.market.specs.Restrict.{only, fitted}
use Rattle.market.proofs.Bools.{either}
use Rattle.market.proofs.Prune.{best_idle}
use Rattle.market.proofs.Fitted.{best_fitted}
use Rattle.market.proofs.ReachKept.{reach_best}
use Rattle.winners.specs.Combinations.{market, amount_of}
use Rattle.winners.specs.Greatest.{without, discarded, greatest_without}
use Rattle.winners.specs.Passes.{ValuesTo}
use Rattle.winners.specs.Rows.{searched}
use Rattle.winners.proofs.Books.{supplied, standing_client}

module _ (b : Book) (s : Sound b) (d : ℕ) (keep out : ℕ → Bool)
    (same : (c : ℕ) → 1 ≤ c → c ≤ 6 → (keep c && not (discarded d c)) ≡ not (out c)) where
  -- who may take a bid that fits
  may_same : (c : ℕ) → (standing b c && not (discarded d c) && true && keep c) ≡ (standing b c && not (out c) && true)
  may_same c = ⊎_elim
      (λ (y : standing b c ≡ true). let (low, high) = standing_client b c y in
      rw (y, and-true (not (discarded d c)), and-true (not (out c)))
      (and_comm (not (discarded d c)) (keep c) ∙ same c low (omega (arith, s.n_high))))
      (λ (n : standing b c ≡ false). rw n)
      (either (standing b c))

  may_here : (i : ℕ) → (only keep (searched b d)).may i ≡ (fitted (supplies b) (without b out)).may i
  unfolding without market
  may_here i = ⊎_elim
      (λ (y : fits (bid_at b i).hours (supplies b) ≡ true). rw y (may_same (client_of b i)))
      (λ (n : fits (bid_at b i).hours (supplies b) ≡ false).
      rw (n, and-false (standing b (client_of b i) && not (discarded d (client_of b i))))
      (sym (and-false (standing b (client_of b i) && not (out (client_of b i))))))
      (either (fits (bid_at b i).hours (supplies b)))

  -- of the market that is searched those kept are left
  market_same : only keep (searched b d) ≡ fitted (supplies b) (without b out)
  unfolding without
  market_same = λ j. record {
    bids = (market b).bids;
    owner = (market b).owner;
    hours = (market b).hours;
    may = λ i. may_here i j;
  }

  greatest_kept : best (only keep (searched b d)) (amount_of b) 6 1 (supplies b) ≡ greatest_without b out
  unfolding greatest_without without market
  greatest_kept =
      let n = clients b in
      let all : n + (6 - n) ≡ 6 = omega (arith, s.n_high) in
      let owners : (i : ℕ) → suc i ≤ (market b).bids → client_of b (suc i) ≤ n
      = λ i l. omega (arith, s.client_high (suc i) (omega arith) (omega arith)) in
      ap (λ (m : Market). best m (amount_of b) 6 1 (supplies b)) market_same
      ∙ best_fitted (without b out) 6 (supplies b) (supplied b (sound_shaped b s)) (amount_of b)
      ∙ (rw all at (best_idle (without b out) (amount_of b) n owners (6 - n) n 1 (supplies b) (omega arith)))

pub set_greatest : (b : Book) → Sound b → (d set : ℕ) (out : ℕ → Bool) (values : List ℕ) → set < 64
    → ValuesTo (searched b d) (amount_of b) (supplies b) 64 values
    → ((c : ℕ) → 1 ≤ c → c ≤ 6 → (has set (c - 1) && not (discarded d c)) ≡ not (out c)) → get_or values set 0 ≡ greatest_without b out
set_greatest b s d set out values l v same =
    let keep : ℕ → Bool = λ c. has set (c - 1) in
    v.below set l ∙ sym (reach_best (searched b d) (amount_of b) keep 6 1 (supplies b)) ∙ greatest_kept b s d keep out same
