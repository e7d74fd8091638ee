-- For winners of greatest value: what they offer together is v, σ of a set with the greatest value without its clients makes v, and for
-- discounts from 0 to ρ no combination of lowered bids is worth more than the winners' exactly where the discounts of every set add up to
-- at most its σ. Cited by the demands. Assumes nothing.
use mathlib.Core.Path.{◌≡◌, refl, sym, ap, ◌∙◌}
use mathlib.Core.Bool.{false}
use mathlib.Core.List.{List}
use mathlib.Core.Logic.Iff
use mathlib.Core.Logic.{◌↔◌}
use Prim.Native.Nat.{ℕ, ◌+◌}
use native.Mathlib.Nat.{le_trans, le_of_eq, le_antisymm, mul-le-mul_right}
use native.Mathlib.Omega.{arith}
use lib.ListN.{length}
use Rattle.sets.specs.Sums.{sum}
use Rattle.pricing.specs.Fractions.{Fraction, over, whole, AtMost}
use Rattle.pricing.specs.Auction.{Auction}
use Rattle.pricing.specs.Discounts.{Proper, ReserveKept, SetsKept}
use Rattle.pricing.proofs.Denominators.{Common, common}
use Rattle.pricing.proofs.Discounts.{none_whole}
use Rattle.pricing.proofs.Best.{fraction_sets_suffice}
use Rattle.book.specs.Book.{Book}
use Rattle.book.specs.Sound.{Shaped}
use Rattle.winners.specs.Combinations.{amount_of, Combination, worth}
use Rattle.winners.specs.Greatest.{greatest, greatest_without, NoneOut}
use Rattle.winners.specs.Surplus.{picked}
use Rattle.winners.proofs.Greatest.{greatest_value, greatest_only_one, greatest_all}
use Rattle.winners.proofs.Surplus.{surplus_is}
use Rattle.demands.specs.Winners.{clients_of, sigma, win, rho}
use Rattle.demands.specs.Discounts.{NoneBetter}
use Rattle.demands.specs.Acceptable.{Optimal}
use Rattle.demands.proofs.Winners.{rho_most}
use Rattle.demands.proofs.Shares.{worth_places}
use Rattle.demands.proofs.Auctions.{left_out, auction}
use Rattle.demands.proofs.Lowered.{none_better_auction}

-- a combination is of greatest value just where it is worth v
module _ (b : Book) (shaped : Shaped b) (is : List ℕ) where
  pub optimal_value : Optimal b is → worth b is ≡ greatest b 0
  unfolding NoneOut
  optimal_value o =
      let top = greatest_value b shaped (λ c. false) in
      let (xs, c, n, e) = top.attained in
      le_antisymm (top.unbeaten is o.combination (λ k l. refl)) (le_trans (le_of_eq (sym e)) (o.unbeaten xs c)) ∙ sym (greatest_all b)

  pub value_optimal : Combination b is → worth b is ≡ greatest b 0 → Optimal b is
  unfolding NoneOut
  value_optimal c e = record {
    combination = c;
    unbeaten = λ xs d. le_trans ((greatest_value b shaped (λ c. false)).unbeaten xs d (λ k l. refl)) (le_of_eq (sym (e ∙ greatest_all b)));
  }

-- ρ is never more than the amount
pub reserve_win : (b : Book) (is : List ℕ) (w : ℕ) (d : ℕ → Fraction) → ReserveKept w (rho b is) d → ReserveKept w (win b is) d
unfolding ReserveKept AtMost whole over
reserve_win b is w d h j l = omega (arith, h j l, mul-le-mul_right (d j).den (rho_most b is j))

module _ (b : Book) (shaped : Shaped b) (is : List ℕ) (w : ℕ) (long : length is ≡ w) (best : Optimal b is) where
  -- the winners' amounts add up to their value
  pub win_sum : sum w (win b is) ≡ worth b is
  unfolding win
  win_sum = ap (λ (n : ℕ). sum n (win b is)) (sym long) ∙ sym (worth_places (amount_of b) is)

  pub sigma_makes : (s : ℕ) → sigma b is s + greatest_without b (left_out b is s) ≡ sum w (win b is)
  unfolding sigma left_out
  sigma_makes s =
      let σ = surplus_is b shaped (clients_of b is) s in
      omega (
        arith,
        σ.makes,
        greatest_only_one b shaped (λ c. false) σ.v σ.all,
        greatest_only_one b shaped (picked (clients_of b is) s) σ.u σ.others,
        greatest_all b,
        optimal_value b shaped is best,
        win_sum,
      )

  pub sets_suffice : (d : ℕ → Fraction) → Proper w d → ReserveKept w (rho b is) d → NoneBetter b is d ↔ SetsKept w (sigma b is) d
  sets_suffice d proper reserve =
      Iff.trans (none_better_auction b shaped is w long best.combination y.den y.positive d y.num y.each)
      (Iff.trans (Iff.symm (none_whole w y.den y.positive d y.num y.each market (win b is)))
      (fraction_sets_suffice market (win b is) (sigma b is) (λ s l. sigma_makes s) d proper (reserve_win b is w d reserve)))
    where
      market : Auction w
      market = auction b shaped is w long best.combination

      y : Common w d
      y = common w d proper
