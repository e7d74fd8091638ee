-- That σ and ρ are what their words say, and that bounds for sets suffice. Nothing cites it. Assumes nothing.
use mathlib.Core.Path.{refl, sym, ◌∙◌}
use mathlib.Core.Bool.{false, true≢false}
use mathlib.Core.List.{List}
use Prim.Native.Nat.{ℕ, ◌<◌}
use native.Mathlib.Omega.{arith}
use lib.ListN.{length}
use Rattle.sets.proofs.Members.{has_zero}
use Rattle.market.specs.Market.{at}
use Rattle.book.specs.Book.{Book, client_of}
use Rattle.book.specs.Sound.{Sound, Shaped}
use Rattle.winners.specs.Combinations.{market, amount_of, Combination}
use Rattle.winners.specs.Greatest.{NoneOut, GreatestValue}
use Rattle.winners.specs.Surplus.{picked}
use Rattle.winners.proofs.Surplus.{picked_true, true_picked, surplus_is}
use Rattle.demands.specs.Winners.{clients_of, sigma, win, reserves, rho}
use Rattle.demands.specs.Call.{Call, sheet, Accepted}
use Rattle.demands.specs.Bounds.{Without, GreatestWithout, SigmaIs, RhoExact, SetsSuffice}
use Rattle.demands.specs.Discounts.{discount}
use Rattle.demands.proofs.Judgeable.{Judgeable}
use Rattle.demands.proofs.Bools.{false_unless}
use Rattle.demands.proofs.Winners.{clients_length, clients_at}
use Rattle.demands.proofs.Suffice.{sets_suffice}
use Rattle.demands.proofs.Promise.{accepted_in_form, accepted_acceptable}

pub bounds_suffice : (b : Book) → Shaped b → (is : List ℕ) → SetsSuffice b is
unfolding SetsSuffice
bounds_suffice b shaped is best ds = sets_suffice b shaped is (length is) refl best (discount ds)

-- σ
module _ (b : Book) (is : List ℕ) (L : ℕ) where
  -- a set picks no client of the bids just where none is of its winners' clients
  without_none_out : (xs : List ℕ) → Without b is L xs → NoneOut b (picked (clients_of b is) L) xs
  unfolding Without NoneOut
  without_none_out xs h k l =
      false_unless (picked (clients_of b is) L (client_of b (at xs k)))
      (λ p. let (j, m, t, e) = picked_true (clients_of b is) L (client_of b (at xs k)) p in
      h j k (omega (arith, clients_length b is)) t l (sym e ∙ clients_at b is j))

  none_out_without : (xs : List ℕ) → NoneOut b (picked (clients_of b is) L) xs → Without b is L xs
  unfolding Without NoneOut
  none_out_without xs h j k l t m e =
      let there : j < length (clients_of b is) = omega (arith, clients_length b is) in
      true≢false (sym (true_picked (clients_of b is) L (client_of b (at xs k)) j there t (clients_at b is j ∙ sym e)) ∙ h k m)

  without_greatest : (v : ℕ) → GreatestValue b (picked (clients_of b is) L) v → GreatestWithout b is L v
  without_greatest v g = record {
    unbeaten = λ xs c h. g.unbeaten xs c (without_none_out xs h);
    attained = let (xs, c, n, e) = g.attained in (xs, c, none_out_without xs n, e);
  }

-- the empty set leaves out nobody
without_nobody : (b : Book) (is : List ℕ) (v : ℕ) → GreatestValue b (λ c. false) v → GreatestWithout b is 0 v
unfolding Without NoneOut
without_nobody b is v g = record {
  unbeaten = λ xs c h. g.unbeaten xs c (λ k l. refl);
  attained = let (xs, c, n, e) = g.attained in (xs, c, (λ j k l t m o. true≢false (sym t ∙ has_zero j)), e);
}

pub sigma_is : (b : Book) → Shaped b → (is : List ℕ) (L : ℕ) → SigmaIs b is L
unfolding sigma
sigma_is b shaped is L =
    let σ = surplus_is b shaped (clients_of b is) L in
    record {
      v = σ.v;
      u = σ.u;
      all = without_nobody b is σ.v σ.all;
      others = without_greatest b is L σ.u σ.others;
      makes = σ.makes;
    }

-- ρ
pub rho_exact : (b : Book) → Sound b → (is : List ℕ) → Combination b is → RhoExact b is
unfolding RhoExact rho win reserves amount_of market
rho_exact b s is c j l = let (first, last) = c.numbers j l in omega (arith, s.reserves (at is j) first last)

pub accepted_rho_exact : (c : Call) → Judgeable c → Accepted c → RhoExact c.book (sheet c).bids
accepted_rho_exact c j h =
    rho_exact c.book (j.sound (accepted_in_form c h).sound) (sheet c).bids (accepted_acceptable c j h).winners.combination
