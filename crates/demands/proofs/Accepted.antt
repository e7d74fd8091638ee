-- What is known of a sheet in its ranges: q and s are positive, and it passes the questions just where it is acceptable, since the bounds
-- of questions 10 and 11 are those of admissible discounts. Cited by the demands and by what else is said of accepted calls.
-- Assumes nothing.
use mathlib.Core.Path.{◌≡◌, sym, subst}
use mathlib.Core.Bool.{true, ◌&&◌, and-eq-true_iff}
use mathlib.Core.List.{List}
use Prim.Native.Nat.{ℕ, ◌≤◌}
use lib.Dec.{leb}
use lib.ListN.{length}
use borrow.Author.Tests.{leb-true}
use Rattle.pricing.specs.Certificate.{Certificate}
use Rattle.pricing.specs.Fractions.{Fraction, over}
use Rattle.pricing.specs.Discounts.{Proper, ReserveKept, SetsKept, own}
use Rattle.pricing.proofs.Best.{own_reserve, own_sets}
use Rattle.book.specs.Book.{Book}
use Rattle.book.specs.Sound.{Shaped}
use Rattle.winners.specs.Combinations.{Rising, worth, CombinationsAgree}
use Rattle.winners.specs.Greatest.{greatest}
use Rattle.winners.proofs.Books.{combinations_agree}
use Rattle.demands.specs.Sheet.{Sheet}
use Rattle.demands.specs.Winners.{sigma, rho}
use Rattle.pricing.specs.Ranges.{scale_in_range, counts_in_range, winners_in_range, sets_in_range, in_range}
use Rattle.demands.specs.Questions.{winners_good}
use Rattle.demands.specs.Discounts.{Admissible}
use Rattle.demands.specs.Acceptable.{Optimal, Acceptable}
use Rattle.demands.proofs.Suffice.{optimal_value, value_optimal, sets_suffice}
use Rattle.demands.proofs.Passed.{SheetPassed}

-- of the ranges: q and s are positive, and there are at most six winners
pub record Scales (c : Certificate) : Type 0 where
  pub few : c.w ≤ 6
  pub q : 1 ≤ c.q
  pub s : 1 ≤ c.s

pub scales : (c : Certificate) → in_range c ≡ true → Scales c
unfolding in_range
scales c h =
    let counts = counts_in_range c.w c.q c.s in
    let winners = winners_in_range c.w c.X c.Z c.R c.T in
    let front = ((and-eq-true_iff (counts && winners && sets_in_range c.w c.Y c.U) _).0 h).0 in
    let fair = ((and-eq-true_iff counts winners).0 ((and-eq-true_iff (counts && winners) _).0 front).0).0 in
    let (few-q, of-s) = (and-eq-true_iff (leb c.w 6 && scale_in_range c.q) (scale_in_range c.s)).0 fair in
    let (few, of-q) = (and-eq-true_iff (leb c.w 6) (scale_in_range c.q)).0 few-q in
    record {
      few = leb-true c.w 6 few;
      q = leb-true 1 c.q ((and-eq-true_iff (leb 1 c.q) (leb c.q 10000)).0 of-q).0;
      s = leb-true 1 c.s ((and-eq-true_iff (leb 1 c.s) (leb c.s 10000)).0 of-s).0;
    }

pub own_proper : (c : Certificate) → 1 ≤ c.q → Proper c.w (own c)
unfolding Proper own over
own_proper c l j m = l

-- question 8 both ways, question 9 both ways
module _ (b : Book) (shaped : Shaped b) (is : List ℕ) where
  pub winners_passed : winners_good b is ≡ true → worth b is ≡ greatest b 0 → Optimal b is × Rising b is
  unfolding winners_good CombinationsAgree
  winners_passed h v = let (c, r) = (combinations_agree b shaped is).0 h in (value_optimal b shaped is c v, r)

  pub passed_winners : Optimal b is → Rising b is → winners_good b is ≡ true
  unfolding winners_good CombinationsAgree
  passed_winners o r = (combinations_agree b shaped is).1 (o.combination, r)

-- admissible discounts keep the bounds of winners and of sets, and the other way round
module _ (b : Book) (shaped : Shaped b) (is : List ℕ) (w : ℕ) (long : length is ≡ w) (best : Optimal b is) (d : ℕ → Fraction)
    (proper : Proper w d) where
  pub admissible_reserve : Admissible b is d → ReserveKept w (rho b is) d
  admissible_reserve a = subst (λ (n : ℕ). ReserveKept n (rho b is) d) long a.reserve

  pub admissible_sets : Admissible b is d → SetsKept w (sigma b is) d
  admissible_sets a = (sets_suffice b shaped is w long best d proper (admissible_reserve a)).0 a.none_better

  pub kept_admissible : ReserveKept w (rho b is) d → SetsKept w (sigma b is) d → Admissible b is d
  kept_admissible r s = record {
    reserve = subst (λ (n : ℕ). ReserveKept n (rho b is) d) (sym long) r;
    none_better = (sets_suffice b shaped is w long best d proper r).1 s;
  }

-- a sheet in its ranges passes the questions just where it is acceptable
module _ (b : Book) (shaped : Shaped b) (h : Sheet) (long : length h.bids ≡ h.numbers.w) (ranges : in_range h.numbers ≡ true) where
  pub passed_acceptable : SheetPassed b h → Acceptable b h
  passed_acceptable p =
      let c = h.numbers in
      let q = (scales c ranges).q in
      let (best, order) = winners_passed b shaped h.bids p.winners p.value in
      record {
        order = order;
        winners = best;
        discounts = kept_admissible b shaped h.bids c.w long best (own c) (own_proper c q)
            ((own_reserve c (rho b h.bids) q).1 p.numbers.reserve)
            ((own_sets c (sigma b h.bids) q).1 p.numbers.sets);
        multipliers = p.numbers.balances;
      }

  pub acceptable_passed : Acceptable b h → SheetPassed b h
  acceptable_passed a =
      let c = h.numbers in
      let q = (scales c ranges).q in
      record {
        ranges = ranges;
        winners = passed_winners b shaped h.bids a.winners a.order;
        value = optimal_value b shaped h.bids a.winners;
        numbers = record {
          reserve = (own_reserve c (rho b h.bids) q).0
              (admissible_reserve b shaped h.bids c.w long a.winners (own c) (own_proper c q) a.discounts);
          sets = (own_sets c (sigma b h.bids) q).0
              (admissible_sets b shaped h.bids c.w long a.winners (own c) (own_proper c q) a.discounts);
          balances = a.multipliers;
        };
      }
