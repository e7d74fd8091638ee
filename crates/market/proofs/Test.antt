-- The test of one pass is right: it is true exactly of the combinations by rising client. The layers above cite combination_test.
-- Assumes nothing.
use mathlib.Core.Path.{◌≡◌, refl}
use mathlib.Core.Bool.{Bool, true, ◌&&◌, and-eq-true_iff}
use mathlib.Core.List.{List, [], ◌∷◌}
use mathlib.Core.Logic.{◌↔◌}
use Prim.Native.Nat.{ℕ, ◌<◌}
use native.Mathlib.Omega.{arith}
use lib.Dec.{leb, ltb}
use borrow.Author.Tests.{leb-true, ltb-true, le-leb, lt-ltb}
use Rattle.market.specs.Market.{Market, fits, less, Supplied}
use Rattle.market.specs.Combination.{Combination, Rising, rising_from, is_combination}
use Rattle.market.proofs.Row.{Row, row_combination, combination_row}

-- the seven tests that the pass puts to a bid and to the rest, bracketed as it puts them
module _ (a b c d e f g : Bool) where
  seven_parts : (((a && b) && ((c && d) && e)) && (f && g)) ≡ true
      → (a ≡ true) × (b ≡ true) × (c ≡ true) × (d ≡ true) × (e ≡ true) × (f ≡ true) × (g ≡ true)
  seven_parts t =
      let (l, r) = (and-eq-true_iff ((a && b) && ((c && d) && e)) (f && g)).0 t in
      let (ab, cde) = (and-eq-true_iff (a && b) ((c && d) && e)).0 l in
      let (cd, te) = (and-eq-true_iff (c && d) e).0 cde in
      let (ta, tb) = (and-eq-true_iff a b).0 ab in
      let (tc, td) = (and-eq-true_iff c d).0 cd in
      let (tf, tg) = (and-eq-true_iff f g).0 r in
      (ta, tb, tc, td, te, tf, tg)

  seven_all : a ≡ true → b ≡ true → c ≡ true → d ≡ true → e ≡ true → f ≡ true → g ≡ true
      → (((a && b) && ((c && d) && e)) && (f && g)) ≡ true
  seven_all ta tb tc td te tf tg = rw (ta, tb, tc, td, te, tf, tg)

module _ (m : Market) (n : ℕ) where
  test_row : (c : ℕ) (ls is : List ℕ) → rising_from m n c ls is ≡ true → Row m n c ls is
  unfolding rising_from
  test_row c ls [] t = tt
  test_row c ls (i ∷ is) t =
      let rest = rising_from m n (m.owner i) (less ls (m.hours i)) is in
      let (first, last, after, to, may, fit, more) =
      seven_parts (leb 1 i) (leb i m.bids) (ltb c (m.owner i)) (leb (m.owner i) n) (m.may i) (fits (m.hours i) ls) rest t in
      let above : c < m.owner i = ltb-true c (m.owner i) after in (
        record {
          first = leb-true 1 i first;
          last = leb-true i m.bids last;
          eligible = may;
          owner_first = omega arith;
          owner_last = leb-true (m.owner i) n to;
        },
        above,
        fit,
        test_row (m.owner i) (less ls (m.hours i)) is more,
      )

  row_test : (c : ℕ) (ls is : List ℕ) → Row m n c ls is → rising_from m n c ls is ≡ true
  unfolding rising_from
  row_test c ls [] r = refl
  row_test c ls (i ∷ is) (b, after, fit, rest) =
      seven_all (leb 1 i) (leb i m.bids) (ltb c (m.owner i)) (leb (m.owner i) n) (m.may i) (fits (m.hours i) ls) _
      (le-leb 1 i b.first) (le-leb i m.bids b.last) (lt-ltb c (m.owner i) after) (le-leb (m.owner i) n b.owner_last)
      b.eligible fit (row_test (m.owner i) (less ls (m.hours i)) is rest)

  -- what passes is a combination, whatever the bids ask for
  pub test_combination : (supply is : List ℕ) → is_combination m n supply is ≡ true → Combination m n supply is × Rising m is
  unfolding is_combination
  test_combination supply is t = row_combination m n supply is (test_row 0 supply is t)

  -- a combination passes, where no bid asks for a kind without supply
  pub combination_passes : (supply is : List ℕ) → Supplied m supply → Combination m n supply is → Rising m is
      → is_combination m n supply is ≡ true
  unfolding is_combination
  combination_passes supply is s c r = row_test 0 supply is (combination_row m n supply is s c r)

  -- the two together
  pub combination_test : (supply is : List ℕ) → Supplied m supply
      → (is_combination m n supply is ≡ true) ↔ (Combination m n supply is × Rising m is)
  combination_test supply is s = (test_combination supply is, λ (c, r). combination_passes supply is s c r)
