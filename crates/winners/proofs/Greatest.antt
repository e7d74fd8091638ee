-- The recursion gives the greatest value: unbeaten and attained over combinations of clients that stay, for any book whose bids ask for its
-- kinds alone (greatest_value). Cited by the contract of the greatest value and by the layers above. Assumes nothing.
use mathlib.Core.Path.{◌≡◌, refl, sym, ap, fun_ext}
use mathlib.Core.Bool.{Bool, false, not}
use mathlib.Core.List.{List}
use mathlib.Core.Logic.{◌↔◌}
use Prim.Native.Nat.{ℕ, zero, suc, ◌≤◌}
use native.Mathlib.Nat.{le_trans, le_of_eq, le_antisymm}
use borrow.Author.Tests.{not-true}
use Rattle.market.specs.Combination as Market·
use Rattle.market.proofs.Optimum.{greatest_best}
use Rattle.market.proofs.Restrict.{combination_only}
use Rattle.sets.proofs.Members.{has_zero}
use Rattle.book.specs.Book.{Book, clients, supplies}
use Rattle.book.specs.Sound.{Shaped}
use Rattle.winners.specs.Combinations.{market, amount_of, Combination}
use Rattle.winners.specs.Greatest.{without, greatest_without, NoneOut, GreatestValue, discarded, greatest}
use Rattle.winners.proofs.Books.{supplied}

-- a combination without the clients that are out is one of the market without them
pub combination_without : (b : Book) (out : ℕ → Bool) (is : List ℕ)
    → Market·.Combination (without b out) (clients b) (supplies b) is ↔ (Combination b is × NoneOut b out is)
unfolding without NoneOut market
combination_without b out is =
    let both = combination_only (market b) (clients b) (λ c. not (out c)) (supplies b) is in
    (λ c. ((both.0 c).0, λ k l. not-true _ ((both.0 c).1 k l)), λ (c, n). both.1 (c, λ k l. ap not (n k l)))

module _ (b : Book) (shaped : Shaped b) (out : ℕ → Bool) where
  pub greatest_value : GreatestValue b out (greatest_without b out)
  unfolding greatest_without without
  greatest_value =
      let top = greatest_best (without b out) (clients b) (supplies b) (amount_of b) (supplied b shaped) in
      let (is, c, r, e) = top.attained in
      let (c', n) = (combination_without b out is).0 c in
      record {
        unbeaten = λ is c n. top.unbeaten is ((combination_without b out is).1 (c, n));
        attained = (is, c', n, e);
      }

  -- and no other number is the greatest
  pub greatest_only_one : (v : ℕ) → GreatestValue b out v → v ≡ greatest_without b out
  greatest_only_one v g =
      let h = greatest_value in
      let (is, c, n, e) = g.attained in
      let (is', c', n', e') = h.attained in
      le_antisymm (le_trans (le_of_eq (sym e)) (h.unbeaten is c n)) (le_trans (le_of_eq (sym e')) (g.unbeaten is' c' n'))

-- with more clients out the greatest value is no higher
pub greatest_fewer : (b : Book) → Shaped b → (out out' : ℕ → Bool) → ((c : ℕ) → out' c ≡ false → out c ≡ false)
    → greatest_without b out' ≤ greatest_without b out
unfolding NoneOut
greatest_fewer b shaped out out' h =
    let (is, c, n, e) = (greatest_value b shaped out').attained in
    le_trans (le_of_eq (sym e)) ((greatest_value b shaped out).unbeaten is c (λ k l. h _ (n k l)))

-- discarding nobody
pub discarded_none : (c : ℕ) → discarded 0 c ≡ false
unfolding discarded
discarded_none zero = refl
discarded_none (suc c) = has_zero c

pub greatest_all : (b : Book) → greatest b 0 ≡ greatest_without b (λ c. false)
unfolding greatest
greatest_all b = ap (λ (out : ℕ → Bool). greatest_without b out) (fun_ext discarded_none)
