-- σ: which clients a set picks from a list, and that σ with the greatest value without them makes the greatest value (surplus_is). Cited
-- by the contract of the σ table and by the layers above. Assumes nothing.
use mathlib.Core.Path.{◌≡◌, refl, sym, ap, ◌∙◌}
use mathlib.Core.Bool.{Bool, true, false, ◌&&◌, ◌||◌, or-true, false≢true, and-eq-true_iff}
use mathlib.Core.List.{List}
use mathlib.Core.Logic.{inl, inr}
use Prim.Native.Nat.{ℕ, zero, suc, ◌<◌}
use native.Mathlib.Nat.{le_of_suc-le-suc, eq-or-lt_of_le}
use native.Mathlib.Omega.{arith}
use borrow.Author.Tests.{eqb-true, eq-eqb}
use lib.Dec.{eqb}
use lib.ListN.{length}
use Rattle.sets.specs.Sets.{has}
use Rattle.market.specs.Market.{at}
use Rattle.book.specs.Book.{Book}
use Rattle.book.specs.Sound.{Shaped}
use Rattle.winners.specs.Greatest.{greatest_without}
use Rattle.winners.specs.Surplus.{any, picked, surplus, SurplusIs}
use Rattle.winners.proofs.Greatest.{greatest_value, greatest_fewer, greatest_all}

-- some number below n passes
pub any_true : (n : ℕ) (p : ℕ → Bool) → any n p ≡ true → (j : ℕ) × (j < n) × (p j ≡ true)
unfolding any
any_true zero p h = absurd (false≢true h)
any_true (suc n) p h = go (any n p) (p n) refl refl h (any_true n p)
  where
    go : (a b : Bool) → any n p ≡ a → p n ≡ b → (a || b) ≡ true → (any n p ≡ true → (j : ℕ) × (j < n) × (p j ≡ true)) → (j : ℕ)
        × (j < suc n) × (p j ≡ true)
    go true b e f t k = let (j, l, q) = k e in (j, omega arith, q)
    go false b e f t k = (n, omega arith, f ∙ t)

pub true_any : (n : ℕ) (p : ℕ → Bool) (j : ℕ) → j < n → p j ≡ true → any n p ≡ true
unfolding any
true_any zero p j l h = absurd (omega arith)
true_any (suc n) p j l h =
    elim (eq-or-lt_of_le (le_of_suc-le-suc l)) [ inl e ↦ rw (sym (ap p e) ∙ h) (or-true (any n p)) | inr m ↦ rw (true_any n p j m h) refl ]

-- tests that agree below n
pub any_ext : (n : ℕ) (p q : ℕ → Bool) → ((i : ℕ) → i < n → p i ≡ q i) → any n p ≡ any n q
unfolding any
any_ext zero p q h = refl
any_ext (suc n) p q h = rw (h n (omega arith), any_ext n p q (λ i l. h i (omega arith)))

-- a set picks just the clients that its bits name
pub picked_true : (cs : List ℕ) (L c : ℕ) → picked cs L c ≡ true → (j : ℕ) × (j < length cs) × (has L j ≡ true) × (at cs j ≡ c)
unfolding picked
picked_true cs L c h =
    let (j, l, p) = any_true (length cs) (λ j. has L j && eqb (at cs j) c) h in
    let q = (and-eq-true_iff (has L j) (eqb (at cs j) c)).0 p in
    (j, l, q.0, eqb-true _ _ q.1)

pub true_picked : (cs : List ℕ) (L c j : ℕ) → j < length cs → has L j ≡ true → at cs j ≡ c → picked cs L c ≡ true
unfolding picked
true_picked cs L c j l h e =
    true_any (length cs) (λ j. has L j && eqb (at cs j) c) j l ((and-eq-true_iff (has L j) (eqb (at cs j) c)).1 (h, eq-eqb _ _ e))

-- σ with the rest makes the whole
pub surplus_is : (b : Book) → Shaped b → (cs : List ℕ) (L : ℕ) → SurplusIs b cs L (surplus b cs L)
unfolding surplus
surplus_is b shaped cs L = record {
  v = greatest_without b (λ c. false);
  u = greatest_without b (picked cs L);
  all = greatest_value b shaped (λ c. false);
  others = greatest_value b shaped (picked cs L);
  makes = rw (greatest_all b) (omega (arith, greatest_fewer b shaped (λ c. false) (picked cs L) (λ c h. refl)));
}
