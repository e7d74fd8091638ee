-- Which clients a set picks from a list, in a loop's steps, and the set of clients that says the same. Cited by the proof of src/lists.rt
-- and by laws of lists of clients. Assumes nothing.
use mathlib.Core.Path.{◌≡◌, refl, sym, ap, fun_ext, ◌∙◌}
use mathlib.Core.Bool.{Bool, true, false, ◌&&◌, ◌||◌, and-false, or-true, or-false, false≢true, and-eq-true_iff}
use mathlib.Core.List.{List, [], ◌∷◌}
use mathlib.Core.Logic.{⊎_elim, ◌≢◌}
use Prim.Native.Nat.{ℕ, zero, suc, ◌+◌, ◌-◌, ◌^◌, ◌≤◌, ◌<◌}
use native.Mathlib.Numerals.{add-one}
use native.Mathlib.Nat.{le_trans, le_of_suc-le-suc}
use native.Mathlib.Omega.{arith}
use borrow.Author.Tests.{ltb-true, leb-true, le-leb, eq-eqb, ne_eqb}
use lib.Dec.{leb, ltb, eqb}
use lib.ListN.{length, get_or}
use lib.Pow.{pow_mono}
use Rattle.sets.specs.Sets.{has, set_of}
use Rattle.sets.proofs.Members.{has_zero, set_of_lt, set_of_add}
use Rattle.market.specs.Market.{at}
use Rattle.market.proofs.Bools.{either}
use Rattle.winners.specs.Surplus.{any, picked}
use Rattle.winners.proofs.Surplus.{picked_true}
use Rattle.winners.specs.ClientLists.{RisingList}
use Rattle.winners.specs.Surpluses.{rising_to}

-- clients that rise lie between
pub rising_range : (n c : ℕ) (xs : List ℕ) → rising_to n c xs ≡ true → (j : ℕ) → j < length xs → (c < at xs j) × (at xs j ≤ n)
unfolding rising_to
rising_range n c [] t j l = absurd (omega arith)
rising_range n c (x ∷ xs) t zero l =
    let p = (and-eq-true_iff (ltb c x && leb x n) _).0 t in
    let q = (and-eq-true_iff (ltb c x) (leb x n)).0 p.0 in
    (ltb-true c x q.0, leb-true x n q.1)
rising_range n c (x ∷ xs) t (suc j) l =
    let p = (and-eq-true_iff (ltb c x && leb x n) _).0 t in
    let q = (and-eq-true_iff (ltb c x) (leb x n)).0 p.0 in
    let r = rising_range n x xs p.1 j (le_of_suc-le-suc l) in
    (omega (arith, ltb-true c x q.0), r.1)

-- and each is before those after it
rising_apart : (n c : ℕ) (xs : List ℕ) → rising_to n c xs ≡ true → (i j : ℕ) → i < j → j < length xs → at xs i < at xs j
unfolding rising_to
rising_apart n c [] t i j k l = absurd (omega arith)
rising_apart n c (x ∷ xs) t i zero k l = absurd (omega arith)
rising_apart n c (x ∷ xs) t zero (suc j) k l = (rising_range n x xs ((and-eq-true_iff (ltb c x && leb x n) _).0 t).1 j
    (le_of_suc-le-suc l)).0
rising_apart n c (x ∷ xs) t (suc i) (suc j) k l = rising_apart n x xs ((and-eq-true_iff (ltb c x && leb x n) _).0 t).1 i j
    (le_of_suc-le-suc k) (le_of_suc-le-suc l)

-- a list that rises to n rises to any more
pub rising_more : (n m c : ℕ) (xs : List ℕ) → n ≤ m → rising_to n c xs ≡ true → rising_to m c xs ≡ true
unfolding rising_to
rising_more n m c [] h t = t
rising_more n m c (x ∷ xs) h t =
    let p = (and-eq-true_iff (ltb c x && leb x n) _).0 t in
    let q = (and-eq-true_iff (ltb c x) (leb x n)).0 p.0 in
    rw (q.0, le-leb x m (le_trans (leb-true x n q.1) h)) (rising_more n m x xs h p.1)

-- no place that passes
any_none : (n : ℕ) (p : ℕ → Bool) → ((i : ℕ) → i < n → p i ≡ false) → any n p ≡ false
unfolding any
any_none zero p h = refl
any_none (suc n) p h = rw (h n (omega arith), any_none n p (λ i l. h i (omega arith)))

module _ (cs : List ℕ) (L : ℕ) where
  -- client 1 + k stands at one of the first j places and is picked
  abbrev pub early : (j k : ℕ) → Bool
  early j k = any j (λ i. has L i && eqb (at cs i) (1 + k))

  -- the byte of no place, and of all
  pub byte_none : 0 ≡ set_of 6 (early 0)
  unfolding any set_of
  byte_none = refl

  pub byte_all : (j byte : ℕ) → j ≡ length cs → byte ≡ set_of 6 (early j) → byte ≡ set_of 6 (λ k. picked cs L (1 + k))
  unfolding picked
  byte_all j byte e b = b ∙ ap (λ (n : ℕ). set_of 6 (early n)) e

  -- one place more
  early_next : (j k : ℕ) → early (j + 1) k ≡ (early j k || (has L j && eqb (at cs j) (1 + k)))
  unfolding any
  early_next j k = rw (add-one j)

  module _ (j : ℕ) (t : rising_to 6 0 cs ≡ true) (l : j < length cs) where
    later : (k : ℕ) → k ≢ at cs j - 1 → early (j + 1) k ≡ early j k
    later k n =
        let r = rising_range 6 0 cs t j l in
        early_next j k ∙ rw (ne_eqb (at cs j) (1 + k) (λ q. n (omega arith)), and-false (has L j)) (or-false (early j k))

    absent : early j (at cs j - 1) ≡ false
    absent =
        let r = rising_range 6 0 cs t j l in
        any_none j _ (λ i h. rw (ne_eqb (at cs i) (1 + (at cs j - 1)) (λ q. omega (arith, rising_apart 6 0 cs t i j h l)))
        (and-false (has L i)))

    present : has L j ≡ true → early (j + 1) (at cs j - 1) ≡ true
    present y =
        let r = rising_range 6 0 cs t j l in
        early_next j (at cs j - 1) ∙ rw (y, eq-eqb (at cs j) (1 + (at cs j - 1)) (omega arith)) (or-true (early j (at cs j - 1)))

  -- a set without the place keeps its byte, and one with it has the client's bit more
  pub byte_without : (j : ℕ) → has L j ≡ false → set_of 6 (early j) ≡ set_of 6 (early (j + 1))
  byte_without j y = ap (λ (f : ℕ → Bool). set_of 6 f) (fun_ext (λ k. sym (early_next j k ∙ rw y (or-false (early j k)))))

  pub byte_with : (j : ℕ) → rising_to 6 0 cs ≡ true → j < length cs → has L j ≡ true
      → set_of 6 (early j) + 2 ^ (at cs j - 1) ≡ set_of 6 (early (j + 1))
  byte_with j t l y =
      let r = rising_range 6 0 cs t j l in
      set_of_add 6 (at cs j - 1) (early j) (early (j + 1)) (omega arith) (absent j t l) (present j t l y) (later j t l)

-- the clients of a list are from 1 to 6
pub listed_range : (clients : List ℕ) (j : ℕ) → RisingList clients → j < length clients
    → (1 ≤ get_or clients j 0) × (get_or clients j 0 ≤ 6)
listed_range clients j h l = rising_range 6 0 clients h.rising j l

-- a set of the first six numbers is below 64
pub byte_small : (n : ℕ) (p : ℕ → Bool) → n ≤ 6 → set_of n p < 64
byte_small n p h = omega (arith, set_of_lt n p, pow_mono {i = n} {j = 6} h)

-- the empty set picks nobody
pub picked_none : (cs : List ℕ) (c : ℕ) → picked cs 0 c ≡ false
picked_none cs c =
    ⊎_elim (λ (e : picked cs 0 c ≡ true). let (j, l, b, a) = picked_true cs 0 c e in absurd (false≢true (sym (has_zero j) ∙ b)))
    (λ (e : picked cs 0 c ≡ false). e)
    (either (picked cs 0 c))
