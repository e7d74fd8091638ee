-- Sets of clients as numbers: the first client and the others, the set without one of its clients, and clients that add nothing left out.
-- Cited by the proofs of src/client_sets.rt, src/full.rt and src/pass.rt. Assumes nothing.
use mathlib.Core.Path.{◌≡◌, refl, sym, ap, ap₂, fun_ext, ◌∙◌}
use mathlib.Core.Bool.{Bool, true, false, cond, ◌&&◌, false≢true, and-eq-true_iff}
use mathlib.Core.List.{List, [], ◌∷◌}
use mathlib.Core.Logic.{◌≢◌, ⊎_elim}
use Prim.Native.Nat.{ℕ, zero, suc, ◌+◌, ◌-◌, ◌/◌, ◌%◌, ◌^◌, ◌≤◌, ◌<◌, min}
use native.Mathlib.Nat.{pow-suc, le_of_suc-le-suc}
use native.Mathlib.Decide.{ℕ_discrete, dec_lt}
use native.Mathlib.Omega.{arith}
use borrow.Author.Tests.{eqb-true, eqb-false, eq-eqb, ne_eqb}
use lib.Bits.{bit_and, and_shr, and_step, and_self, and_le_l}
use lib.Count.{under, count_trailing_zeros, ones, ones_step}
use lib.Dec.{eqb}
use lib.ListN.{length}
use lib.Pow.{pow_pos}
use Rattle.sets.specs.Sets.{has}
use Rattle.sets.proofs.Members.{has_low, has_half, has_zero, has_above, set_ext}
use Rattle.market.specs.Market.{Market, at}
use Rattle.market.specs.Greatest.{choose}
use Rattle.market.specs.Members.{reach, members, without, RowOf, choose_in}
use Rattle.market.proofs.Bools.{either}
use Rattle.market.proofs.Members.{members_same, members_at, members_without, members_first, Drops}
use Rattle.market.proofs.ReachKept.{reach_kept}
use Rattle.market.proofs.RowOf.{row_chooses}
use Rattle.winners.specs.ClientSets.{clients_in, First, Within}

-- ONE CLIENT LEFT OUT
record Dropped (s j : ℕ) : Type 0 where
  there : 2 ^ j ≤ s
  gone : has (s - 2 ^ j) j ≡ false
  kept : (i : ℕ) → i ≢ j → has (s - 2 ^ j) i ≡ has s i

dropped : (j s : ℕ) → has s j ≡ true → Dropped s j
dropped zero s h =
    let odd : s % 2 ≡ 1 = eqb-true (s % 2) 1 (sym (has_low s) ∙ h) in
    let even : (s - 2 ^ 0) % 2 ≡ 0 = omega arith in
    let half : (s - 2 ^ 0) / 2 ≡ s / 2 = omega arith in
    record {
      there = omega arith;
      gone = has_low (s - 2 ^ 0) ∙ ap (λ (x : ℕ). eqb x 1) even;
      kept = λ i n. same i n half;
    }
  where
    same : (i : ℕ) → i ≢ 0 → (s - 2 ^ 0) / 2 ≡ s / 2 → has (s - 2 ^ 0) i ≡ has s i
    same zero n half = absurd (n refl)
    same (suc i) n half = has_half (s - 2 ^ 0) i ∙ ap (λ (x : ℕ). has x i) half ∙ sym (has_half s i)
dropped (suc j) s h =
    let d = dropped j (s / 2) (sym (has_half s j) ∙ h) in
    let there : 2 ^ suc j ≤ s = omega (arith, d.there, pow-suc 2 j) in
    let half : (s - 2 ^ suc j) / 2 ≡ s / 2 - 2 ^ j = omega (arith, pow-suc 2 j) in
    record {
      there = there;
      gone = has_half (s - 2 ^ suc j) j ∙ ap (λ (x : ℕ). has x j) half ∙ d.gone;
      kept = λ i n. same i n there half d.kept;
    }
  where
    same : (i : ℕ) → i ≢ suc j → 2 ^ suc j ≤ s → (s - 2 ^ suc j) / 2 ≡ s / 2 - 2 ^ j
        → ((i : ℕ) → i ≢ j → has (s / 2 - 2 ^ j) i ≡ has (s / 2) i) → has (s - 2 ^ suc j) i ≡ has s i
    same zero n there half k =
        let low : (s - 2 ^ suc j) % 2 ≡ s % 2 = omega (arith, pow-suc 2 j) in
        has_low (s - 2 ^ suc j) ∙ ap (λ (x : ℕ). eqb x 1) low ∙ sym (has_low s)
    same (suc i) n there half k =
        has_half (s - 2 ^ suc j) i ∙ ap (λ (x : ℕ). has x i) half ∙ k i (λ e. n (ap suc e)) ∙ sym (has_half s i)

pub has_there : (s j : ℕ) → has s j ≡ true → 2 ^ j ≤ s
has_there s j h = (dropped j s h).there

-- a client is of the set without another if it is of the set and is not that one
pub fewer_within : (s j : ℕ) → has s j ≡ true → Within (s - 2 ^ j) s
fewer_within s j h i y = elim (ℕ_discrete i j) [
  | yes e ↦ absurd (false≢true (sym (dropped j s h).gone ∙ (rw e at y)))
  | no n ↦ sym ((dropped j s h).kept i n) ∙ y
]

-- and of the clients that are not, it alone has gone
pub gone_alone : (s j i : ℕ) → has s j ≡ true → has (s - 2 ^ j) i ≡ false → i ≢ j → has s i ≡ false
gone_alone s j i h z n = sym ((dropped j s h).kept i n) ∙ z

-- as a test of clients
drops : (s x : ℕ) → 1 ≤ x → has s (x - 1) ≡ true → Drops (λ c. has s (c - 1)) (λ c. has (s - 2 ^ (x - 1)) (c - 1)) 6 1 x
drops s x l h = record {
  dropped = (dropped (x - 1) s h).gone;
  others = λ y a b n. (dropped (x - 1) s h).kept (y - 1) (λ e. n (omega arith));
}

-- THE FIRST CLIENT AND THE OTHERS
pub clients_first : (s c : ℕ) → First s c → clients_in s ≡ c ∷ clients_in (s - 2 ^ (c - 1))
clients_first s c f =
    members_first (λ x. has s (x - 1)) (λ x. has (s - 2 ^ (c - 1)) (x - 1)) 6 1 c f.low (omega (arith, f.high)) f.there
    (λ y a b. f.none (y - 1) (omega arith)) (drops s c f.low f.there)

pub others_less : (s c : ℕ) → First s c → s - 2 ^ (c - 1) < s
others_less s c f = omega (arith, has_there s (c - 1) f.there, pow_pos (c - 1))

-- the set of nobody
pub clients_none : clients_in 0 ≡ []
unfolding members
clients_none = rw (has_zero 0, has_zero 1, has_zero 2, has_zero 3, has_zero 4, has_zero 5)

-- HOW MANY CLIENTS
-- a client more, or not, by a lowest bit
one_more : (b : Bool) (c : ℕ) (rest : List ℕ) → length (cond b (c ∷ rest) rest) ≡ cond b 1 0 + length rest
one_more true c rest = omega arith
one_more false c rest = omega arith

low_bit : (s : ℕ) → cond (eqb (s % 2) 1) 1 0 ≡ s % 2
low_bit s = elim (ℕ_discrete (s % 2) 1) [
  | yes e ↦ rw (eq-eqb (s % 2) 1 e) (sym e)
  | no n ↦ rw (ne_eqb (s % 2) 1 n) (omega arith)
]

-- they are as many as the bits that are set
members_count : (k c s : ℕ) → s < 2 ^ k → length (members (λ x. has s (x - c)) k c) ≡ ones s
unfolding members ones
members_count zero c zero l = refl
members_count zero c (suc s) l = absurd (omega arith)
members_count (suc k) c s l =
    let here : c - c ≡ 0 = omega arith in
    let rest : members (λ x. has s (x - c)) k (suc c) ≡ members (λ x. has (s / 2) (x - suc c)) k (suc c)
    = members_same _ _ k (suc c) (λ y a b. let next : y - c ≡ suc (y - suc c) = omega arith in rw next (has_half s (y - suc c))) in
    let first : cond (has s (c - c)) 1 0 ≡ s % 2 = rw (here, has_low s) (low_bit s) in
    let others = members_count k (suc c) (s / 2) (omega (arith, pow-suc 2 k)) in
    omega (arith, one_more (has s (c - c)) c (members (λ x. has s (x - c)) k (suc c)), first, ap length rest, others, ones_step s)

pub clients_count : (s : ℕ) → s < 64 → ones s ≡ length (clients_in s)
clients_count s l = sym (members_count 6 1 s (omega arith))

-- the client at a place has a bit, and without it the set is that without the bit
pub clients_without : (s d : ℕ) → d < length (clients_in s)
    → (j : ℕ) × (j < 6) × (has s j ≡ true) × (without d (clients_in s) ≡ clients_in (s - 2 ^ j))
clients_without s d l =
    let keep : ℕ → Bool = λ c. has s (c - 1) in
    let x = at (clients_in s) d in
    let (low, high, on) = members_at keep 6 1 d l in
    (x - 1, omega arith, on, members_without keep (λ c. has (s - 2 ^ (x - 1)) (c - 1)) 6 1 d l (drops s x low on))

-- fewer clients reach no more
pub reach_fewer : (m : Market) (wt : ℕ → ℕ) (s j : ℕ) (ls : List ℕ) → has s j ≡ true
    → reach m wt (clients_in (s - 2 ^ j)) ls ≤ reach m wt (clients_in s) ls
reach_fewer m wt s j ls h =
    reach_kept m wt (λ c. has s (c - 1)) (λ c. has (s - 2 ^ j) (c - 1)) 6 1 ls (λ y a b t. fewer_within s j h (y - 1) t)

-- CLIENTS WITHOUT BIDS
has_and : (a b j : ℕ) → has (bit_and a b) j ≡ (has a j && has b j)
unfolding has
has_and a b j = rw (and_shr a b j) (low (a / 2 ^ j) (b / 2 ^ j))
  where
    bits : (x y z : ℕ) → x < 2 → y < 2 → z ≡ min x y → eqb z 1 ≡ (eqb x 1 && eqb y 1)
    bits zero y z l m e = let none : z ≡ 0 = omega arith in rw none
    bits (suc zero) y z l m e = let same : z ≡ y = omega arith in rw same
    bits (suc (suc x)) y z l m e = absurd (omega arith)

    low : (a b : ℕ) → eqb (bit_and a b % 2) 1 ≡ (eqb (a % 2) 1 && eqb (b % 2) 1)
    low a b = bits (a % 2) (b % 2) (bit_and a b % 2) (omega arith) (omega arith) (omega (arith, and_step a b))

-- what both have, where it is all of the first
pub and_within : (s o : ℕ) → bit_and s o ≡ s → Within s o
and_within s o e j h = ((and-eq-true_iff (has s j) (has o j)).0 (sym (has_and s o j) ∙ ap (λ (x : ℕ). has x j) e ∙ h)).1

pub within_and : (s o : ℕ) → s < 64 → Within s o → bit_and s o ≡ s
within_and s o l w =
    set_ext 6 (bit_and s o) s (omega (arith, and_le_l s o)) l (λ j b. has_and s o j ∙ ⊎_elim
    (λ (y : has s j ≡ true). rw (y, w j y))
    (λ (n : has s j ≡ false). rw n)
    (either (has s j)))

module _ (m : Market) (wt : ℕ → ℕ) (held : ℕ) (idle : (j : ℕ) → j < 6 → has held j ≡ false → RowOf m m.bids (1 + j) []) where
  -- they add nothing, and are left out
  reach_left : (k c s : ℕ) → 1 ≤ c → c + k ≤ 7 → (ls : List ℕ)
      → reach m wt (members (λ x. has s (x - 1)) k c) ls ≡ reach m wt (members (λ x. has (bit_and s held) (x - 1)) k c) ls
  unfolding members reach choose_in
  reach_left zero c s a l ls = refl
  reach_left (suc k) c s a l ls =
      let later = reach_left k (suc c) s (omega arith) (omega arith) in
      let both = has_and s held (c - 1) in
      let same : 1 + (c - 1) ≡ c = omega arith in
      ⊎_elim
      (λ (y : has s (c - 1) ≡ true). ⊎_elim
      (λ (z : has held (c - 1) ≡ true). let on : has (bit_and s held) (c - 1) ≡ true = both ∙ (rw (y, z)) in
      rw (y, on) (ap₂ (λ (p : ℕ) (on : List ℕ → ℕ). choose m wt m.bids c ls p on) (later ls) (fun_ext later)))
      (λ (z : has held (c - 1) ≡ false). let off : has (bit_and s held) (c - 1) ≡ false = both ∙ (rw (y, z)) in
      rw (y, off) (row_chooses m wt ls _ _ m.bids c [] (rw same at (idle (c - 1) (omega arith) z)) ∙ later ls))
      (either (has held (c - 1))))
      (λ (n : has s (c - 1) ≡ false). let off : has (bit_and s held) (c - 1) ≡ false = both ∙ (rw n) in rw (n, off) (later ls))
      (either (has s (c - 1)))

  pub reach_held : (s : ℕ) (ls : List ℕ) → reach m wt (clients_in s) ls ≡ reach m wt (clients_in (bit_and s held)) ls
  reach_held s ls = reach_left 6 1 s (omega arith) (omega arith) ls

-- HOW MANY THERE ARE
pub clients_few : (keep : ℕ → Bool) (k c : ℕ) → length (members keep k c) ≤ k
unfolding members
clients_few keep zero c = omega arith
clients_few keep (suc k) c = ⊎_elim
    (λ (y : keep c ≡ true). rw y (omega (arith, clients_few keep k (suc c))))
    (λ (n : keep c ≡ false). rw n (omega (arith, clients_few keep k (suc c))))
    (either (keep c))

-- THE LOWEST BIT
record Lowest (s j : ℕ) : Type 0 where
  there : has s j ≡ true
  none : (i : ℕ) → i < j → has s i ≡ false

-- of a number, by its lowest digit and the lowest bit of its half
by_low : (s t d : ℕ) → d ≡ s % 2 → (s % 2 ≡ 0 → Lowest (s / 2) t) → Lowest s (under d t)
by_low s t zero e half = record {
  there = has_half s t ∙ (half (sym e)).there;
  none = λ i b. before i b (half (sym e)).none;
}
  where
    before : (i : ℕ) → i < suc t → ((i : ℕ) → i < t → has (s / 2) i ≡ false) → has s i ≡ false
    before zero l h = has_low s ∙ (rw (← e))
    before (suc i) l h = has_half s i ∙ h i (le_of_suc-le-suc l)
by_low s t (suc d) e half =
    let odd : s % 2 ≡ 1 = omega arith in
    record { there = has_low s ∙ (rw odd); none = λ i b. absurd (omega arith) }

lowest_is : (k s : ℕ) → 1 ≤ s → s < 2 ^ k → Lowest s (count_trailing_zeros k s)
unfolding count_trailing_zeros
lowest_is zero s l u = absurd (omega arith)
lowest_is (suc k) s l u =
    by_low s (count_trailing_zeros k (s / 2)) (s % 2) refl (λ e. lowest_is k (s / 2) (omega arith) (omega (arith, pow-suc 2 k)))

-- the number before s has the bits above the lowest as s has them, and not the lowest
lowest_off : (j s : ℕ) → Lowest s j → bit_and s (s - 1) ≡ s - 2 ^ j
lowest_off zero s l =
    let odd : s % 2 ≡ 1 = eqb-true (s % 2) 1 (sym (has_low s) ∙ l.there) in
    let half : (s - 1) / 2 ≡ s / 2 = omega arith in
    let above : bit_and (s / 2) ((s - 1) / 2) ≡ s / 2 = rw half (and_self (s / 2)) in
    omega (arith, and_step s (s - 1))
lowest_off (suc j) s l =
    let even : s % 2 ≡ 0 = low (s % 2) (omega arith) (sym (has_low s) ∙ l.none 0 (omega arith)) in
    let there = has_there (s / 2) j (sym (has_half s j) ∙ l.there) in
    let half : (s - 1) / 2 ≡ s / 2 - 1 = omega (arith, pow_pos j) in
    let above = lowest_off j (s / 2) (record {
      there = sym (has_half s j) ∙ l.there;
      none = λ i b. sym (has_half s i) ∙ l.none (suc i) (omega arith);
    }) in
    omega (arith, and_step s (s - 1), ap (λ (x : ℕ). bit_and (s / 2) x) half, above, there, pow-suc 2 j)
  where
    low : (d : ℕ) → d < 2 → eqb d 1 ≡ false → d ≡ 0
    low d b n = omega (arith, eqb-false d 1 n)

pub others_are : (s c : ℕ) → First s c → bit_and s (s - 1) ≡ s - 2 ^ (c - 1)
others_are s c f = lowest_off (c - 1) s (record { there = f.there; none = f.none })

-- the first client, by the zeros below it
pub first_is : (s r : ℕ) → 1 ≤ s → s < 64 → r ≡ count_trailing_zeros 64 s + 1 → First s r
first_is s r l u e =
    let low = lowest_is 64 s l (omega arith) in
    let back : count_trailing_zeros 64 s + 1 - 1 ≡ count_trailing_zeros 64 s = omega arith in
    rw e (record {
      low = omega arith;
      high = elim (dec_lt (count_trailing_zeros 64 s) 6) [
        | yes b ↦ omega arith
        | no b ↦ absurd (false≢true (sym (has_above 6 s (count_trailing_zeros 64 s) (omega arith) (omega arith)) ∙ low.there))
      ];
      there = rw back low.there;
      none = λ j b. low.none j (omega arith);
    })

-- a set that is not empty has one
pub some_client : (s : ℕ) → 1 ≤ s → s < 64 → 1 ≤ length (clients_in s)
some_client s l u = rw (clients_first s _ (first_is s _ l u refl)) (omega arith)
