-- The members that a test keeps: which client stands at each place, and which list is left without one of them. The layers above cite it
-- where clients are kept by a set's number. Assumes nothing.
use mathlib.Core.Path.{◌≡◌, refl, sym, ap}
use mathlib.Core.Bool.{Bool, true, false}
use mathlib.Core.List.{List, ◌∷◌}
use mathlib.Core.Logic.{◌≢◌, ⊎_elim}
use Prim.Native.Nat.{ℕ, zero, suc, ◌+◌, ◌≤◌, ◌<◌}
use native.Mathlib.Nat.{le_refl, le_of_suc-le-suc, not-suc-le-zero, eq-or-lt_of_le}
use native.Mathlib.Omega.{arith}
use lib.ListN.{length}
use Rattle.market.specs.Market.{at}
use Rattle.market.specs.Members.{members, without}
use Rattle.market.proofs.Bools.{cond_cases}
use Rattle.market.proofs.Each.{Each, each_at, each_map}

-- tests that keep the same clients have the same members
pub members_same : (keep keep' : ℕ → Bool) (k c : ℕ) → ((y : ℕ) → c ≤ y → y < c + k → keep y ≡ keep' y)
    → members keep k c ≡ members keep' k c
unfolding members
members_same keep keep' zero c h = refl
members_same keep keep' (suc k) c h =
    rw (h c (le_refl c) (omega arith), members_same keep keep' k (suc c) (λ y l u. h y (omega arith) (omega arith)))

-- one of the clients c, c + 1, .. (k of them), and kept
abbrev Member : (keep : ℕ → Bool) (k c x : ℕ) → Type 0
Member keep k c x = (c ≤ x) × (x < c + k) × (keep x ≡ true)

members_each : (keep : ℕ → Bool) (k c : ℕ) → Each (Member keep k c) (members keep k c)
unfolding members
members_each keep zero c = tt
members_each keep (suc k) c =
    let rest = members keep k (suc c) in
    let later = each_map (Member keep k (suc c)) (Member keep (suc k) c) (λ x (l, u, t). (omega arith, omega arith, t)) rest
    (members_each keep k (suc c)) in
    cond_cases (Each (Member keep (suc k) c)) (keep c) (c ∷ rest) rest
    (λ t. ((le_refl c, omega arith, t), later)) (λ t. later)

-- the client at a place is one of those that are kept
pub members_at : (keep : ℕ → Bool) (k c d : ℕ) → d < length (members keep k c)
    → (c ≤ at (members keep k c) d) × (at (members keep k c) d < c + k) × (keep (at (members keep k c) d) ≡ true)
members_at keep k c d l = each_at (Member keep k c) (members keep k c) (members_each keep k c) d l

-- of the clients c, c + 1, .. (k of them) the second test keeps those that the first does, but for x
pub record Drops (keep keep' : ℕ → Bool) (k c x : ℕ) : Type 0 where
  pub dropped : keep' x ≡ false
  pub others : (y : ℕ) → c ≤ y → y < c + k → y ≢ x → keep' y ≡ keep y

module _ (keep keep' : ℕ → Bool) where
  drops_later : (k c x : ℕ) → Drops keep keep' (suc k) c x → Drops keep keep' k (suc c) x
  drops_later k c x r = record { dropped = r.dropped; others = λ y l u. r.others y (omega arith) (omega arith) }

  -- the clients before x are kept as they were
  drops_before : (k c x : ℕ) → Drops keep keep' (suc k) c x → c < x → keep' c ≡ keep c
  drops_before k c x r l = r.others c (le_refl c) (omega arith) (λ e. omega arith)

  -- without x, where x is the first client
  drops_first : (k c : ℕ) → Drops keep keep' (suc k) c c → members keep k (suc c) ≡ members keep' (suc k) c
  unfolding members
  drops_first k c r =
      rw r.dropped (members_same keep keep' k (suc c) (λ y l u. sym (r.others y (omega arith) (omega arith) (λ e. omega arith))))

  -- each place of the list: without the one there is without that client
  abbrev Places : (k c : ℕ) (cs : List ℕ) → Type 0
  Places k c cs = (d : ℕ) → d < length cs → Drops keep keep' k c (at cs d) → without d cs ≡ members keep' k c

  places_kept : (k c : ℕ) → Places k (suc c) (members keep k (suc c)) → keep c ≡ true → Places (suc k) c (c ∷ members keep k (suc c))
  unfolding without members
  places_kept k c h t zero l r = drops_first k c r
  places_kept k c h t (suc d) l r =
      let b = (members_at keep k (suc c) d (le_of_suc-le-suc l)).0 in
      rw (drops_before k c _ r b, t) (ap (λ (cs : List ℕ). c ∷ cs) (h d (le_of_suc-le-suc l) (drops_later k c _ r)))

  places_passed : (k c : ℕ) → Places k (suc c) (members keep k (suc c)) → keep c ≡ false → Places (suc k) c (members keep k (suc c))
  unfolding members
  places_passed k c h t d l r =
      let b = (members_at keep k (suc c) d l).0 in
      rw (drops_before k c _ r b, t) (h d l (drops_later k c _ r))

  -- the members without the one at a place are those that are kept without that client
  pub members_without : (k c d : ℕ) → d < length (members keep k c) → Drops keep keep' k c (at (members keep k c) d)
      → without d (members keep k c) ≡ members keep' k c
  unfolding members
  members_without zero c d l r = absurd (not-suc-le-zero l)
  members_without (suc k) c d l r =
      let rest = members keep k (suc c) in
      let places : Places k (suc c) rest = members_without k (suc c) in
      cond_cases (Places (suc k) c) (keep c) (c ∷ rest) rest (places_kept k c places) (places_passed k c places) d l r

  first_here : (k c : ℕ) → keep c ≡ true → Drops keep keep' (suc k) c c → members keep (suc k) c ≡ c ∷ members keep' (suc k) c
  unfolding members
  first_here k c t r = rw t (ap (λ (cs : List ℕ). c ∷ cs) (drops_first k c r))

  -- the first client that is kept stands before the others
  pub members_first : (k c x : ℕ) → c ≤ x → x < c + k → keep x ≡ true → ((y : ℕ) → c ≤ y → y < x → keep y ≡ false)
      → Drops keep keep' k c x → members keep k c ≡ x ∷ members keep' k c
  unfolding members
  members_first zero c x l u t h r = absurd (omega arith)
  members_first (suc k) c x l u t h r =
      ⊎_elim
      (λ (e : c ≡ x). rw (← e) (first_here k c (rw (← e) at t) (rw (← e) at r)))
      (λ (b : c < x). let shut = h c (le_refl c) b in
      rw (drops_before k c x r b, shut) (members_first k (suc c) x b (omega arith) t (λ y a. h y (omega arith)) (drops_later k c x r)))
      (eq-or-lt_of_le l)
