-- Keys, no two of which are equal: where a key stands among them, and sums in which one key alone counts. The clients of winners are such
-- keys. Cited by the laws of shares and of lowered bids. Assumes nothing.
use mathlib.Core.Path.{◌≡◌, sym, ap, ◌∙◌}
use mathlib.Core.Bool.{Bool, true, false, cond, false≢true}
use mathlib.Core.Logic.{◌≢◌, ◌⊎◌, inl, inr, ⊎_elim}
use Prim.Native.Nat.{ℕ, ◌+◌, ◌<◌}
use native.Mathlib.Nat.{eq-or-lt_of_le}
use native.Mathlib.Decide.{dec_le}
use native.Mathlib.Omega.{arith}
use lib.Dec.{eqb}
use borrow.Author.Tests.{eqb-true, eq-eqb, ne_eqb}
use Rattle.sets.specs.Sums.{sum}
use Rattle.sets.proofs.Sums.{sum_one, sum_zero}
use Rattle.market.proofs.Bools.{either}
use Rattle.winners.specs.Surplus.{any}
use Rattle.winners.proofs.Surplus.{any_true, true_any}
use Rattle.demands.proofs.Bools.{false_unless}

-- no two of the first w keys are equal
abbrev pub Different : (w : ℕ) → (key : ℕ → ℕ) → Type 0
Different w key = (j k : ℕ) → j < k → k < w → key j ≢ key k

-- c is none of them
abbrev pub Absent : (w : ℕ) → (key : ℕ → ℕ) → (c : ℕ) → Type 0
Absent w key c = (k : ℕ) → k < w → c ≢ key k

-- c is one of them
unfoldable pub among : (w : ℕ) → (key : ℕ → ℕ) → (c : ℕ) → Bool
among w key c = any w (λ k. eqb c (key k))

-- c's place among them
pub record Place (w : ℕ) (key : ℕ → ℕ) (c : ℕ) : Type 0 where
  pub at : ℕ
  pub below : at < w
  pub is : c ≡ key at

module _ (w : ℕ) (key : ℕ → ℕ) (c : ℕ) where
  pub among_place : among w key c ≡ true → Place w key c
  unfolding among
  among_place h = let (k, l, e) = any_true w (λ k. eqb c (key k)) h in record { at = k; below = l; is = eqb-true c (key k) e }

  pub place_among : Place w key c → among w key c ≡ true
  unfolding among
  place_among p = true_any w (λ k. eqb c (key k)) p.at p.below (eq-eqb c (key p.at) p.is)

  pub absent_among : Absent w key c → among w key c ≡ false
  absent_among h = false_unless (among w key c) (λ t. let p = among_place t in h p.at p.below p.is)

  -- c has a place, or is absent
  pub place_or_absent : Place w key c ⊎ Absent w key c
  place_or_absent =
      ⊎_elim (λ (t : among w key c ≡ true). inl (among_place t))
      (λ (t : among w key c ≡ false).
      inr (λ k l e. false≢true (sym t ∙ place_among (record { at = k; below = l; is = e }))))
      (either (among w key c))

  -- a sum in which the key c alone counts
  abbrev pub sum_at : (f : ℕ → ℕ) → ℕ
  sum_at f = sum w (λ k. cond (eqb c (key k)) (f k) 0)

  pub sum_absent : (f : ℕ → ℕ) → Absent w key c → sum_at f ≡ 0
  sum_absent f h = sum_zero w (λ k. cond (eqb c (key k)) (f k) 0) (λ k l. ap (λ (b : Bool). cond b (f k) 0) (ne_eqb c (key k) (h k l)))

module _ (w : ℕ) (key : ℕ → ℕ) (different : Different w key) where
  -- a key stands at one place alone
  pub key_once : (j k : ℕ) → j < w → k < w → key j ≡ key k → j ≡ k
  key_once j k l m e =
      elim (dec_le j k) [
        | yes o ↦ elim (eq-or-lt_of_le o) [ inl p ↦ p | inr p ↦ absurd (different j k p m e) ]
        | no o ↦ absurd (different k j (omega arith) l (sym e))
      ]

  pub sum_place : (c : ℕ) (f : ℕ → ℕ) (k : ℕ) → k < w → c ≡ key k → sum_at w key c f ≡ f k
  sum_place c f k l e =
      sum_one w (λ j. cond (eqb c (key j)) (f j) 0) k l
      (λ j m n. ap (λ (b : Bool). cond b (f j) 0) (ne_eqb c (key j) (λ p. n (key_once j k m l (sym p ∙ e)))))
      ∙ ap (λ (b : Bool). cond b (f k) 0) (eq-eqb c (key k) e)

  -- what counts at c's place if it has one, and otherwise g
  pub sum_either : (c g : ℕ) (f : ℕ → ℕ) (h : ℕ) → ((k : ℕ) → k < w → c ≡ key k → f k ≡ h) → (Absent w key c → g ≡ h) →
      cond (among w key c) 0 g + sum_at w key c f ≡ h
  sum_either c g f h there none =
      ⊎_elim
      (λ (p : Place w key c). rw (place_among w key c p)
      (omega (arith, sum_place c f p.at p.below p.is, there p.at p.below p.is)))
      (λ (n : Absent w key c). rw (absent_among w key c n) (omega (arith, sum_absent w key c f n, none n)))
      (place_or_absent w key c)
