-- The theorems on discounts as fractions, each with a denominator of its own: certified discounts are the best and the only ones, and
-- bounds for sets suffice. Cited by the promise on accepted discounts. Assumes nothing.
use mathlib.Core.Path.{◌≡◌, ap}
use mathlib.Core.Logic.Iff
use mathlib.Core.Logic.{inl, inr, ◌↔◌}
use Prim.Native.Nat.{ℕ, ◌+◌, ◌*◌, ◌^◌, ◌≤◌, ◌<◌}
use native.Mathlib.Nat.{mul-le-mul_right, eq-zero-or-pos}
use native.Mathlib.Omega.{arith}
use Rattle.sets.specs.Sums.{sum}
use Rattle.sets.specs.Sets.{over_sets}
use Rattle.sets.proofs.Sums.{term_zero}
use Rattle.pricing.specs.Fractions.{Fraction, over, Equal}
use Rattle.pricing.specs.Certificate.{Certificate, Balances, Certified, WithinReserve, WithinSets, Differs}
use Rattle.pricing.specs.Auction.{Auction}
use Rattle.pricing.specs.Discounts.{Proper, ReserveKept, SetsKept, NoneAbove, own, Unlike, Inferior}
use Rattle.pricing.proofs.Fractions.{Is, over_is, equal}
use Rattle.pricing.proofs.Denominators.{Common, common}
use Rattle.pricing.proofs.Discounts.{reserve_whole, sets_whole, none_whole, inferior_whole}
use Rattle.pricing.proofs.Optimal.{certificate_optimal}
use Rattle.pricing.proofs.Unique.{certificate_unique}
use Rattle.pricing.proofs.Suffice.{sets_suffice}

-- a certificate with q zero certifies 0 / 0 alone, from which nothing differs
scale_positive : (c : Certificate) (σ ρ : ℕ → ℕ) → 1 ≤ c.s → Balances c σ ρ → (d : ℕ → Fraction) → Unlike c.w d (own c) → 1 ≤ c.q
unfolding Unlike Equal own over
scale_positive c σ ρ positive b d u = elim (eq-zero-or-pos c.q) [ inl e ↦ absurd (u.2 (same e)) | inr l ↦ l ]
  where
    none : c.q ≡ 0 → sum c.w c.X ≡ 0
    none e =
        omega (
          arith,
          b.totals,
          mul-le-mul_right (sum c.w c.X) positive,
          ap (λ (z : ℕ). z * (over_sets c.w (λ L. c.Y L * σ L) + sum c.w (λ j. c.Z j * ρ j))) e,
        )

    same : c.q ≡ 0 → (d u.0).num * c.q ≡ c.X u.0 * (d u.0).den
    same e =
        omega (
          arith,
          ap (λ (z : ℕ). (d u.0).num * z) e,
          ap (λ (z : ℕ). z * (d u.0).den) (term_zero c.w c.X (none e) u.0 u.1),
        )

pub own_is : (c : Certificate) → 1 ≤ c.q → (j : ℕ) → j < c.w → Is c.q (own c j) (c.X j)
unfolding own
own_is c l j m = over_is (c.X j) c.q l

pub fraction_optimal : (c : Certificate) (σ ρ : ℕ → ℕ) → 1 ≤ c.s → Balances c σ ρ → (d : ℕ → Fraction) → Proper c.w d →
    ReserveKept c.w ρ d → SetsKept c.w σ d → Unlike c.w d (own c) → Inferior c.w σ d (own c)
unfolding Unlike Differs
fraction_optimal c σ ρ positive b d proper reserve sets u =
    (inferior_whole c.w σ c.q y.den c.X y.num (own c) d l y.positive (own_is c l) y.each).1
    (certificate_optimal c σ ρ positive b y.den y.num
    ((reserve_whole c.w y.den y.positive d y.num y.each ρ).0 reserve)
    ((sets_whole c.w y.den y.positive d y.num y.each σ).0 sets)
    (u.0, u.1, λ p. u.2 ((equal y.positive l (y.each u.0 u.1) (own_is c l u.0 u.1)).1 p)))
  where
    y : Common c.w d
    y = common c.w d proper

    l : 1 ≤ c.q
    l = scale_positive c σ ρ positive b d u

-- questions 10 and 11 are the bounds of a certificate's own discounts
pub own_reserve : (c : Certificate) (ρ : ℕ → ℕ) → 1 ≤ c.q → ReserveKept c.w ρ (own c) ↔ WithinReserve c.w c.q ρ c.X
own_reserve c ρ l = reserve_whole c.w c.q l (own c) c.X (own_is c l) ρ

pub own_sets : (c : Certificate) (σ : ℕ → ℕ) → 1 ≤ c.q → SetsKept c.w σ (own c) ↔ WithinSets c.w c.q σ c.X
own_sets c σ l = sets_whole c.w c.q l (own c) c.X (own_is c l) σ

pub fraction_unique : (c c' : Certificate) (σ ρ : ℕ → ℕ) → c.w ≡ c'.w → Certified c σ ρ → Certified c' σ ρ →
    (j : ℕ) → j < c.w → Equal (own c j) (own c' j)
unfolding Equal own over
fraction_unique = certificate_unique

pub fraction_sets_suffice : {w : ℕ} (m : Auction w) (win σ : ℕ → ℕ) → ((s : ℕ) → s < 2 ^ w → σ s + m.without s ≡ sum w win) →
    (d : ℕ → Fraction) → Proper w d → ReserveKept w win d → NoneAbove m win d ↔ SetsKept w σ d
unfolding WithinReserve
fraction_sets_suffice {w} m win σ surplus d proper within =
    Iff.trans (none_whole w y.den y.positive d y.num y.each m win)
    (Iff.trans
    (sets_suffice m win σ surplus y.den y.num ((reserve_whole w y.den y.positive d y.num y.each win).0 within))
    (Iff.symm (sets_whole w y.den y.positive d y.num y.each σ)))
  where
    y : Common w d
    y = common w d proper
