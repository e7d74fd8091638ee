-- The certified discounts are the only ones: two certificates for the same bounds certify discounts of the same values. Cited by what is
-- said of accepted discounts. Assumes nothing.
use mathlib.Core.Path.{◌≡◌, sym, subst}
use mathlib.Core.Logic.{◌≢◌, inl, inr}
use Prim.Native.Nat.{ℕ, ◌*◌, ◌<◌}
use native.Mathlib.Decide.{ℕ_discrete}
use native.Mathlib.Omega.{arith}
use Rattle.pricing.specs.Certificate.{Certificate, WithinReserve, WithinSets, Certified, Differs, Worse}
use Rattle.pricing.proofs.Optimal.{certificate_optimal}

-- no two discounts are each worse than the other
pub worse_asym : (w : ℕ) (σ : ℕ → ℕ) (q : ℕ) (x : ℕ → ℕ) (r : ℕ) (y : ℕ → ℕ) → Worse w σ q x r y → Worse w σ r y q x → ⊥
unfolding Worse
worse_asym w σ q x r y (inl l) (inl m) = omega arith
worse_asym w σ q x r y (inl l) (inr m) = omega arith
worse_asym w σ q x r y (inr l) (inl m) = omega arith
worse_asym w σ q x r y (inr l) (inr m) = omega arith

pub certificate_unique : (c c' : Certificate) (σ ρ : ℕ → ℕ) → c.w ≡ c'.w → Certified c σ ρ → Certified c' σ ρ →
    (j : ℕ) → j < c.w → c.X j * c'.q ≡ c'.X j * c.q
unfolding Differs
certificate_unique c c' σ ρ e good good' j l = go (ℕ_discrete (c.X j * c'.q) (c'.X j * c.q))
  where
    beaten : c.X j * c'.q ≢ c'.X j * c.q → Worse c.w σ c.q c.X c'.q c'.X
    beaten n =
        certificate_optimal c σ ρ good.positive good.balances c'.q c'.X
        (subst (λ (w : ℕ). WithinReserve w c'.q ρ c'.X) (sym e) good'.reserve)
        (subst (λ (w : ℕ). WithinSets w c'.q σ c'.X) (sym e) good'.sets) (j, l, λ p. n (sym p))

    beats : c.X j * c'.q ≢ c'.X j * c.q → Worse c.w σ c'.q c'.X c.q c.X
    beats n =
        subst (λ (w : ℕ). Worse w σ c'.q c'.X c.q c.X) (sym e)
        (certificate_optimal c' σ ρ good'.positive good'.balances c.q c.X
        (subst (λ (w : ℕ). WithinReserve w c.q ρ c.X) e good.reserve)
        (subst (λ (w : ℕ). WithinSets w c.q σ c.X) e good.sets) (j, subst (λ (w : ℕ). j < w) e l, n))

    go : Dec (c.X j * c'.q ≡ c'.X j * c.q) → c.X j * c'.q ≡ c'.X j * c.q
    go (yes p) = p
    go (no n) = absurd (worse_asym c.w σ c.q c.X c'.q c'.X (beaten n) (beats n))
