-- The tests of question 7, of tables and of what question 10 reads are true exactly where the plain facts hold. Cited by whoever rests on
-- an answer, and by the proofs of the functions that put question 7. Assumes nothing.
use mathlib.Core.Path.{◌≡◌, refl}
use mathlib.Core.Bool.{Bool, true, false, ◌&&◌, false≢true}
use mathlib.Core.Logic.{◌↔◌}
use Prim.Native.Nat.{ℕ, ◌≤◌}
use native.Mathlib.Omega.{arith}
use Rattle.pricing.specs.Certificate.{Certificate}
use Rattle.pricing.proofs.Questions.{every_iff, every_set_iff, leb_iff}
use Rattle.pricing.specs.Ranges.{most_winners, most_scale, most_discount, most_multiplier}
use Rattle.pricing.specs.Ranges.{winners_at_most, sets_at_most, counts_in_range, winners_in_range, sets_in_range, g_in_range, in_range}
use lib.IntN.{nat_abs}
use Rattle.certificate.specs.Bounds.{tables_fit, reserve_in_range}
use Rattle.certificate.specs.InRange.{WinnersUnder, SetsUnder, Ranges, Tables, Reserves}

-- PARTS
and_iff : (a b : Bool) {P Q : Type 0} → (a ≡ true) ↔ P → (b ≡ true) ↔ Q → ((a && b) ≡ true) ↔ (P × Q)
and_iff true b p q = (λ e. (p.0 refl, q.0 e), λ h. q.1 h.1)
and_iff false b p q = (λ e. absurd (false≢true e), λ h. p.1 h.0)

winners_iff : (w b : ℕ) (f : ℕ → ℕ) → (winners_at_most w b f ≡ true) ↔ WinnersUnder w b f
unfolding winners_at_most
winners_iff w b f = every_iff w _ _ (λ j. leb_iff (f j) b)

sets_iff : (w b : ℕ) (f : ℕ → ℕ) → (sets_at_most w b f ≡ true) ↔ SetsUnder w b f
unfolding sets_at_most
sets_iff w b f = every_set_iff w _ _ (λ L. leb_iff (f L) b)

-- QUESTION 7, part by part
counts_iff : (w q s : ℕ) →
    (counts_in_range w q s ≡ true) ↔ ((w ≤ most_winners) × (1 ≤ q) × (q ≤ most_scale) × (1 ≤ s) × (s ≤ most_scale))
counts_iff w q s = grind (arith, leb_iff)

by_winner_iff : (w : ℕ) (X Z R T : ℕ → ℕ) → (winners_in_range w X Z R T ≡ true)
    ↔ (WinnersUnder w most_discount X × WinnersUnder w most_scale Z × WinnersUnder w most_multiplier R × WinnersUnder w most_multiplier T)
by_winner_iff w X Z R T = grind (arith, winners_iff)

by_set_iff : (w : ℕ) (Y U : ℕ → ℕ) → (sets_in_range w Y U ≡ true) ↔ (SetsUnder w most_scale Y × SetsUnder w most_multiplier U)
by_set_iff w Y U = grind (arith, sets_iff)

pub in_range_iff : (c : Certificate) → (in_range c ≡ true) ↔ Ranges c
unfolding in_range g_in_range
in_range_iff c =
    let arrays = and_iff _ _ (and_iff _ _ (counts_iff c.w c.q c.s) (by_winner_iff c.w c.X c.Z c.R c.T)) (by_set_iff c.w c.Y c.U) in
    let parts = and_iff _ _ arrays (leb_iff (nat_abs c.G) most_multiplier) in
    (λ e. let p = parts.0 e in grind arith, λ r. parts.1 (grind arith))

-- TABLES, AND WHAT QUESTION 10 READS
pub tables_fit_iff : (w : ℕ) (σ ρ : ℕ → ℕ) → (tables_fit w σ ρ ≡ true) ↔ Tables w σ ρ
unfolding tables_fit
tables_fit_iff w σ ρ = grind (arith, winners_iff, sets_iff, leb_iff)

pub reserve_in_range_iff : (w q : ℕ) (ρ : ℕ → ℕ) → (reserve_in_range w q ρ ≡ true) ↔ Reserves w q ρ
unfolding reserve_in_range
reserve_in_range_iff w q ρ = grind (arith, winners_iff, leb_iff)

-- all three, for the attributes of functions that are `Ok` where everything is in range
pub ruleset range_facts = (in_range_iff, tables_fit_iff, reserve_in_range_iff)
