-- The definitions on an example, computed: two winners whose sets are bounded by 40 each and who can give up 50 and 40. One certificate
-- passes; others are refused by one question each. A winner alone has a G below zero. σ and ρ have their edges. Cited by nothing. Assumes
-- nothing.
use mathlib.Core.Path.{◌≡◌, refl}
use mathlib.Core.List.{List, [], ◌∷◌}
use Prim.Native.Nat.{ℕ, ◌+◌, ◌-◌, ◌^◌}
use Rattle.sets.specs.Sums.{sum}
use Rattle.sets.specs.Sets.{has, sum_in, over_sets, holding, single}
use Rattle.pricing.specs.Questions.{every, every_set, same_signed, slack, test}
use Rattle.certificate.specs.declared.ranges.Figures.{Figures}
use Rattle.pricing.specs.Ranges.{signed}
use Rattle.certificate.specs.Figures.{at, certificate}
use Rattle.pricing.specs.Ranges.{winners_at_most, sets_at_most, g_in_range, in_range}
use Rattle.certificate.specs.Bounds.{tables_fit, reserve_in_range}
use Rattle.certificate.specs.DiscountRefusals.{reserve_kept, reserve_number, slack_test}
use Rattle.certificate.specs.Refusals.{first_failed, balances_number}

-- figures with s 1: by winner from winner 0, by set from set 0
abbrev figures : (w q : ℕ) → (x z r t : List ℕ) → (g : ℕ) → (y u : List ℕ) → Figures
figures w q x z r t g y u = record { w = w; q = q; s = 1; g = g; x = x; z = z; r = r; t = t; y = y; u = u }

-- the answer for two winners with the bounds 40 of each set, and 50 and 40
abbrev answer : (q : ℕ) → (x r t : List ℕ) → (g : ℕ) → (y u : List ℕ) → ℕ
answer q x r t g y u = balances_number (certificate (figures 2 q x [] r t g y u)) (at (0 ∷ 40 ∷ 40 ∷ 40 ∷ [])) (at (50 ∷ 40 ∷ []))

-- the answer for one winner with the bounds σ and 20
abbrev alone : (x : ℕ) → (g u : ℕ) → (σ : ℕ) → ℕ
alone x g u σ = balances_number (certificate (figures 1 1 (x ∷ []) [] [] [] g (0 ∷ 1 ∷ []) (0 ∷ u ∷ []))) (at (0 ∷ σ ∷ [])) (at (20 ∷ []))

-- the set of both carries the multiplier 1
abbrev both : List ℕ
both = 0 ∷ 0 ∷ 0 ∷ 1 ∷ []

table : (answer 1 (20 ∷ 20 ∷ []) [] [] 20 both [] ≡ 0)
    × (answer 0 (20 ∷ 20 ∷ []) [] [] 20 both [] ≡ 7)
    × (answer 1 ((10 ^ 10 + 1) ∷ 20 ∷ []) [] [] 20 both [] ≡ 7)
    × (answer 1 (20 ∷ 20 ∷ []) [] [] (10 ^ 12 + 1) both [] ≡ 7)
    × (answer 1 (21 ∷ 20 ∷ []) [] [] 20 both [] ≡ 11)
    × (answer 1 (20 ∷ 20 ∷ []) [] [] 20 [] [] ≡ 12)
    × (answer 1 (20 ∷ 19 ∷ []) [] [] 20 both [] ≡ 13)
    × (answer 1 (40 ∷ 0 ∷ []) [] [] 20 both [] ≡ 14)
    × (answer 1 (20 ∷ 20 ∷ []) (5 ∷ 5 ∷ []) [] 15 both [] ≡ 15)
    × (answer 1 (40 ∷ 0 ∷ []) [] [] 0 both (0 ∷ 0 ∷ 40 ∷ []) ≡ 15)
    × (answer 1 (20 ∷ 20 ∷ []) [] (5 ∷ 5 ∷ []) 25 both [] ≡ 15)
unfolding signed winners_at_most sets_at_most g_in_range in_range tables_fit slack_test first_failed balances_number
    test every every_set same_signed slack sum sum_in over_sets holding single has
table = (refl, refl, refl, refl, refl, refl, refl, refl, refl, refl, refl)

signs : (alone 10 (2 ^ 64 - 5) 5 10 ≡ 0)
    × (alone 10 5 5 10 ≡ 14)
    × (alone 10 (2 ^ 64 - 10 ^ 12 - 1) 5 10 ≡ 7)
    × (alone 10 0 0 6000000 ≡ 13)
    × (alone 10 0 0 6000001 ≡ 7)
unfolding signed winners_at_most sets_at_most g_in_range in_range tables_fit slack_test first_failed balances_number
    test every every_set same_signed slack sum sum_in over_sets holding single has
signs = (refl, refl, refl, refl, refl)

reserves : (reserve_number 2 1 (at (50 ∷ 40 ∷ [])) (at (50 ∷ 40 ∷ [])) ≡ 0)
    × (reserve_number 2 1 (at (50 ∷ 40 ∷ [])) (at (50 ∷ 41 ∷ [])) ≡ 10)
    × (reserve_number 7 1 (at []) (at []) ≡ 7)
    × (reserve_number 2 1 (at (50 ∷ 1000000 ∷ [])) (at []) ≡ 0)
    × (reserve_number 2 1 (at (50 ∷ 1000001 ∷ [])) (at []) ≡ 7)
unfolding reserve_number reserve_in_range reserve_kept winners_at_most every
reserves = (refl, refl, refl, refl, refl)
