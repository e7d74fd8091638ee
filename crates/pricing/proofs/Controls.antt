-- Controls: a certificate passes every question, so nothing said of certificates is empty; and for each question another fails that one
-- alone and goes wrong, so each question is needed. Two winners, sets 1 to 3, by computation. Cited by the example. Assumes nothing.
use mathlib.Core.Path.{◌≡◌, refl, sym, ap, ◌∙◌}
use mathlib.Core.Bool.{Bool, true, false, not, true≢false}
use mathlib.Core.Logic.{◌≢◌, ◌⊎◌, inl, inr, ⊎_elim}
use Prim.Native.Nat.{ℕ, zero, suc, ◌*◌}
use native.Mathlib.Omega.{arith}
use lib.Dec.{eqb, lit≤, lit<}
use lib.IntN.{pos}
use borrow.Author.Tests.{eq-eqb}
use Rattle.sets.specs.Sums.{sum}
use Rattle.sets.specs.Sets.{has, sum_in, over_sets, holding, single}
use Rattle.pricing.specs.Certificate.{Certificate, WithinReserve, WithinSets, Certified, Differs, Worse, apart, distance}
use Rattle.pricing.specs.Questions.{Question, within_reserve, within_sets, cover, totals, stationary}
use Rattle.pricing.specs.Questions.{slack_sets, slack_reserve, slack_zero}
use Rattle.pricing.specs.Questions.{Asks, every, every_set, same_signed, slack, test}
use Rattle.pricing.proofs.Questions.{test_iff}

-- numbers of the winners 0 and 1, and of the sets 1, 2 and 3
abbrev pub pair : (a b : ℕ) → ℕ → ℕ
pair a b zero = a
pair a b (suc k) = b

abbrev pub by_set : (a b c : ℕ) → ℕ → ℕ
by_set a b c zero = 0
by_set a b c (suc zero) = a
by_set a b c (suc (suc zero)) = b
by_set a b c (suc (suc (suc k))) = c

abbrev pub none : ℕ → ℕ
none k = 0

-- a certificate with q 1, and one with the bounds that it is judged by
abbrev trial : (s : ℕ) → (X Z R T : ℕ → ℕ) → (G : ℕ) → (Y U : ℕ → ℕ) → Certificate
trial s X Z R T G Y U = record { w = 2; q = 1; s = s; X = X; Z = Z; R = R; T = T; G = pos G; Y = Y; U = U }

record Case : Type 0 where
  c : Certificate
  σ : ℕ → ℕ
  ρ : ℕ → ℕ

passes : Question → Case → Bool
passes x t = test x t.c t.σ t.ρ

Holds : Question → Case → Type 0
Holds x t = Asks x t.c t.σ t.ρ

holds : (x : Question) (t : Case) → passes x t ≡ true → Holds x t
unfolding passes Holds
holds x t = (test_iff x t.c t.σ t.ρ).0

-- a fact for each question
each : (P : Question → Type 0) →
    P within_reserve × P within_sets × P cover × P totals × P stationary × P slack_sets × P slack_reserve × P slack_zero →
    (x : Question) → P x
each P t within_reserve = t.0
each P t within_sets = t.1
each P t cover = t.2
each P t totals = t.3
each P t stationary = t.4
each P t slack_sets = t.5
each P t slack_reserve = t.6
each P t slack_zero = t.7

-- THE CASES: one that passes, one with s zero, and one for each question
abbrev pub good : Certificate
good = trial 1 (pair 20 20) none none none 20 (by_set 0 0 1) none

abbrev judged : Case
judged = record { c = good; σ = by_set 40 40 40; ρ = pair 50 40 }

scaleless : Case
scaleless = record { c = trial 0 none none none none 40 none none; σ = by_set 40 40 40; ρ = pair 50 40 }

faulty : Question → Case
faulty within_reserve = record { c = trial 1 (pair 20 20) none none none 20 (by_set 0 0 1) none; σ = by_set 40 40 40; ρ = pair 10 40 }
faulty within_sets = record { c = trial 1 (pair 20 20) (pair 1 1) none none 20 none none; σ = by_set 40 40 10; ρ = pair 20 20 }
faulty cover = record { c = trial 1 none none none none 40 none none; σ = by_set 40 40 40; ρ = pair 50 40 }
faulty totals = record { c = trial 1 none (pair 1 1) none none 40 none none; σ = by_set 40 40 40; ρ = pair 50 40 }
faulty stationary = record { c = trial 1 (pair 40 0) none none none 0 (by_set 0 0 1) none; σ = by_set 40 40 40; ρ = pair 50 40 }
faulty slack_sets = record { c = trial 1 (pair 40 0) none none none 0 (by_set 0 0 1) (by_set 0 40 0); σ = by_set 40 40 40; ρ = pair 50 40 }
faulty slack_reserve = record { c = trial 1 (pair 40 0) none (pair 0 40) none 0 (by_set 0 0 1) none; σ = by_set 40 40 40; ρ = pair 50 40 }
faulty slack_zero = record { c = trial 1 (pair 40 0) none none (pair 40 0) 40 (by_set 0 0 1) none; σ = by_set 40 40 40; ρ = pair 50 40 }

-- THE TABLE
good_passes : (x : Question) → passes x judged ≡ true
unfolding passes test every every_set same_signed slack sum sum_in over_sets holding single has
good_passes = each (λ x. passes x judged ≡ true) (refl, refl, refl, refl, refl, refl, refl, refl)

good_holds : (x : Question) → Holds x judged
good_holds x = holds x judged (good_passes x)

scaleless_passes : (x : Question) → passes x scaleless ≡ true
unfolding scaleless passes test every every_set same_signed slack sum sum_in over_sets holding single has
scaleless_passes = each (λ x. passes x scaleless ≡ true) (refl, refl, refl, refl, refl, refl, refl, refl)

-- whether two questions are the same, by their places
place : Question → ℕ
place within_reserve = 0
place within_sets = 1
place cover = 2
place totals = 3
place stationary = 4
place slack_sets = 5
place slack_reserve = 6
place slack_zero = 7

-- each case fails its own question and no other
abbrev Entry : Question → Question → Type 0
Entry x y = passes y (faulty x) ≡ not (eqb (place x) (place y))

fails_alone : (x y : Question) → Entry x y
unfolding faulty place passes test every every_set same_signed slack sum sum_in over_sets holding single has
fails_alone within_reserve = each (Entry within_reserve) (refl, refl, refl, refl, refl, refl, refl, refl)
fails_alone within_sets = each (Entry within_sets) (refl, refl, refl, refl, refl, refl, refl, refl)
fails_alone cover = each (Entry cover) (refl, refl, refl, refl, refl, refl, refl, refl)
fails_alone totals = each (Entry totals) (refl, refl, refl, refl, refl, refl, refl, refl)
fails_alone stationary = each (Entry stationary) (refl, refl, refl, refl, refl, refl, refl, refl)
fails_alone slack_sets = each (Entry slack_sets) (refl, refl, refl, refl, refl, refl, refl, refl)
fails_alone slack_reserve = each (Entry slack_reserve) (refl, refl, refl, refl, refl, refl, refl, refl)
fails_alone slack_zero = each (Entry slack_zero) (refl, refl, refl, refl, refl, refl, refl, refl)

others_hold : (x y : Question) → eqb (place x) (place y) ≡ false → Holds y (faulty x)
others_hold x y e = holds y (faulty x) (fails_alone x y ∙ ap not e)

-- WHAT GOES WRONG
own_fails : (x : Question) → ¬ Holds x (faulty x)
unfolding Holds passes
own_fails x h =
    true≢false
    (sym ((test_iff x (faulty x).c (faulty x).σ (faulty x).ρ).1 h) ∙ fails_alone x x ∙ ap not (eq-eqb (place x) (place x) refl))

-- other discounts within the bounds are not worse
record Beaten (w q : ℕ) (σ ρ X : ℕ → ℕ) : Type 0 where
  r : ℕ
  y : ℕ → ℕ
  reserve : WithinReserve w r ρ y
  sets : WithinSets w r σ y
  differs : Differs w q X r y
  no_worse : ¬ Worse w σ q X r y

-- 20 and 20 beat other discounts
beaten : (X : ℕ → ℕ) → 20 * 1 ≢ X 0 * 1 → ¬ Worse 2 (by_set 40 40 40) 1 X 1 (pair 20 20) → Beaten 2 1 (by_set 40 40 40) (pair 50 40) X
unfolding Holds Asks Differs
beaten X d n =
    record {
      r = 1;
      y = pair 20 20;
      reserve = good_holds within_reserve;
      sets = good_holds within_sets;
      differs = (0, lit< tt, d);
      no_worse = n;
    }

-- by their sum
zero_beaten : Beaten 2 1 (by_set 40 40 40) (pair 50 40) none
unfolding Worse sum
zero_beaten = beaten none (λ e. omega arith) (⊎_elim (λ l. omega arith) (λ t. omega arith))

-- by their distance
uneven_beaten : Beaten 2 1 (by_set 40 40 40) (pair 50 40) (pair 40 0)
unfolding Worse sum distance apart single
uneven_beaten = beaten (pair 40 0) (λ e. omega arith) (⊎_elim (λ l. omega arith) (λ t. omega arith))

-- the discounts themselves are not within the bounds, or others are not worse
Wrong : Case → Type 0
Wrong t = (¬ Holds within_reserve t) ⊎ (¬ Holds within_sets t) ⊎ Beaten t.c.w t.c.q t.σ t.ρ t.c.X

wrong : (x : Question) → Wrong (faulty x)
unfolding Wrong faulty
wrong within_reserve = inl (own_fails within_reserve)
wrong within_sets = inr (inl (own_fails within_sets))
wrong cover = inr (inr zero_beaten)
wrong totals = inr (inr zero_beaten)
wrong stationary = inr (inr uneven_beaten)
wrong slack_sets = inr (inr uneven_beaten)
wrong slack_reserve = inr (inr uneven_beaten)
wrong slack_zero = inr (inr uneven_beaten)

scaleless_wrong : Wrong scaleless
unfolding Wrong scaleless
scaleless_wrong = inr (inr zero_beaten)

-- THE CERTIFICATE THAT PASSES
pub good_certified : Certified good (by_set 40 40 40) (pair 50 40)
unfolding Holds Asks
good_certified =
    record {
      positive = lit≤ tt;
      reserve = good_holds within_reserve;
      sets = good_holds within_sets;
      balances = record {
        cover = good_holds cover;
        totals = good_holds totals;
        stationary = good_holds stationary;
        slack_sets = good_holds slack_sets;
        slack_reserve = good_holds slack_reserve;
        slack_zero = good_holds slack_zero;
      };
    }
