-- Questions 10 to 15 on a certificate, each as a statement and as a test; question 15 has three parts. Cited by the controls, which show
-- that each is needed, and by the checks of a certificate. Assumes nothing: these are definitions.
use Rattle.std.specs.Prelude.{Bool, true, false, ◌&&◌, ◌||◌, ℕ, zero, suc, ◌+◌, ◌*◌, ◌-◌, ◌^◌, leb, eqb, ℤ, pos, negsuc, ◌+ℤ◌, ◌-ℤ◌}
use Rattle.sets.specs.Sums.{sum}
use Rattle.sets.specs.Sets.{sum_in, over_sets, holding, single}
use Rattle.pricing.specs.Certificate.{Certificate, WithinReserve, WithinSets}
use Rattle.pricing.specs.Certificate.{Cover, Totals, Stationary, SlackSets, SlackReserve, SlackZero}

-- questions 10 to 14, and the three parts of 15
pub data Question : Type 0 where
  within_reserve within_sets cover totals stationary slack_sets slack_reserve slack_zero : Question

-- what a question asks of a certificate, for the bounds σ and ρ
unfoldable pub Asks : Question → Certificate → (σ ρ : ℕ → ℕ) → Type 0
Asks within_reserve c σ ρ = WithinReserve c.w c.q ρ c.X
Asks within_sets c σ ρ = WithinSets c.w c.q σ c.X
Asks cover c σ ρ = Cover c
Asks totals c σ ρ = Totals c σ ρ
Asks stationary c σ ρ = Stationary c σ
Asks slack_sets c σ ρ = SlackSets c σ
Asks slack_reserve c σ ρ = SlackReserve c ρ
Asks slack_zero c σ ρ = SlackZero c

-- whether every number below n passes
unfoldable pub every : (n : ℕ) → (p : ℕ → Bool) → Bool
every zero p = true
every (suc n) p = every n p && p n

-- whether every non-empty set passes
unfoldable pub every_set : (w : ℕ) → (p : ℕ → Bool) → Bool
every_set w p = every (2 ^ w - 1) (λ i. p (suc i))

-- whether two numbers with a sign are equal
unfoldable pub same_signed : ℤ → ℤ → Bool
same_signed (pos m) (pos n) = eqb m n
same_signed (pos m) (negsuc n) = false
same_signed (negsuc m) (pos n) = false
same_signed (negsuc m) (negsuc n) = eqb m n

-- whether a multiplier u is zero or a bound is met
unfoldable pub slack : (u a b : ℕ) → Bool
slack u a b = eqb u 0 || eqb a b

-- the question's test
unfoldable pub test : Question → Certificate → (σ ρ : ℕ → ℕ) → Bool
test within_reserve c σ ρ = every c.w (λ j. leb (c.X j) (c.q * ρ j))
test within_sets c σ ρ = every_set c.w (λ L. leb (sum_in c.w L c.X) (c.q * σ L))
test cover c σ ρ = every c.w (λ j. leb c.s (c.Z j + holding c.w j c.Y))
test totals c σ ρ = eqb (c.q * (over_sets c.w (λ L. c.Y L * σ L) + sum c.w (λ j. c.Z j * ρ j))) (c.s * sum c.w c.X)
test stationary c σ ρ =
    every c.w (λ j. same_signed (pos (c.q * σ (single j)) -ℤ pos (c.X j))
    (c.G +ℤ pos (holding c.w j c.U) +ℤ pos (c.R j) -ℤ pos (c.T j)))
test slack_sets c σ ρ = every_set c.w (λ L. slack (c.U L) (sum_in c.w L c.X) (c.q * σ L))
test slack_reserve c σ ρ = every c.w (λ j. slack (c.R j) (c.X j) (c.q * ρ j))
test slack_zero c σ ρ = every c.w (λ j. slack (c.T j) (c.X j) 0)
