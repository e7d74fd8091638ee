-- Certificates that discounts are the best of those under given bounds: of greatest sum, and among these nearest to what the winners could
-- claim alone. Discounts are whole numbers over one denominator; winners are numbered from 0 and sets of them by their bits. σ bounds the
-- discounts of each set, ρ those of each winner. Cited by the laws of prices. Assumes nothing: these are definitions.
use Rattle.std.specs.Prelude.{◌≡◌, true, ◌≢◌, ◌⊎◌, ℕ, ◌+◌, ◌*◌, ◌-◌, ◌^◌, ◌≤◌, ◌<◌, ℤ, pos, ◌+ℤ◌, ◌-ℤ◌}
use Rattle.sets.specs.Sums.{sum}
use Rattle.sets.specs.Sets.{has, sum_in, over_sets, holding, single}

-- the discounts X over q of w winners, with the multipliers that show them best
pub record Certificate : Type 0 where
  pub w : ℕ
  pub q : ℕ
  pub s : ℕ
  pub X : (winner : ℕ) → ℕ
  pub Z : (winner : ℕ) → ℕ
  pub R : (winner : ℕ) → ℕ
  pub T : (winner : ℕ) → ℕ
  pub G : ℤ
  pub Y : (set : ℕ) → ℕ
  pub U : (set : ℕ) → ℕ

-- question 10: no discount x j / q is above ρ j
unfoldable pub WithinReserve : (w q : ℕ) → (ρ x : ℕ → ℕ) → Type 0
WithinReserve w q ρ x = (j : ℕ) → j < w → x j ≤ q * ρ j

-- question 11: the discounts of no set L add up to more than σ L
unfoldable pub WithinSets : (w q : ℕ) → (σ x : ℕ → ℕ) → Type 0
WithinSets w q σ x = (L : ℕ) → 1 ≤ L → L < 2 ^ w → sum_in w L x ≤ q * σ L

-- question 12, dual feasibility: Z and the Y of the sets that hold a winner reach s
abbrev pub Cover : Certificate → Type 0
Cover c = (j : ℕ) → j < c.w → c.s ≤ c.Z j + holding c.w j c.Y

-- question 13: the primal and the dual values are equal
abbrev pub Totals : Certificate → (σ ρ : ℕ → ℕ) → Type 0
Totals c σ ρ = c.q * (over_sets c.w (λ L. c.Y L * σ L) + sum c.w (λ j. c.Z j * ρ j)) ≡ c.s * sum c.w c.X

-- question 14: stationarity of the squared distance, with G for the sum, U for the sets, R for ρ and T for zero
abbrev pub Stationary : Certificate → (σ : ℕ → ℕ) → Type 0
Stationary c σ =
    (j : ℕ) → j < c.w →
    pos (c.q * σ (single j)) -ℤ pos (c.X j) ≡ c.G +ℤ pos (holding c.w j c.U) +ℤ pos (c.R j) -ℤ pos (c.T j)

-- question 15, complementary slackness: a set's U stands only where the set meets its bound
abbrev pub SlackSets : Certificate → (σ : ℕ → ℕ) → Type 0
SlackSets c σ = (L : ℕ) → 1 ≤ L → L < 2 ^ c.w → c.U L ≢ 0 → sum_in c.w L c.X ≡ c.q * σ L

-- a winner's R stands only where its discount is ρ
abbrev pub SlackReserve : Certificate → (ρ : ℕ → ℕ) → Type 0
SlackReserve c ρ = (j : ℕ) → j < c.w → c.R j ≢ 0 → c.X j ≡ c.q * ρ j

-- a winner's T stands only where its discount is zero
abbrev pub SlackZero : Certificate → Type 0
SlackZero c = (j : ℕ) → j < c.w → c.T j ≢ 0 → c.X j ≡ 0

-- questions 12 to 15, on the multipliers
pub record Balances (c : Certificate) (σ ρ : ℕ → ℕ) : Type 0 where
  pub cover : Cover c
  pub totals : Totals c σ ρ
  pub stationary : Stationary c σ
  pub slack_sets : SlackSets c σ
  pub slack_reserve : SlackReserve c ρ
  pub slack_zero : SlackZero c

-- a certificate with a positive s that passes questions 10 to 15
pub record Certified (c : Certificate) (σ ρ : ℕ → ℕ) : Type 0 where
  pub positive : 1 ≤ c.s
  pub reserve : WithinReserve c.w c.q ρ c.X
  pub sets : WithinSets c.w c.q σ c.X
  pub balances : Balances c σ ρ

-- winner j is in a set whose bound its discounts meet
pub record InMetSet (w q : ℕ) (σ x : ℕ → ℕ) (j : ℕ) : Type 0 where
  pub set : ℕ
  pub positive : 1 ≤ set
  pub below : set < 2 ^ w
  pub holds : has set j ≡ true
  pub met : sum_in w set x ≡ q * σ set

-- how far apart two numbers are: one of the two differences is zero
unfoldable pub apart : ℕ → ℕ → ℕ
apart a b = (a - b) + (b - a)

-- the total of squared distances from what each winner could claim alone, over q ^ 2
unfoldable pub distance : (w q : ℕ) → (σ x : ℕ → ℕ) → ℕ
distance w q σ x = sum w (λ j. apart (q * σ (single j)) (x j) ^ 2)

-- some discount y j / r is not x j / q
unfoldable pub Differs : (w q : ℕ) → (x : ℕ → ℕ) → (r : ℕ) → (y : ℕ → ℕ) → Type 0
Differs w q x r y = (j : ℕ) × (j < w) × (y j * q ≢ x j * r)

-- y over r has a lesser sum than x over q, or an equal sum and a greater distance
unfoldable pub Worse : (w : ℕ) → (σ : ℕ → ℕ) → (q : ℕ) → (x : ℕ → ℕ) → (r : ℕ) → (y : ℕ → ℕ) → Type 0
Worse w σ q x r y =
    (sum w y * q < sum w x * r) ⊎ ((sum w y * q ≡ sum w x * r) × (distance w q σ x * r ^ 2 < distance w r σ y * q ^ 2))
