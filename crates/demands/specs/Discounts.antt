-- Discounts as fractions, by winner, and when they are admissible (FORMAT, "Terms"): bids lowered by them, and combinations in
-- any order of the bids so lowered. Cited by the demands. Assumes nothing: these are definitions.
use Rattle.std.specs.Prelude.{cond, List, [], ◌∷◌, ℕ, suc, eqb, length, get_or}
use Rattle.pricing.specs.Fractions.{Fraction, whole, plus, minus, AtMost}
use Rattle.pricing.specs.Discounts.{ReserveKept}
use Rattle.book.specs.Book.{Book, client_of}
use Rattle.winners.specs.Combinations.{amount_of, Combination}
use Rattle.demands.specs.Winners.{rho}

-- the j-th of a list of discounts. A list may be longer or shorter than the winners: past its end the discount is 0
abbrev pub discount : List Fraction → (j : ℕ) → Fraction
discount ds j = get_or ds j (whole 0)

-- the discount of the winner who is client c; 0 if c has no winner
unfoldable pub discount_of : Book → (c : ℕ) → (winners : List ℕ) → (d : ℕ → Fraction) → Fraction
discount_of b c [] d = whole 0
discount_of b c (i ∷ is) d = cond (eqb (client_of b i) c) (d 0) (discount_of b c is (λ j. d (suc j)))

-- a bid less the discount of its client, but not below zero
unfoldable pub lowered : Book → (winners : List ℕ) → (d : ℕ → Fraction) → (bid : ℕ) → Fraction
lowered b is d i = minus (whole (amount_of b i)) (discount_of b (client_of b i) is d)

-- the lowered bids of a list, added up
unfoldable pub lowered_worth : Book → (winners : List ℕ) → (d : ℕ → Fraction) → (bids : List ℕ) → Fraction
lowered_worth b is d [] = whole 0
lowered_worth b is d (x ∷ xs) = plus (lowered b is d x) (lowered_worth b is d xs)

-- no combination of lowered bids is worth more than the winners' own lowered bids
unfoldable pub NoneBetter : Book → (winners : List ℕ) → (d : ℕ → Fraction) → Type 0
NoneBetter b is d = (xs : List ℕ) → Combination b xs → AtMost (lowered_worth b is d xs) (lowered_worth b is d is)

-- none is above its ρ, and none better; a fraction here is never below zero
pub record Admissible (b : Book) (winners : List ℕ) (d : ℕ → Fraction) : Type 0 where
  pub reserve : ReserveKept (length winners) (rho b winners) d
  pub none_better : NoneBetter b winners d
