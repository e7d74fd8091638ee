-- The demands for discounts that are whole numbers over one common denominator, with sums and distances in whole numbers and combinations
-- by rising client alone: the case that a table of numerators speaks of. All follow from the demands on fractions; the laws on fractions
-- use the lowered numbers. Assumes nothing: these are definitions.
use Rattle.std.specs.Prelude.{◌≡◌, Bool, true, false, cond, List, [], ◌∷◌, ◌↔◌, ℕ, suc, ◌*◌, ◌-◌, ◌≤◌, eqb, length}
use Rattle.market.specs.Market.{at}
use Rattle.market.specs.Combination as Market·
use Rattle.pricing.specs.Certificate.{WithinReserve, WithinSets, Worse}
use Rattle.pricing.specs.Questions.{every}
use Rattle.book.specs.Book.{Book, client_of}
use Rattle.winners.specs.Combinations.{amount_of, worth}
use Rattle.winners.specs.Greatest.{greatest}
use Rattle.demands.specs.Winners.{sigma, rho}
use Rattle.demands.specs.Questions.{winners_good}
use Rattle.demands.specs.Call.{Call, sheet, Accepted}

-- the numerator of the winner who is client c; 0 if c has no winner
unfoldable pub numerator_of : Book → (c : ℕ) → (winners : List ℕ) → (x : ℕ → ℕ) → ℕ
numerator_of b c [] x = 0
numerator_of b c (i ∷ is) x = cond (eqb (client_of b i) c) (x 0) (numerator_of b c is (λ j. x (suc j)))

-- a bid less the discount x / r of its client, times r, but not below zero
unfoldable pub lowered_over : Book → (winners : List ℕ) → (r : ℕ) → (x : ℕ → ℕ) → (bid : ℕ) → ℕ
lowered_over b is r x i = r * amount_of b i - numerator_of b (client_of b i) is x

-- no combination by rising client is worth more than the winners, once the bids are lowered
unfoldable pub NoneBetterOver : Book → (winners : List ℕ) → (r : ℕ) → (x : ℕ → ℕ) → Type 0
NoneBetterOver b is r x =
    (xs : List ℕ) → winners_good b xs ≡ true → Market·.worth (lowered_over b is r x) xs ≤ Market·.worth (lowered_over b is r x) is

pub record AdmissibleOver (b : Book) (winners : List ℕ) (r : ℕ) (x : ℕ → ℕ) : Type 0 where
  pub reserve : WithinReserve (length winners) r (rho b winners) x
  pub none_better : NoneBetterOver b winners r x

-- each y j / r is x j / q
unfoldable pub same_discounts : (w q : ℕ) → (x : ℕ → ℕ) → (r : ℕ) → (y : ℕ → ℕ) → Bool
same_discounts w q x r y = every w (λ j. eqb (y j * q) (x j * r))

-- any other discounts over a denominator r that are admissible have a lesser sum, or an equal sum and a greater distance. A list of
-- numerators may be longer or shorter than the winners: past its end they are 0
unfoldable pub BestDiscounts : Call → Type 0
BestDiscounts c =
    let h = sheet c in
    Accepted c → (ys : List ℕ) (r : ℕ) → 1 ≤ r → AdmissibleOver c.book h.bids r (at ys) →
    same_discounts h.numbers.w h.numbers.q h.numbers.X r (at ys) ≡ false →
    Worse h.numbers.w (sigma c.book h.bids) h.numbers.q h.numbers.X r (at ys)

-- an accepted sheet's own discounts are admissible
unfoldable pub OwnAdmissible : Call → Type 0
OwnAdmissible c = Accepted c → AdmissibleOver c.book (sheet c).bids (sheet c).numbers.q (sheet c).numbers.X

-- for winners by rising client and of value v, and discounts up to ρ, none is better exactly where the sum of every set is at most its σ
unfoldable pub SetsSufficeOver : Book → (winners : List ℕ) → Type 0
SetsSufficeOver b is =
    winners_good b is ≡ true → worth b is ≡ greatest b 0 → (r : ℕ) → 1 ≤ r → (x : ℕ → ℕ) → WithinReserve (length is) r (rho b is) x →
    NoneBetterOver b is r x ↔ WithinSets (length is) r (sigma b is) x
