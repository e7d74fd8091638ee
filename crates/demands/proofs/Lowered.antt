-- Bids lowered by discounts: over a common denominator they are whole numbers, and shared out among winners and others they are what the
-- auction of the book has them to be. So the two readings of 'no combination is worth more' agree. Cited by the law that bounds for sets
-- suffice and by the forms with one denominator. Assumes nothing.
use mathlib.Core.Path.{◌≡◌, refl, sym, ap, ◌∙◌}
use mathlib.Core.Bool.{Bool, true, false, cond}
use mathlib.Core.List.{List, [], ◌∷◌}
use mathlib.Core.Logic.{◌≢◌, ◌↔◌}
use Prim.Native.Nat.{ℕ, zero, suc, ◌+◌, ◌*◌, ◌-◌, ◌≤◌, ◌<◌}
use native.Mathlib.Nat.{mul-zero, not-suc-le-zero}
use native.Mathlib.Omega.{arith}
use lib.Dec.{eqb}
use lib.ListN.{length}
use borrow.Author.Tests.{eq-eqb, ne_eqb}
use Rattle.sets.specs.Sums.{sum}
use Rattle.sets.proofs.Sums.{sum_ext}
use Rattle.market.specs.Market.{at}
use Rattle.market.specs.Combination as Market·
use Rattle.market.specs.Vector.{entry, bid_of}
use Rattle.market.proofs.Bools.{cond_true, cond_false}
use Rattle.pricing.specs.Fractions.{Fraction, AtMost}
use Rattle.pricing.specs.Auction as Auction·
use Rattle.pricing.proofs.Fractions.{Is, whole_is, zero_is, plus_is, minus_is, cond_is}
use Rattle.pricing.proofs.Discounts.{at_most_same}
use Rattle.book.specs.Book.{Book, client_of, clients, supplies}
use Rattle.book.specs.Sound.{Shaped}
use Rattle.winners.specs.Combinations.{market, amount_of, Combination}
use Rattle.demands.specs.Winners.{win}
use Rattle.demands.specs.Discounts.{discount_of, lowered, lowered_worth, NoneBetter}
use Rattle.demands.specs.OneDenominator.{numerator_of, lowered_over}
use Rattle.demands.proofs.Winners.{client}
use Rattle.demands.proofs.Keys.{Absent, among}
use Rattle.demands.proofs.Shares.{worth_ext, worth_places, worth_mul, worth_shared}
use Rattle.demands.proofs.Auctions.{rest, gets, winners_different, auction}

-- WHAT A CLIENT'S BIDS LOSE
module _ (b : Book) (c : ℕ) where
  -- that of its winner, the first of that client
  numerator_winner : (is : List ℕ) (y : ℕ → ℕ) (k : ℕ) → k < length is → c ≡ client b is k → ((j : ℕ) → j < k → client b is j ≢ c) →
      numerator_of b c is y ≡ y k
  unfolding numerator_of
  numerator_winner [] y k l e h = absurd (not-suc-le-zero l)
  numerator_winner (i ∷ is) y zero l e h = cond_true (eqb (client_of b i) c) (y 0) _ (eq-eqb (client_of b i) c (sym e))
  numerator_winner (i ∷ is) y (suc k) l e h =
      cond_false (eqb (client_of b i) c) (y 0) (numerator_of b c is (λ j. y (suc j))) (ne_eqb (client_of b i) c (h 0 (omega arith)))
      ∙ numerator_winner is (λ j. y (suc j)) k (omega arith) e (λ j m. h (suc j) (omega arith))

  -- nothing, if it has no winner
  numerator_other : (is : List ℕ) (y : ℕ → ℕ) → Absent (length is) (client b is) c → numerator_of b c is y ≡ 0
  unfolding numerator_of
  numerator_other [] y h = refl
  numerator_other (i ∷ is) y h =
      cond_false (eqb (client_of b i) c) (y 0) (numerator_of b c is (λ j. y (suc j)))
      (ne_eqb (client_of b i) c (λ e. h 0 (omega arith) (sym e)))
      ∙ numerator_other is (λ j. y (suc j)) (λ k l. h (suc k) (omega arith))

  -- over a common denominator the discount is that number
  discount_is : (D : ℕ) (is : List ℕ) (d : ℕ → Fraction) (y : ℕ → ℕ) → ((j : ℕ) → j < length is → Is D (d j) (y j)) →
      Is D (discount_of b c is d) (numerator_of b c is y)
  unfolding discount_of numerator_of
  discount_is D [] d y h = zero_is D
  discount_is D (i ∷ is) d y h =
      cond_is (eqb (client_of b i) c) (h 0 (omega arith))
      (discount_is D is (λ j. d (suc j)) (λ j. y (suc j)) (λ j l. h (suc j) (omega arith)))

-- LOWERED BIDS over a common denominator
module _ (b : Book) (is : List ℕ) (D : ℕ) (d : ℕ → Fraction) (y : ℕ → ℕ) (each : (j : ℕ) → j < length is → Is D (d j) (y j)) where
  lowered_worth_is : (xs : List ℕ) → Is D (lowered_worth b is d xs) (Market·.worth (lowered_over b is D y) xs)
  unfolding lowered_worth lowered lowered_over Market·.worth
  lowered_worth_is [] = zero_is D
  lowered_worth_is (i ∷ xs) =
      plus_is (minus_is (whole_is D (amount_of b i)) (discount_is b (client_of b i) D is d y each)) (lowered_worth_is xs)

  pub lowered_at_most : 1 ≤ D → (xs : List ℕ) → AtMost (lowered_worth b is d xs) (lowered_worth b is d is)
      ↔ (Market·.worth (lowered_over b is D y) xs ≤ Market·.worth (lowered_over b is D y) is)
  lowered_at_most l xs = at_most_same l (lowered_worth_is xs) (lowered_worth_is is)

-- SHARED OUT among the winners and all others
entry_lowered : (D y : ℕ) (f : ℕ → ℕ) (x : ℕ) → D * entry f x - y ≡ entry (λ i. D * f i - y) x
entry_lowered D y f zero = omega arith
entry_lowered D y f (suc i) = refl

out_mul : (t : Bool) (c n : ℕ) → cond t 0 (c * n) ≡ c * cond t 0 n
out_mul true c n = sym (mul-zero c)
out_mul false c n = refl

module _ (b : Book) (is : List ℕ) (w : ℕ) (long : length is ≡ w) (c : Combination b is) (D : ℕ) (y : ℕ → ℕ) where
  winner_loses : (x k : ℕ) → k < w → x ≡ client b is k → numerator_of b x is y ≡ y k
  winner_loses x k l e =
      numerator_winner b x is y k (omega arith) e (λ j m o. winners_different b is w long c j k m l (o ∙ e))

  rest_scaled : (xs : List ℕ) →
      Market·.worth (λ i. cond (among w (client b is) (client_of b i)) 0 (D * amount_of b i)) xs ≡ D * rest b is w xs
  unfolding rest
  rest_scaled xs =
      worth_ext (λ i. cond (among w (client b is) (client_of b i)) 0 (D * amount_of b i))
      (λ i. D * cond (among w (client b is) (client_of b i)) 0 (amount_of b i)) xs
      (λ i. out_mul (among w (client b is) (client_of b i)) D (amount_of b i))
      ∙ worth_mul D (λ i. cond (among w (client b is) (client_of b i)) 0 (amount_of b i)) xs

  combination_lowered : (xs : List ℕ) → Combination b xs →
      D * rest b is w xs + sum w (λ k. D * gets b is xs k - y k) ≡ Market·.worth (lowered_over b is D y) xs
  unfolding gets market lowered_over
  combination_lowered xs e =
      omega (
        arith,
        rest_scaled xs,
        sum_ext w (λ k. D * gets b is xs k - y k) (λ k. entry (λ i. D * amount_of b i - y k) (bid_of (market b) (client b is k) xs))
            (λ k l. entry_lowered D (y k) (amount_of b) (bid_of (market b) (client b is k) xs)),
        worth_shared (market b) (clients b) w (client b is) (winners_different b is w long c) (λ i. D * amount_of b i)
            (λ k i. D * amount_of b i - y k) (lowered_over b is D y)
            (λ i k l o. ap (λ (z : ℕ). D * amount_of b i - z) (sym (winner_loses (client_of b i) k l o)))
            (λ i n. omega (arith, numerator_other b (client_of b i) is y (λ k l. n k (omega arith))))
            (supplies b) xs e,
      )

  -- the winners' own
  winners_lowered : sum w (λ k. D * win b is k - y k) ≡ Market·.worth (lowered_over b is D y) is
  unfolding win lowered_over
  winners_lowered =
      sum_ext w (λ k. D * amount_of b (at is k) - y k) (λ k. lowered_over b is D y (at is k))
      (λ k l. ap (λ (z : ℕ). D * amount_of b (at is k) - z) (sym (winner_loses (client b is k) k l refl)))
      ∙ ap (λ (n : ℕ). sum n (λ k. lowered_over b is D y (at is k))) (sym long) ∙ sym (worth_places (lowered_over b is D y) is)

-- NO COMBINATION IS WORTH MORE, over the book and over its auction
pub none_better_auction : (b : Book) (shaped : Shaped b) (is : List ℕ) (w : ℕ) (long : length is ≡ w) (c : Combination b is)
    (D : ℕ) → 1 ≤ D → (d : ℕ → Fraction) (y : ℕ → ℕ) → ((j : ℕ) → j < w → Is D (d j) (y j)) →
    NoneBetter b is d ↔ Auction·.NoneBetter (auction b shaped is w long c) D (win b is) y
unfolding NoneBetter Auction·.NoneBetter
none_better_auction b shaped is w long c D positive d y each = (
  λ h a. omega (arith, (compared a.0).0 (h a.0 a.1), shared a.0 a.1, winners_lowered b is w long c D y),
  λ h xs e. (compared xs).1 (omega (arith, h (xs, e), shared xs e, winners_lowered b is w long c D y)),
)
  where
    compared : (xs : List ℕ) → AtMost (lowered_worth b is d xs) (lowered_worth b is d is)
        ↔ (Market·.worth (lowered_over b is D y) xs ≤ Market·.worth (lowered_over b is D y) is)
    compared = lowered_at_most b is D d y (λ j l. each j (omega arith)) positive

    shared : (xs : List ℕ) → Combination b xs →
        D * rest b is w xs + sum w (λ k. D * gets b is xs k - y k) ≡ Market·.worth (lowered_over b is D y) xs
    shared = combination_lowered b is w long c D y
