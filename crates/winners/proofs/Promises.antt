-- What the layers above are promised of a book's combinations, beside their greatest value: each has the bids of one by rising client, and
-- what combinations offer to clients that stay is at most, and once just, the greatest value without the others. Cited by the demands.
-- Assumes nothing.
use mathlib.Core.Path.{◌≡◌, refl, ◌∙◌}
use mathlib.Core.Bool.{Bool, true, false, cond, not}
use mathlib.Core.List.{List, [], ◌∷◌}
use mathlib.Core.Logic.{⊎_elim}
use Prim.Native.Nat.{ℕ, ◌≤◌}
use native.Mathlib.Nat.{le_trans, le_of_eq}
use native.Mathlib.Omega.{arith}
use Rattle.std.proofs.lemmas.Bool.{cond-false}
use Rattle.market.specs.Market.{Market, at}
use Rattle.market.specs.Combination as Market·
use Rattle.market.specs.Restrict.{kept}
use Rattle.market.proofs.Bools.{either}
use Rattle.market.proofs.Each.{each_if}
use Rattle.market.proofs.Worth.{worth_eq}
use Rattle.market.proofs.Kept.{combination_kept}
use Rattle.market.proofs.VectorOf as VectorOf
use Rattle.book.specs.Book.{Book, client_of, clients, supplies}
use Rattle.book.specs.Sound.{Shaped}
use Rattle.winners.specs.Combinations.{market, amount_of, Combination, Rising}
use Rattle.winners.specs.Greatest.{without, greatest_without, NoneOut}
use Rattle.winners.proofs.Books.{supplied}
use Rattle.winners.proofs.Greatest.{combination_without, greatest_value}

-- by rising client, and of the same worth by any weight
pub record Sorted (b : Book) (bids sorted : List ℕ) : Type 0 where
  pub combination : Combination b sorted
  pub rising : Rising b sorted
  pub same : (weight : ℕ → ℕ) → Market·.worth weight sorted ≡ Market·.worth weight bids

-- what a bid offers, but 0 for a client that is out
abbrev pub to_staying : Book → (out : ℕ → Bool) → (bid : ℕ) → ℕ
to_staying b out i = cond (out (client_of b i)) 0 (amount_of b i)

-- a list's worth without the bids of clients that are out
worth_out : (m : Market) (out : ℕ → Bool) (wt : ℕ → ℕ) (is : List ℕ) →
    Market·.worth (λ i. cond (out (m.owner i)) 0 (wt i)) is ≡ Market·.worth wt (kept m (λ c. not (out c)) is)
unfolding Market·.worth kept
worth_out m out wt [] = refl
worth_out m out wt (i ∷ is) =
    ⊎_elim (λ (t : out (m.owner i) ≡ true). rw t (omega (arith, worth_out m out wt is)))
    (λ (t : out (m.owner i) ≡ false). rw t (omega (arith, worth_out m out wt is)))
    (either (out (m.owner i)))

module _ (b : Book) (shaped : Shaped b) where
  pub combination_sorted : (xs : List ℕ) → Combination b xs → (js : List ℕ) × Sorted b xs js
  combination_sorted xs c =
      let (js, d, rising, same) = VectorOf.combination_sorted (market b) (clients b) (supplies b) xs c (supplied b shaped) in
      (js, record { combination = d; rising = rising; same = same })

  module _ (out : ℕ → Bool) where
    pub staying_unbeaten : (xs : List ℕ) → Combination b xs → Market·.worth (to_staying b out) xs ≤ greatest_without b out
    unfolding without market
    staying_unbeaten xs c =
        let ys = kept (market b) (λ c. not (out c)) xs in
        let (d, none) = (combination_without b out ys).0 (combination_kept (market b) (λ c. not (out c)) (clients b) (supplies b) xs c) in
        le_trans (le_of_eq (worth_out (market b) out (amount_of b) xs)) ((greatest_value b shaped out).unbeaten ys d none)

    pub staying_attained : (xs : List ℕ) × Combination b xs × (Market·.worth (to_staying b out) xs ≡ greatest_without b out)
    unfolding NoneOut
    staying_attained =
        let (xs, c, none, e) = (greatest_value b shaped out).attained in
        let all = each_if (λ i. to_staying b out i ≡ amount_of b i) xs
        (λ k l. cond-false (out (client_of b (at xs k))) 0 (amount_of b (at xs k)) (none k l)) in
        (xs, c, worth_eq (to_staying b out) (amount_of b) xs all ∙ e)
