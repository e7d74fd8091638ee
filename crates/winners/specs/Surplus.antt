-- v and σ (FORMAT, "Terms"), over a list of clients of which a set's number picks some by its bits. Cited by the contract of the σ table
-- and by every statement on discounts. Assumes nothing: these are definitions.
use Rattle.std.specs.Prelude.{Bool, false, ◌&&◌, ◌||◌, List, ◌≡◌, ℕ, zero, suc, ◌+◌, ◌-◌, eqb, length}
use Rattle.sets.specs.Sets.{has}
use Rattle.market.specs.Market.{at}
use Rattle.book.specs.Book.{Book}
use Rattle.winners.specs.Greatest.{greatest, greatest_without, GreatestValue}

-- p is true of some number below n
unfoldable pub any : (n : ℕ) → (p : ℕ → Bool) → Bool
any zero p = false
any (suc n) p = any n p || p n

-- client c is one of those that the set picks from the list: bit j of the set's number stands for the list's j-th
unfoldable pub picked : (clients : List ℕ) → (set c : ℕ) → Bool
picked cs L c = any (length cs) (λ j. has L j && eqb (at cs j) c)

-- σ: the greatest value less the greatest value with the picked clients discarded
unfoldable pub surplus : Book → (clients : List ℕ) → (set : ℕ) → ℕ
surplus b cs L = greatest b 0 - greatest_without b (picked cs L)

-- σ in words: with what is greatest without the picked clients it makes what is greatest with all
pub record SurplusIs (b : Book) (cs : List ℕ) (L σ : ℕ) : Type 0 where
  pub v : ℕ
  pub u : ℕ
  pub all : GreatestValue b (λ c. false) v
  pub others : GreatestValue b (picked cs L) u
  pub makes : σ + u ≡ v
