-- What the σ table answers: the book's own number, 16 where the list of clients is none, then v and σ of every set of the list. Cited by
-- the contracts of `surpluses` and `surpluses_of`. Assumes nothing: these are definitions.
use Rattle.std.specs.Prelude.{◌≡◌, Bool, true, ◌&&◌, cond, List, [], ◌∷◌, ℕ, ◌^◌, ◌<◌, leb, ltb, eqb, length, get_or, take, replicate}
use Rattle.sets.specs.Tables.{tabulate}
use Rattle.book.specs.Book.{Book, clients}
use Rattle.book.specs.Layout.{book_in}
use Rattle.book.specs.Questions.{book_refusal}
use Rattle.winners.specs.Greatest.{greatest}
use Rattle.winners.specs.Surplus.{surplus, SurplusIs}
use Rattle.winners.specs.declared.values.Surpluses.{Surpluses}

-- clients after c and up to n, strictly rising
unfoldable pub rising_to : (n c : ℕ) → List ℕ → Bool
rising_to n c [] = true
rising_to n c (x ∷ xs) = (ltb c x && leb x n) && rising_to n x xs

-- at most six clients of the book, strictly rising
unfoldable pub list_good : Book → (clients : List ℕ) → Bool
list_good b cs = leb (length cs) 6 && rising_to (clients b) 0 cs

unfoldable pub list_refusal : (refusal : ℕ) → Book → (clients : List ℕ) → ℕ
list_refusal n b cs = cond (eqb n 0) (cond (list_good b cs) 0 16) n

-- σ by set number of the clients, 0 for numbers that are no set of them
unfoldable pub surplus_table : Book → (clients : List ℕ) → List ℕ
surplus_table b cs = tabulate 64 (λ L. cond (ltb L (2 ^ length cs)) (surplus b cs L) 0)

-- every field by value; and what they are
pub record SurplusesAre (refusal : ℕ) (b : Book) (clients : List ℕ) (number value : ℕ) (sigma : List ℕ) : Type 0 where
  pub numbered : number ≡ list_refusal refusal b clients
  pub valued : value ≡ cond (eqb (list_refusal refusal b clients) 0) (greatest b 0) 0
  pub tabled : sigma ≡ cond (eqb (list_refusal refusal b clients) 0) (surplus_table b clients) (replicate 64 0)
  -- accepted, each entry is σ in words
  pub surpluses : number ≡ 0 → (L : ℕ) → L < 2 ^ length clients → SurplusIs b clients L (get_or sigma L 0)

-- the same for all clients of the book that bytes hold, whatever follows it
abbrev pub AllSurplusesAre : (bs : List ℕ) → (number value : ℕ) → (sigma : List ℕ) → Type 0
AllSurplusesAre bs number value sigma =
    SurplusesAre (book_refusal bs) (book_in bs) (take (clients (book_in bs)) (1 ∷ 2 ∷ 3 ∷ 4 ∷ 5 ∷ 6 ∷ [])) number value sigma

-- the zeros beside the number of a refusal
abbrev pub no_surpluses : Surpluses
no_surpluses = record { value = 0; sigma = replicate 64 0 }
