-- What the greatest value alone answers, as a value (FORMAT, "Answers" and question 16), for a book and the number that it is refused with.
-- Cited by the contracts of that operation and by the table of worked calls. Assumes nothing: these are definitions.
use Rattle.std.specs.Prelude.{cond, ℕ, ◌^◌, ltb, eqb}
use Rattle.book.specs.Book.{Book, clients}
use Rattle.winners.specs.Greatest.{greatest}

pub record Value : Type 0 where
  pub number : ℕ
  pub value : ℕ

-- the book's own number; then 16, that the discard number names clients 1 to n alone
unfoldable pub value_refusal : (refusal : ℕ) → Book → (discard : ℕ) → ℕ
value_refusal n b d = cond (eqb n 0) (cond (ltb d (2 ^ clients b)) 0 16) n

-- the greatest value without the discarded clients; after a refusal 0
unfoldable pub value_of : (refusal : ℕ) → Book → (discard : ℕ) → Value
value_of n b d =
    let value = greatest b d in
    record { number = value_refusal n b d; value = cond (eqb (value_refusal n b d) 0) value 0 }
