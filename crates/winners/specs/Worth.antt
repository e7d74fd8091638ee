-- What the greatest value answers (FORMAT, "Answers"): the book's own number and 16, then the value. Cited by the contracts of
-- `greatest_value` and `greatest_of`. Assumes nothing: these are definitions.
use Rattle.std.specs.Prelude.{◌≡◌, ℕ}
use Rattle.book.specs.Book.{Book}
use Rattle.winners.specs.Greatest.{discarded, GreatestValue}
use Rattle.winners.specs.Value.{value_of}

-- every field by value; and what the value is
pub record WorthIs (refusal : ℕ) (b : Book) (discard number value : ℕ) : Type 0 where
  pub numbered : number ≡ (value_of refusal b discard).number
  pub valued : value ≡ (value_of refusal b discard).value
  -- accepted, it is unbeaten by any combination of clients not discarded, and attained by one
  pub greatest : number ≡ 0 → GreatestValue b (discarded discard) value
