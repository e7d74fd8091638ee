-- The entries of a list for each of the four kinds that a book can have. Cited by the contracts over hours. Assumes nothing: these are
-- definitions.
use Rattle.std.specs.Prelude.{List, ℕ}
use Rattle.book.specs.Lists.{row}
use Rattle.market.specs.Market.{at}

-- the first four entries; 0 past the end
abbrev pub by_kind : List ℕ → List ℕ
by_kind xs = row 4 0 (λ j. at xs j)
