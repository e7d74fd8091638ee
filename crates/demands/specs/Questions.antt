-- Questions 6 to 15, put to a sheet over a book, and the number of the first 'no' (FORMAT, "Questions"). Questions 7 and 10 to 15 are the
-- certificate's own. Cited by the number of a call and by the contracts of judging. Assumes nothing: these are definitions.
use Rattle.std.specs.Prelude.{Bool, ◌&&◌, cond, List, [], ◌∷◌, ℕ, suc, leb, eqb, length}
use Rattle.market.specs.Combination.{is_combination}
use Rattle.pricing.specs.Certificate.{Certificate}
use Rattle.pricing.specs.Questions.{test, within_reserve, within_sets, cover, totals, stationary, slack_sets, slack_reserve, slack_zero}
use Rattle.book.specs.Bytes.{byte}
use Rattle.book.specs.Book.{Book, clients, supplies}
use Rattle.winners.specs.Combinations.{market, worth}
use Rattle.winners.specs.Greatest.{greatest}
use Rattle.demands.specs.Sheet.{Sheet, sheet_long, sheet_w, sheet_formula}
use Rattle.demands.specs.Winners.{sigma, rho}
use Rattle.pricing.specs.Ranges.{in_range}

-- 6. version, length and w are there, w is at most the book's n, and the length is the formula's and that of the bytes
unfoldable pub form_good : Book → List ℕ → Bool
form_good b bs =
    ((leb 4 (length bs) && eqb (byte 0 bs) 1) && leb (sheet_w bs) (clients b))
    && (eqb (sheet_long bs) (sheet_formula (sheet_w bs)) && eqb (length bs) (sheet_formula (sheet_w bs)))

-- 8. the bids are a combination by strictly rising client
unfoldable pub winners_good : Book → (winners : List ℕ) → Bool
winners_good b is = is_combination (market b) (clients b) (supplies b) is

-- 9. their value is v
unfoldable pub value_good : Book → (winners : List ℕ) → Bool
value_good b is = eqb (worth b is) (greatest b 0)

-- 10 to 15, for the bounds σ and ρ
unfoldable pub certificate_tests : Certificate → (σ ρ : ℕ → ℕ) → List Bool
certificate_tests c σ ρ =
    test within_reserve c σ ρ
    ∷ test within_sets c σ ρ
    ∷ test cover c σ ρ
    ∷ test totals c σ ρ
    ∷ test stationary c σ ρ
    ∷ (test slack_sets c σ ρ && (test slack_reserve c σ ρ && test slack_zero c σ ρ))
    ∷ []

-- 7 to 15
unfoldable pub sheet_tests : Book → Sheet → List Bool
sheet_tests b h =
    in_range h.numbers
    ∷ winners_good b h.bids
    ∷ value_good b h.bids
    ∷ certificate_tests h.numbers (sigma b h.bids) (rho b h.bids)

-- the number of the first question that is answered no, where the first of all has the number k; 0 where none is
unfoldable pub first_no : (k : ℕ) → List Bool → ℕ
first_no k [] = 0
first_no k (yes? ∷ more) = let later = first_no (suc k) more in cond yes? later k

unfoldable pub judged : Book → Sheet → ℕ
judged b h = first_no 7 (sheet_tests b h)
