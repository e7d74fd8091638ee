-- The worked calls A to J as one table: each input byte by byte, what is to be answered, and one computation that the definitions answer
-- just that. B and D have the s and the Y of A. What it computes with is cited by the other computed calls. Assumes nothing.
use mathlib.Core.Path.{◌≡◌, refl}
use mathlib.Core.List.{List, [], ◌∷◌, ◌++◌, map}
use Prim.Native.Nat.{ℕ}
use lib.ListN.{replicate}
use Rattle.sets.specs.Sums.{sum}
use Rattle.sets.specs.Sets.{has, sum_in, over_sets, holding, single}
use Rattle.market.specs.Market.{fits, less}
use Rattle.market.specs.Greatest.{open_to, choose, best}
use Rattle.market.specs.Combination.{worth, rising_from, is_combination}
use Rattle.pricing.specs.Questions.{every, every_set, same_signed, slack, test}
use Rattle.book.specs.Bytes.{field, bytes_at}
use Rattle.book.specs.Lists.{within, all, count, all_to, total}
use Rattle.book.specs.Book.{clients, standing, no_bid, bid_at, client_of, supplies, reserves_of}
use Rattle.book.specs.Layout.{book_long, k_of, n_of, m_of, statuses_from, bids_from, kind_here, kinds_in, bid_here, bids_in, book_in}
use Rattle.book.specs.Questions.{version_good, book_formula, counts_ranged, counts_good, kind_good, status_good, tables_good, bid_good}
use Rattle.book.specs.Questions.{bids_of, few_bids, bids_good, reserves_met, amounts_good, entries_refusal, book_refusal}
use Rattle.winners.specs.Combinations.{market, amount_of}
use Rattle.winners.specs.Greatest.{without, greatest_without, discarded, greatest}
use Rattle.winners.specs.Surplus.{any, picked, surplus}
use Rattle.demands.specs.Sheet.{sheet_long, sheet_w, sheet_formula, winner_place, set_place}
use Rattle.demands.specs.Sheet.{of_winner, of_set, numbers_in, sheet_in}
use Rattle.demands.specs.Winners.{clients_of, sigma, win, reserves, rho}
use Rattle.sets.specs.Tables.{tabulate}
use Rattle.pricing.specs.Ranges.{signed, winners_at_most, sets_at_most, g_in_range, in_range}
use Rattle.demands.specs.Questions.{form_good, winners_good, value_good, certificate_tests, sheet_tests, first_no, judged}
use Rattle.demands.specs.Call.{sheet_part, call_in, call_refusal}
use Rattle.demands.specs.Answer.{price, acceptance, refusal, answer, answer_of}
use Rattle.winners.specs.Value.{value_refusal, value_of}

-- what a call computes with
unfoldable pub computed : Unit {0}
unfolding sum has sum_in over_sets holding single fits less open_to choose best worth rising_from is_combination every every_set
    same_signed slack test field bytes_at within all count all_to total clients standing no_bid bid_at client_of supplies reserves_of
    book_long k_of n_of m_of statuses_from bids_from kind_here kinds_in bid_here bids_in book_in version_good book_formula counts_ranged
    counts_good kind_good status_good tables_good bid_good bids_of few_bids bids_good reserves_met amounts_good entries_refusal
    book_refusal market amount_of without greatest_without discarded greatest any picked surplus sheet_long sheet_w sheet_formula
    winner_place set_place of_winner of_set signed numbers_in sheet_in clients_of sigma win reserves rho winners_at_most sets_at_most
    g_in_range in_range form_good winners_good value_good certificate_tests sheet_tests first_no judged sheet_part call_refusal tabulate
    price acceptance refusal answer answer_of value_refusal value_of
computed = tt

-- NUMBERS below 256, in four bytes and in eight
abbrev four : ℕ → List ℕ
four x = 0x00 ∷ 0x00 ∷ 0x00 ∷ x ∷ []

abbrev eight : ℕ → List ℕ
eight x = 0x00 ∷ 0x00 ∷ 0x00 ∷ 0x00 ∷ 0x00 ∷ 0x00 ∷ 0x00 ∷ x ∷ []

-- BOOKS: one kind with two hours, three clients, and bids of one hour by the first two and of both hours by the third
abbrev book : (reserve third_status second_amount third_amount : ℕ) → List ℕ
book reserve third second_amount third_amount =
    (0x01 ∷ 0x00 ∷ 0x1e ∷ 0x01 ∷ 0x02 ∷ 0x00 ∷ reserve ∷ 0x03 ∷ 0x00 ∷ 0x00 ∷ third ∷ 0x03 ∷ [])
    ++ (0x01 ∷ 0x01 ∷ four 0x3c) ++ (0x02 ∷ 0x01 ∷ four second_amount) ++ (0x03 ∷ 0x02 ∷ four third_amount)

abbrev book_a : List ℕ
book_a = book 0x0a 0x00 0x32 0x46

-- the same without its bids
abbrev book_i : List ℕ
book_i = 0x01 ∷ 0x00 ∷ 0x0c ∷ 0x01 ∷ 0x02 ∷ 0x00 ∷ 0x0a ∷ 0x03 ∷ 0x00 ∷ 0x00 ∷ 0x00 ∷ 0x00 ∷ []

-- SHEETS
abbrev winner : (X Z R : ℕ) → List ℕ
winner X Z R = eight X ++ four Z ++ eight R ++ eight 0x00

abbrev set : (Y : ℕ) → List ℕ
set Y = four Y ++ eight 0x00

-- bids 1 and 2 with s 1: q, the two winners, G, and Y of both together
abbrev sheet : (q : ℕ) → (first second : List ℕ) → (G Y : ℕ) → List ℕ
sheet q first second G Y =
    (0x01 ∷ 0x00 ∷ 0x72 ∷ 0x02 ∷ 0x01 ∷ 0x02 ∷ []) ++ four q ++ four 0x01 ++ first ++ second ++ eight G ++ set 0x00 ++ set 0x00 ++ set Y

-- that of call A with other discounts
abbrev sheet_a : (first second : ℕ) → List ℕ
sheet_a first second = sheet 0x01 (winner first 0x00 0x00) (winner second 0x00 0x00) 0x14 0x01

-- bid 3 alone, and no bid, with q and s 1
abbrev sheet_h : List ℕ
sheet_h = (0x01 ∷ 0x00 ∷ 0x3d ∷ 0x01 ∷ 0x03 ∷ []) ++ four 0x01 ++ four 0x01 ++ winner 0x00 0x00 0x00 ++ eight 0x00 ++ set 0x00

abbrev sheet_i : List ℕ
sheet_i = (0x01 ∷ 0x00 ∷ 0x14 ∷ 0x00 ∷ []) ++ four 0x01 ++ four 0x01 ++ eight 0x00

abbrev pub call_a : List ℕ
call_a = book_a ++ sheet_a 0x14 0x14

-- THE CALLS, in their order; J asks for the greatest value twice
abbrev calls : List (List ℕ)
calls =
    call_a
    -- B: the third amount is 71
    ∷ (book 0x0a 0x00 0x32 0x47 ++ sheet 0x02 (winner 0x27 0x00 0x00) (winner 0x27 0x00 0x00) 0x27 0x01)
    -- C: client 3 is withdrawn
    ∷ (book 0x0a 0x01 0x32 0x46 ++ sheet 0x01 (winner 0x32 0x01 0x00) (winner 0x28 0x01 0x00) 0x0a 0x00)
    -- D: the reserve is 20 and the second amount 25
    ∷ (book 0x14 0x00 0x19 0x46 ++ sheet 0x01 (winner 0x0a 0x00 0x00) (winner 0x05 0x00 0x05) 0x05 0x01)
    -- E, F, G: call A with other discounts
    ∷ (book_a ++ sheet_a 0x15 0x14)
    ∷ (book_a ++ sheet_a 0x14 0x13)
    ∷ (book_a ++ sheet_a 0x28 0x00)
    -- H: bid 3 alone; I: no bids
    ∷ (book_a ++ sheet_h)
    ∷ (book_i ++ sheet_i)
    ∷ []

abbrev discards : List ℕ
discards = 0x04 ∷ 0x08 ∷ []

-- THE ANSWERS: number, w, q and the six prices of A to I; number and value of J
abbrev judging : List ℕ → List ℕ
judging bs = let a = answer_of (call_in bs) in a.number ∷ a.w ∷ a.q ∷ a.prices

abbrev weighing : (discard : ℕ) → List ℕ
weighing d = let a = value_of (book_refusal book_a) (book_in book_a) d in a.number ∷ a.value ∷ []

pub table :
    map judging calls ++ map weighing discards
    ≡ (0 ∷ 2 ∷ 1 ∷ 40 ∷ 30 ∷ replicate 4 0)
    ∷ (0 ∷ 2 ∷ 2 ∷ 81 ∷ 61 ∷ replicate 4 0)
    ∷ (0 ∷ 2 ∷ 1 ∷ 10 ∷ 10 ∷ replicate 4 0)
    ∷ (0 ∷ 2 ∷ 1 ∷ 50 ∷ 20 ∷ replicate 4 0)
    ∷ (11 ∷ 0 ∷ 0 ∷ replicate 6 0)
    ∷ (13 ∷ 0 ∷ 0 ∷ replicate 6 0)
    ∷ (14 ∷ 0 ∷ 0 ∷ replicate 6 0)
    ∷ (9 ∷ 0 ∷ 0 ∷ replicate 6 0)
    ∷ (0 ∷ 0 ∷ 1 ∷ replicate 6 0)
    ∷ (0 ∷ 110 ∷ [])
    ∷ (16 ∷ 0 ∷ [])
    ∷ []
unfolding computed
table = refl
