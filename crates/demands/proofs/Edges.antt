-- The numbers that stand in the definitions, pinned by FORMAT's edges as one table: families of inputs that differ in one number, some of
-- these numbers with what is answered, 0 for acceptance, and one computation that the definitions answer just that. Nothing cites it.
-- Assumes nothing.
use mathlib.Core.Path.{◌≡◌, refl}
use mathlib.Core.List.{List, [], ◌∷◌, ◌++◌, map}
use Prim.Native.Nat.{ℕ, ◌+◌, ◌-◌, ◌^◌}
use lib.ListN.{replicate, take}
use Rattle.demands.specs.Call.{input_refusal}
use Rattle.demands.proofs.Written.{written, big, framed, kind, bid, entries, book, winner, set, numbers, sheet}
use Rattle.demands.proofs.Calls.{computed}

-- a family of inputs, one for each number; and some of these numbers, each with what is answered
pub record Edge : Type 0 where
  pub input : ℕ → List ℕ
  pub answers : List (ℕ × ℕ)

-- NOTHING SOLD: books of which no bid fits, and the sheet of no winner, which is accepted
abbrev of_none : List ℕ
of_none = numbers [] 1 1 [] 0 []

abbrev unsold : (book : List ℕ) → List ℕ
unsold bs = bs ++ framed 1 of_none

-- one kind and one client with one bid
abbrev one_bid : (supply reserve status client hours amount : ℕ) → List ℕ
one_bid supply reserve status client hours amount = entries (kind supply reserve ∷ []) (status ∷ []) (bid client (hours ∷ []) amount ∷ [])

abbrev plain : List ℕ
plain = one_bid 0 0 0 1 1 1

-- bids of client c for one hour and one credit
abbrev bids_of : (c how_many : ℕ) → List (List ℕ)
bids_of c n = replicate n (bid c (1 ∷ []) 1)

abbrev all_bids : List (List ℕ)
all_bids = bids_of 1 8 ++ bids_of 2 8 ++ bids_of 3 8 ++ bids_of 4 8 ++ bids_of 5 8 ++ bids_of 6 8 ++ bids_of 1 1

abbrev of_books : List Edge
of_books =
    -- the first bytes of an input of 36, the book having 16, with a byte behind it
    record {
      input = λ n. take n (unsold (framed 1 plain) ++ (0 ∷ []));
      answers = (0, 1) ∷ (2, 1) ∷ (3, 2) ∷ (15, 2) ∷ (16, 6) ∷ (19, 6) ∷ (35, 6) ∷ (36, 0) ∷ (37, 6) ∷ [];
    }
    -- 1: the version
    ∷ record { input = λ v. unsold (framed v plain); answers = (0, 1) ∷ (1, 0) ∷ (2, 1) ∷ [] }
    -- 2: the length; K, n and m
    ∷ record { input = λ l. unsold (1 ∷ (big 2 l ++ plain)); answers = (15, 2) ∷ (16, 0) ∷ (17, 2) ∷ [] }
    ∷ record {
      input = λ K. unsold (book (replicate K (kind 0 0)) (0 ∷ []) (bid 1 (replicate K 1) 1 ∷ []));
      answers = (0, 2) ∷ (1, 0) ∷ (4, 0) ∷ (5, 2) ∷ [];
    }
    ∷ record {
      input = λ n. unsold (book (kind 0 0 ∷ []) (replicate n 0) []);
      answers = (0, 2) ∷ (1, 0) ∷ (6, 0) ∷ (7, 2) ∷ [];
    }
    ∷ record {
      input = λ m. unsold (book (kind 0 0 ∷ []) (replicate 6 0) (take m all_bids));
      answers = (0, 0) ∷ (48, 0) ∷ (49, 2) ∷ [];
    }
    -- 3: a supply, a reserve, a status
    ∷ record { input = λ x. unsold (framed 1 (one_bid x 0 0 1 202 1)); answers = (0, 0) ∷ (200, 0) ∷ (201, 3) ∷ [] }
    ∷ record { input = λ x. unsold (framed 1 (one_bid 0 x 0 1 1 20000)); answers = (0, 0) ∷ (10000, 0) ∷ (10001, 3) ∷ [] }
    ∷ record { input = λ x. unsold (framed 1 (one_bid 0 0 x 1 1 1)); answers = (0, 0) ∷ (1, 0) ∷ (2, 3) ∷ [] }
    -- 4: a bid's client, hours and amount; a client's bids; and so where the client is withdrawn
    ∷ record { input = λ x. unsold (framed 1 (one_bid 0 0 0 x 1 1)); answers = (0, 4) ∷ (1, 0) ∷ (2, 4) ∷ [] }
    ∷ record { input = λ x. unsold (framed 1 (one_bid 0 0 0 1 x 1)); answers = (0, 4) ∷ (1, 0) ∷ [] }
    ∷ record {
      input = λ x. unsold (framed 1 (one_bid 0 0 0 1 1 x));
      answers = (0, 4) ∷ (1, 0) ∷ (1000000, 0) ∷ (1000001, 4) ∷ (2 ^ 24 + 1, 4) ∷ [];
    }
    ∷ record { input = λ x. unsold (book (kind 0 0 ∷ []) (0 ∷ []) (bids_of 1 x)); answers = (0, 0) ∷ (8, 0) ∷ (9, 4) ∷ [] }
    ∷ record { input = λ x. unsold (framed 1 (one_bid 1 0 1 1 1 x)); answers = (0, 4) ∷ (1, 0) ∷ (1000000, 0) ∷ (1000001, 4) ∷ [] }
    ∷ record { input = λ x. unsold (book (kind 1 0 ∷ []) (1 ∷ []) (bids_of 1 x)); answers = (8, 0) ∷ (9, 4) ∷ [] }
    -- 5: an amount under the reserves of three hours at 10
    ∷ record { input = λ x. unsold (framed 1 (one_bid 0 10 0 1 3 x)); answers = (29, 5) ∷ (30, 0) ∷ (31, 0) ∷ [] }
    ∷ record { input = λ x. unsold (framed 1 (one_bid 3 10 1 1 3 x)); answers = (29, 5) ∷ (30, 0) ∷ (31, 0) ∷ [] }
    -- 6: the sheet's version and length
    ∷ record { input = λ v. framed 1 plain ++ framed v of_none; answers = (0, 6) ∷ (1, 0) ∷ (2, 6) ∷ [] }
    ∷ record { input = λ l. framed 1 plain ++ (1 ∷ (big 2 l ++ of_none)); answers = (19, 6) ∷ (20, 0) ∷ (21, 6) ∷ [] }
    -- w, with two clients and no bid
    ∷ record {
      input = λ w. book (kind 0 0 ∷ []) (0 ∷ 0 ∷ []) []
          ++ sheet (replicate w 1) 1 1 (replicate w (winner 0 0 0 0)) 0 (replicate (2 ^ w - 1) (set 0 0));
      answers = (0, 0) ∷ (2, 8) ∷ (3, 6) ∷ [];
    }
    ∷ []

-- ONE WINNER of the one hour that is sold
abbrev one_wins : (book : List ℕ) → (bid q s X Z R T G Y U : ℕ) → List ℕ
one_wins bs i q s X Z R T G Y U = bs ++ sheet (i ∷ []) q s (winner X Z R T ∷ []) G (set Y U ∷ [])

-- offered once: σ is the amount, and ρ the amount less the reserve
abbrev once : (reserve amount : ℕ) → List ℕ
once reserve amount = book (kind 1 reserve ∷ []) (0 ∷ []) (bid 1 (1 ∷ []) amount ∷ [])

-- 10 is offered, and another's amount: σ is what lies between
abbrev against : (reserve amount : ℕ) → List ℕ
against reserve amount = book (kind 1 reserve ∷ []) (0 ∷ 0 ∷ []) (bid 1 (1 ∷ []) 10 ∷ bid 2 (1 ∷ []) amount ∷ [])

-- σ and ρ are 0: with X 0, where Z and Y reach s, it is accepted just if G + U + R is T
abbrev free : (q s Z R T G Y U : ℕ) → List ℕ
free q s Z R T G Y U = one_wins (against 10 10) 1 q s 0 Z R T G Y U

-- the 64 bits of a number below zero
abbrev minus : ℕ → ℕ
minus x = 2 ^ 64 - x

abbrev most : ℕ
most = 10 ^ 12

abbrev of_ranges : List Edge
of_ranges =
    -- 7: q and s. A number that is too large by its first byte alone is refused too
    record { input = λ x. free x 1 1 0 0 0 0 0; answers = (0, 7) ∷ (1, 0) ∷ (10000, 0) ∷ (10001, 7) ∷ (2 ^ 24 + 1, 7) ∷ [] }
    ∷ record { input = λ x. free 1 x 10000 0 0 0 0 0; answers = (0, 7) ∷ (1, 0) ∷ (10000, 0) ∷ (10001, 7) ∷ (2 ^ 24 + 1, 7) ∷ [] }
    -- X, of an amount of 1,000,000 and over 10,000
    ∷ record {
      input = λ x. one_wins (once 0 1000000) 1 10000 1 x 1 0 0 0 0 0;
      answers = (10 ^ 10, 0) ∷ (10 ^ 10 + 1, 7) ∷ (2 ^ 56 + 10 ^ 10, 7) ∷ [];
    }
    -- Z and Y
    ∷ record { input = λ x. free 1 1 x 0 0 0 0 0; answers = (1, 0) ∷ (10000, 0) ∷ (10001, 7) ∷ (2 ^ 24 + 1, 7) ∷ [] }
    ∷ record { input = λ x. free 1 1 0 0 0 0 x 0; answers = (1, 0) ∷ (10000, 0) ∷ (10001, 7) ∷ (2 ^ 24 + 1, 7) ∷ [] }
    -- R, T and U
    ∷ record { input = λ x. free 1 1 1 x most 0 0 0; answers = (most, 0) ∷ (most + 1, 7) ∷ (2 ^ 56 + most, 7) ∷ [] }
    ∷ record { input = λ x. free 1 1 1 most x 0 0 0; answers = (most, 0) ∷ (most + 1, 7) ∷ (2 ^ 56 + most, 7) ∷ [] }
    ∷ record { input = λ x. free 1 1 1 0 most 0 0 x; answers = (most, 0) ∷ (most + 1, 7) ∷ (2 ^ 56 + most, 7) ∷ [] }
    -- G, above zero and below
    ∷ record { input = λ x. free 1 1 1 0 most x 0 0; answers = (most, 0) ∷ (most + 1, 7) ∷ (2 ^ 63 - 1, 7) ∷ [] }
    ∷ record { input = λ x. free 1 1 1 most 0 (minus x) 0 0; answers = (most, 0) ∷ (most + 1, 7) ∷ (2 ^ 63, 7) ∷ [] }
    ∷ []

-- TWO WINNERS of two hours at 1 credit: client 1 has bid 1, client 2 has bids 2 and 3. Each σ and ρ is what the set's winners offer
abbrev two_win : (supply first_status : ℕ) → (i j : ℕ) → List ℕ
two_win supply status i j =
    book (kind supply 0 ∷ []) (status ∷ 0 ∷ []) (bids_of 1 1 ++ bids_of 2 2)
    ++ sheet (i ∷ j ∷ []) 1 1 (replicate 2 (winner 1 1 0 0)) 0 (replicate 3 (set 0 0))

abbrev of_sheets : List Edge
of_sheets =
    -- 8: bid numbers, strictly rising clients, hours, who stands
    record { input = λ i. one_wins (once 0 1) i 1 1 1 1 0 0 0 0 0; answers = (0, 8) ∷ (1, 0) ∷ (2, 8) ∷ [] }
    ∷ record { input = λ j. two_win 2 0 1 j; answers = (0, 8) ∷ (1, 8) ∷ (2, 0) ∷ (3, 0) ∷ (4, 8) ∷ [] }
    ∷ record { input = λ j. two_win 2 0 2 j; answers = (1, 8) ∷ (3, 8) ∷ [] }
    ∷ record { input = λ x. two_win x 0 1 2; answers = (1, 8) ∷ (2, 0) ∷ (3, 0) ∷ [] }
    ∷ record { input = λ x. two_win 2 x 1 2; answers = (0, 0) ∷ (1, 8) ∷ [] }
    -- 9: a value that another offers more than
    ∷ record { input = λ x. one_wins (against 0 x) 1 1 1 0 1 0 0 0 1 0; answers = (11, 9) ∷ [] }
    -- 10: X with σ 10 and ρ 6; 11: X with σ 2 and ρ 10; 12: s with Z 1 and Y 1
    ∷ record { input = λ x. one_wins (once 4 10) 1 1 1 x 1 0 0 4 0 0; answers = (5, 13) ∷ (6, 0) ∷ (7, 10) ∷ [] }
    ∷ record { input = λ x. one_wins (against 0 8) 1 1 1 x 0 0 0 0 1 0; answers = (1, 13) ∷ (2, 0) ∷ (3, 11) ∷ [] }
    ∷ record { input = λ x. free 1 x 1 0 0 0 1 0; answers = (1, 0) ∷ (2, 0) ∷ (3, 12) ∷ [] }
    -- 14: G; 15: U, R and T where the X sum is not q σ, X is not q ρ, X is not 0
    ∷ record { input = λ x. one_wins (once 4 10) 1 1 1 6 1 0 0 x 0 0; answers = (3, 14) ∷ (4, 0) ∷ (5, 14) ∷ [] }
    ∷ record { input = λ x. one_wins (once 4 10) 1 1 1 6 1 0 0 (4 - x) 0 x; answers = (0, 0) ∷ (1, 15) ∷ [] }
    ∷ record { input = λ x. one_wins (against 0 8) 1 1 1 2 0 x 0 (minus x) 1 0; answers = (1, 15) ∷ [] }
    ∷ record { input = λ x. one_wins (once 0 10) 1 1 1 10 1 0 x x 0 0; answers = (0, 0) ∷ (1, 15) ∷ [] }
    ∷ []

-- THE TABLE
abbrev edges : List Edge
edges = of_books ++ of_ranges ++ of_sheets

abbrev answered : Edge → List ℕ
answered e = map (λ p. input_refusal (e.input p.0)) e.answers

abbrev expected : Edge → List ℕ
expected e = map (λ p. p.1) e.answers

pub table : map answered edges ≡ map expected edges
unfolding computed written
table = refl
