-- A small market, computed: the recursion, the test and the split say of it what one finds by hand, and the test refuses what breaks each
-- rule alone. Nothing cites it. Assumes nothing.
use mathlib.Core.Path.{◌≡◌, refl}
use mathlib.Core.Bool.{true, false, not}
use mathlib.Core.List.{List, [], ◌∷◌, map}
use Prim.Native.Nat.{ℕ}
use lib.Dec.{eqb}
use lib.ListN.{get_or}
use Rattle.market.specs.Market.{Market, at, fits, less}
use Rattle.market.specs.Greatest.{open_to, choose, best}
use Rattle.market.specs.Combination.{rising_from, is_combination}
use Rattle.market.specs.Restrict.{only}
use Rattle.market.specs.Members.{more, reach, full, members, without, leasts, trimmed, choose_in}

-- four bids of three clients on two kinds of hours; then bids 5 to 8: too many hours, not to be taken, of a fourth client, of nobody
abbrev sample : Market
sample =
    record {
      bids = 8;
      owner = at (1 ∷ 1 ∷ 1 ∷ 2 ∷ 3 ∷ 2 ∷ 3 ∷ 4 ∷ 0 ∷ 3 ∷ []);
      hours =
          λ i. get_or ([] ∷ (3 ∷ 1 ∷ []) ∷ (1 ∷ 0 ∷ []) ∷ (2 ∷ 2 ∷ []) ∷ (1 ∷ 1 ∷ []) ∷ (0 ∷ 9 ∷ []) ∷ []) i (0 ∷ 0 ∷ []);
      may = λ i. not (eqb i 6);
    }

abbrev amount : ℕ → ℕ
amount = at (90 ∷ 10 ∷ 3 ∷ 8 ∷ 4 ∷ 50 ∷ 60 ∷ 70 ∷ 80 ∷ 90 ∷ [])

abbrev supply : List ℕ
supply = 4 ∷ 3 ∷ []

-- bids 2, 3 and 4 together; without client 1 bids 3 and 4; with one hour more of the first kind bids 1 and 3
values : (best sample amount 3 1 supply ≡ 15)
    × (best (only (λ c. not (eqb c 1)) sample) amount 3 1 supply ≡ 12)
    × (best sample amount 3 1 (5 ∷ 3 ∷ []) ≡ 18)
unfolding best choose open_to fits less
values = (refl, refl, refl)

-- none; the best; too many hours; two bids of one client; falling clients; bids 6, 7, 8; the numbers just below and just above the bids
tests : map (is_combination sample 3 supply)
    ([] ∷ (2 ∷ 3 ∷ 4 ∷ []) ∷ (1 ∷ 3 ∷ []) ∷ (1 ∷ 2 ∷ []) ∷ (3 ∷ 2 ∷ []) ∷ (6 ∷ []) ∷ (7 ∷ []) ∷ (8 ∷ []) ∷ (0 ∷ []) ∷ (9 ∷ []) ∷ [])
    ≡ (true ∷ true ∷ false ∷ false ∷ false ∷ false ∷ false ∷ false ∷ false ∷ false ∷ [])
unfolding is_combination rising_from fits less
tests = refl

-- what of each kind each client's bids that may be taken ask for at least
abbrev least : ℕ → List ℕ
least c = get_or ([] ∷ (1 ∷ 0 ∷ []) ∷ (0 ∷ 2 ∷ []) ∷ (1 ∷ 1 ∷ []) ∷ []) c []

-- what the members reach; then the parts of the split: where nobody passes, and without each one of them
abbrev parts : (members left : List ℕ) → List ℕ
parts cs ls =
    reach sample amount cs ls
    ∷ full (trimmed least sample) amount cs (less ls (leasts least cs))
    ∷ map (λ d. reach sample amount (without d cs) ls) (0 ∷ 1 ∷ 2 ∷ [])

-- bids of all are the best; two clients do better; the least hours, 2 and 3, do not fit, and two clients are the best
split_parts : (parts (members (λ c. true) 3 1) supply ≡ (15 ∷ 15 ∷ 12 ∷ 14 ∷ 11 ∷ []))
    × (parts (1 ∷ 2 ∷ 3 ∷ []) (5 ∷ 3 ∷ []) ≡ (18 ∷ 15 ∷ 12 ∷ 14 ∷ 18 ∷ []))
    × (fits (leasts least (1 ∷ 2 ∷ 3 ∷ [])) (4 ∷ 2 ∷ []) ≡ false)
    × (reach sample amount (1 ∷ 2 ∷ 3 ∷ []) (4 ∷ 2 ∷ []) ≡ 14)
unfolding more reach full members without leasts choose open_to fits less
split_parts = (refl, refl, refl, refl)

-- client 3 takes bid 4, and nothing is left for client 2, or passes; client 1 chooses from its row
nobody_passes : (full sample amount (3 ∷ 2 ∷ []) (2 ∷ 2 ∷ []) ≡ 4)
    × (reach sample amount (3 ∷ 2 ∷ []) (2 ∷ 2 ∷ []) ≡ 8)
    × (choose_in sample amount (1 ∷ 2 ∷ []) supply 0 (λ rs. 0) ≡ 10)
    × (choose_in sample amount (1 ∷ 2 ∷ []) (2 ∷ 2 ∷ []) 0 (λ rs. 0) ≡ 3)
unfolding reach full choose choose_in open_to fits less
nobody_passes = (refl, refl, refl, refl)
