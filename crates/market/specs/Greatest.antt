-- The greatest value that a combination of bids can have, by recursion on the clients left: a client passes, or takes one bid of its own
-- that fits. What a bid is worth is the argument `weight`. proofs/Optimum.antt shows that it is the greatest over all combinations.
-- Assumes nothing: these are definitions.
use Rattle.std.specs.Prelude.{Bool, cond, ◌&&◌, List, ℕ, zero, suc, ◌+◌, max, eqb}
use Rattle.market.specs.Market.{Market, fits, less}

-- client c may take the bid: it is c's own, may be taken, and fits in what is left
unfoldable pub open_to : Market → (c : ℕ) → (left : List ℕ) → (bid : ℕ) → Bool
open_to m c ls i = eqb (m.owner i) c && (m.may i && fits (m.hours i) ls)

-- the largest of `pass` and of what client c reaches by taking any one of the bids 1 to n, where `on` is what the later clients reach
unfoldable pub choose : Market → (weight : ℕ → ℕ) → (n c : ℕ) → (left : List ℕ) → (pass : ℕ) → (on : List ℕ → ℕ) → ℕ
choose m wt zero c ls p on = p
choose m wt (suc i) c ls p on =
    let before = choose m wt i c ls p on in
    let taking = max before (wt (suc i) + on (less ls (m.hours (suc i)))) in
    cond (open_to m c ls (suc i)) taking before

-- the greatest value that the clients c, c + 1, .. (`ahead` of them) reach with the hours left
unfoldable pub best : Market → (weight : ℕ → ℕ) → (ahead c : ℕ) → (left : List ℕ) → ℕ
best m wt zero c ls = 0
best m wt (suc k) c ls = choose m wt m.bids c ls (best m wt k (suc c) ls) (λ rs. best m wt k (suc c) rs)
