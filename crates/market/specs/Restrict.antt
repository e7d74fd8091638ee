-- A market of which only some clients are kept, and a list of which only their bids are kept; and a market without the bids that never fit.
-- proofs/Restrict.antt, proofs/Kept.antt and proofs/Fitted.antt hold the laws. Assumes nothing: these are definitions.
use Rattle.std.specs.Prelude.{Bool, cond, ◌&&◌, List, [], ◌∷◌, ℕ}
use Rattle.market.specs.Market.{Market, fits}

-- the same market, of which only bids of clients that are kept may be taken
abbrev pub only : (keep : ℕ → Bool) → Market → Market
only keep m =
    record { bids = m.bids; owner = m.owner; hours = m.hours; may = λ i. m.may i && keep (m.owner i) }

-- of a list, the bids of clients that are kept
unfoldable pub kept : Market → (keep : ℕ → Bool) → List ℕ → List ℕ
kept m keep [] = []
kept m keep (i ∷ is) = let rest = kept m keep is in cond (keep (m.owner i)) (i ∷ rest) rest

-- the same market, of which a bid that asks for more than the supply may not be taken
abbrev pub fitted : (supply : List ℕ) → Market → Market
fitted supply m =
    record { bids = m.bids; owner = m.owner; hours = m.hours; may = λ i. m.may i && fits (m.hours i) supply }
