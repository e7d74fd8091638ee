-- The printed text at work, computed: that of the worked call A, which is accepted, and that of no input at all, refused by question 1.
-- Nothing cites it. Assumes nothing.
use mathlib.Core.Path.{◌≡◌, refl}
use mathlib.Core.List.{[], ◌∷◌, ◌++◌}
use Rattle.demands.specs.Call.{call_in}
use Rattle.demands.proofs.Calls.{computed, call_a}
use Rattle.text.specs.Decimal.{digits, decimal}
use Rattle.listing.specs.Listing.{accepted_word, refused_word, ending, lines, winner_line, winner_lines, accepted_text, refused_text}
use Rattle.listing.specs.Listing.{listing_of}

-- `accepted 2 1`, then `1 1 40` and `2 2 30`
listing_a : listing_of (call_in call_a) ≡
    (97 ∷ 99 ∷ 99 ∷ 101 ∷ 112 ∷ 116 ∷ 101 ∷ 100 ∷ 32 ∷ 50 ∷ 32 ∷ 49 ∷ 10 ∷ [])
    ++ (49 ∷ 32 ∷ 49 ∷ 32 ∷ 52 ∷ 48 ∷ 10 ∷ [])
    ++ (50 ∷ 32 ∷ 50 ∷ 32 ∷ 51 ∷ 48 ∷ 10 ∷ [])
unfolding computed digits decimal accepted_word ending lines winner_line winner_lines accepted_text listing_of
listing_a = refl

-- `refused 1`
listing_none : listing_of (call_in []) ≡ 114 ∷ 101 ∷ 102 ∷ 117 ∷ 115 ∷ 101 ∷ 100 ∷ 32 ∷ 49 ∷ 10 ∷ []
unfolding computed digits decimal refused_word ending refused_text listing_of
listing_none = refl
