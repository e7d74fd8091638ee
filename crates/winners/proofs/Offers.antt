-- The offers of a row, by the room of the row. Cited by the proofs of src/row.rt and src/full.rt. Assumes nothing.
use mathlib.Core.Path.{◌≡◌, ap, ◌∙◌}
use mathlib.Core.List.{List}
use Prim.Native.Nat.{ℕ, ◌≤◌, ◌<◌}
use native.Mathlib.Omega.{arith}
use lib.ListN.{length, get_or, take, length-take}
use lib.Seq.{get_or-take, length-take-le}
use Rattle.std.proofs.lemmas.List.{get_or_read}
use Rattle.winners.specs.Rows.{no_offer, no_row, offers_of, row_of, offer_at, weight_at, hours_at}
use Rattle.winners.specs.declared.places.TheConstants.{ROW_BIDS}
use Rattle.winners.specs.declared.row.Offer.{Offer}
use Rattle.winners.specs.declared.row.Row.{Row}

module _ (n : ℕ) (os : List Offer) (d : ℕ) (l : d < n) where
  pub weight_kept : weight_at (take n os) d ≡ weight_at os d
  weight_kept = ap (λ (o : Offer). o.weight) (get_or-take n os d no_offer l)

  pub hours_kept : hours_at (take n os) d ≡ hours_at os d
  hours_kept = ap (λ (o : Offer). o.hours) (get_or-take n os d no_offer l)

pub offers_count : (r : Row) → r.count ≤ length r.offers → length (offers_of r) ≡ r.count
offers_count r room = length-take-le r.count r.offers room

-- a row has no more offers than room
pub row_few : (rows : List Row) (t : ℕ) → length (row_of rows t) ≤ ROW_BIDS
row_few rows t =
    let r = get_or rows t no_row in
    let few : r.count ≤ 8 = r.few in
    omega (arith, length-take r.count r.offers)

-- an offer that is read from a row
pub read_is : (os items : List Offer) (d : ℕ) (o : Offer) → items ≡ os → d < length items → o ≡ get_or items d o → o ≡ offer_at os d
read_is os items d o e l r = get_or_read items d o l r no_offer ∙ ap (λ (xs : List Offer). offer_at xs d) e
