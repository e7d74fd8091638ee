-- Least hours found, offer by offer, and the row that is there once they are taken off. Cited by the proofs of src/row.rt and src/trims.rt.
-- Assumes nothing.
use mathlib.Core.Path.{◌≡◌, refl, sym, ◌∙◌}
use mathlib.Core.List.{List}
use Prim.Native.Nat.{ℕ, zero, suc, ◌+◌, ◌≤◌, ◌<◌}
use native.Mathlib.Decide.{ℕ_discrete, dec_lt}
use native.Mathlib.Omega.{arith}
use lib.ListN.{length, replicate, length-replicate}
use Rattle.sets.proofs.Filled.{zeros_at}
use Rattle.market.specs.Market.{at, less}
use Rattle.market.proofs.Adding.{fits_trans}
use Rattle.market.proofs.RowOf.{row_trimmed}
use Rattle.winners.specs.Lanes.{packed, Asked, SmallerLanes}
use Rattle.winners.specs.Rows.{hours_at}
use Rattle.winners.specs.Trims.{LeastTo, LeastIn, TakenOff, Settled}
use Rattle.winners.specs.declared.row.Offer.{Offer}
use Rattle.winners.proofs.LaneSums.{packed_most}
use Rattle.winners.proofs.LanesLeast.{asked_less, smaller_first, smaller_second}

-- LEAST HOURS
packed_zeros : (k : ℕ) → packed (replicate k 0) ≡ 0
unfolding packed
packed_zeros zero = refl
packed_zeros (suc k) = omega (arith, packed_zeros k)

-- no hours of k kinds
none_asked : (k : ℕ) → Asked k (replicate k 0) 0
none_asked k = record {
  kinds = length-replicate k 0;
  bytes = λ i. omega (arith, zeros_at {A = ℕ} {z = 0} k i);
  packs = sym (packed_zeros k);
}

-- hours in lanes are below their guards
pub asked_few : (k : ℕ) (hs : List ℕ) (a : ℕ) → k ≤ 4 → Asked k hs a → a ≤ 71777214294589695
asked_few k hs a l h = omega (arith, h.packs, packed_most hs (omega (arith, h.kinds)) h.bytes)

module _ (os : List Offer) where
  -- to begin with, the first offer's hours; none where there is none
  pub least_first : (least : ℕ) → (0 < length os → least ≡ hours_at os 0) → (length os ≤ 0 → least ≡ 0) → LeastTo 0 os least
  least_first least some none = record {
    found = λ k asked few each. elim (dec_lt 0 (length os)) [
      | yes l ↦ (asked 0, rw (some l) (each 0 l), λ e b c. absurd (omega arith))
      | no n ↦ (replicate k 0, rw (none (omega arith)) (none_asked k), λ e b c. absurd (omega arith))
    ];
  }

  -- then the smaller of them and of each offer's
  pub least_next : (d least now : ℕ) → d < length os → SmallerLanes least (hours_at os d) now → LeastTo d os least → LeastTo (d + 1) os now
  least_next d least now l s f = record {
    found = λ k asked few each.
        let (hs, a, fit) = f.found k asked few each in
        let b = each d l in
        let smaller = less hs (less hs (asked d)) in (
          smaller,
          s k hs (asked d) few a b,
          λ e u v. elim (ℕ_discrete e d) [
            | yes q ↦ rw q (smaller_second hs (asked d) (a.kinds ∙ sym b.kinds))
            | no q ↦ fits_trans smaller hs (asked e) (smaller_first hs (asked d)) (fit e (omega arith) v)
          ],
        );
  }

-- THE ROW SETTLED
pub settled_there : (least : ℕ) (xs ys : List Offer) → LeastIn xs least → TakenOff least xs ys → Settled xs ys least
settled_there least xs ys found off = record {
  trims = λ m wt k n t row kinds h.
      let (hs, a, fit) = found.found k (λ e. m.hours (at row e)) kinds (λ e l. (h.offered e (omega (arith, h.count))).asks) in
      record {
        row = row;
        least = hs;
        asked = a;
        low = λ d l. fit d (omega (arith, h.count)) (omega (arith, h.count));
        held = record {
          holds = row_trimmed m (λ c. hs) n t row h.holds;
          falls = h.falls;
          count = off.count ∙ h.count;
          offered = λ d l.
              let inside : d < length xs = omega (arith, h.count) in
              let offered = h.offered d l in
              record {
                weighs = off.weights d inside ∙ offered.weighs;
                asks = rw (off.hours d inside)
                    (asked_less k (m.hours (at row d)) hs (hours_at xs d) least (fit d inside inside) offered.asks a.packs);
              };
        };
      };
}
