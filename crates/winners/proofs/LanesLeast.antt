-- Lanes compared and taken off each other: what the lanes of one number exceed those of another by, the smaller of two lane by lane, and
-- hours taken off hours that are no less. Cited by the proofs of src/lanes.rt and by Trimming.antt. Assumes nothing.
use mathlib.Core.Path.{◌≡◌, refl, sym, ap, ◌∙◌}
use mathlib.Core.Bool.{true, false≢true, and-eq-true_iff}
use mathlib.Core.List.{List, [], ◌∷◌}
use Prim.Native.Nat.{ℕ, zero, suc, ◌+◌, ◌*◌, ◌-◌, ◌/◌, ◌^◌, ◌≤◌, ◌<◌}
use native.Mathlib.Decide.{dec_lt}
use native.Mathlib.Omega.{arith}
use borrow.Author.Tests.{leb-true}
use lib.Bits.{bit_and, and_mask, and_zero_r}
use lib.Dec.{leb}
use lib.ListN.{length}
use Rattle.market.specs.Market.{fits, less}
use Rattle.market.proofs.Hours.{less_length, less_at, fits_if}
use Rattle.market.proofs.Adding.{less_fits}
use Rattle.winners.specs.Lanes.{packed, over_lanes, Bytes, Asked, SmallerLanes}
use Rattle.winners.proofs.Guard.{guard_set, guard_clear, lane_apart}
use Rattle.winners.proofs.LaneSums.{guards, less_bytes}

-- HOURS TAKEN OFF
pub packed_less : (xs zs : List ℕ) → fits zs xs ≡ true → packed (less xs zs) + packed zs ≡ packed xs
unfolding packed fits less
packed_less [] [] t = refl
packed_less [] (z ∷ zs) t = absurd (false≢true t)
packed_less (x ∷ xs) [] t = omega arith
packed_less (x ∷ xs) (z ∷ zs) t =
    let (a, b) = (and-eq-true_iff (leb z x) (fits zs xs)).0 t in
    omega (arith, leb-true z x a, packed_less xs zs b)

-- and added again
pub asked_whole : (k : ℕ) (xs zs : List ℕ) (a b : ℕ) → fits zs xs ≡ true → Bytes xs → Asked k (less xs zs) a → Asked k zs b
    → Asked k xs (b + a)
asked_whole k xs zs a b t bytes h g = record {
  kinds = sym (less_length xs zs) ∙ h.kinds;
  bytes = bytes;
  packs = omega (arith, h.packs, g.packs, packed_less xs zs t);
}

pub asked_less : (k : ℕ) (xs zs : List ℕ) (a b : ℕ) → fits zs xs ≡ true → Asked k xs a → b ≡ packed zs → Asked k (less xs zs) (a - b)
asked_less k xs zs a b t h e = record {
  kinds = less_length xs zs ∙ h.kinds;
  bytes = less_bytes xs zs h.bytes;
  packs = omega (arith, packed_less xs zs t, h.packs);
}

-- LANES COMPARED: those whose guard stays have their bit in r
Over : (n apart : ℕ) → List ℕ → Type 0
Over n apart zs = (r : ℕ) × (bit_and apart (guards n) ≡ 256 * r) × (bit_and apart (255 * r) ≡ packed zs)

-- one lane more
over_next : (n x y rest apart : ℕ) (zs : List ℕ) → x < 256 → y < 256 → apart ≡ 256 + x - y + 65536 * rest → Over n rest zs
    → Over (suc n) apart ((x - y) ∷ zs)
unfolding Over guards packed
over_next n x y rest apart zs a b e (r, g, v) = elim (dec_lt x y) [
  | yes l ↦ let clear = guard_clear (256 + x - y) (omega arith) in (
    65536 * r,
    rw e (lane_apart (256 + x - y) 256 rest (guards n) (omega arith) (omega arith) ∙ omega (arith, clear, g)),
    rw e (ap (λ (m : ℕ). bit_and (256 + x - y + 65536 * rest) m) {y = 0 + 65536 * (255 * r)} (omega arith)
        ∙ lane_apart (256 + x - y) 0 rest (255 * r) (omega arith) (omega arith) ∙ omega (arith, and_zero_r (256 + x - y), v)),
  )
  | no l ↦
      let same : 256 + x - y ≡ 256 + (x - y) = omega arith in
      let set : bit_and (256 + x - y) 256 ≡ 256 = ap (λ (m : ℕ). bit_and m 256) same ∙ guard_set (x - y) (omega arith) in
      let low : bit_and (256 + x - y) 255 ≡ x - y = and_mask (256 + x - y) 8 ∙ omega arith in (
        1 + 65536 * r,
        rw e (lane_apart (256 + x - y) 256 rest (guards n) (omega arith) (omega arith) ∙ omega (arith, set, g)),
        rw e (ap (λ (m : ℕ). bit_and (256 + x - y + 65536 * rest) m) {y = 255 + 65536 * (255 * r)} (omega arith)
            ∙ lane_apart (256 + x - y) 255 rest (255 * r) (omega arith) (omega arith) ∙ omega (arith, low, v)),
      )
]

-- what is taken off is below the guards
below_guards : (n : ℕ) (ys : List ℕ) → length ys ≤ n → Bytes ys → packed ys ≤ guards n
unfolding packed guards
below_guards n [] l b = omega arith
below_guards zero (y ∷ ys) l b = absurd (omega arith)
below_guards (suc n) (y ∷ ys) l b = omega (arith, b 0, below_guards n ys (omega arith) (λ i. b (suc i)))

over_all : (n : ℕ) (xs ys : List ℕ) → length xs ≡ length ys → length ys ≤ n → Bytes xs → Bytes ys
    → Over n (packed xs + guards n - packed ys) (less xs ys)
unfolding Over guards packed less
over_all zero [] [] e l a b = (0, refl, refl)
over_all (suc n) [] [] e l a b =
    let (r, g, v) = over_next n 0 0 (0 + guards n - 0) (0 + guards (suc n) - 0) [] (omega arith) (omega arith) (omega arith)
    (over_all n [] [] e (omega arith) a b) in
    (r, g, v ∙ omega arith)
over_all n [] (y ∷ ys) e l a b = absurd (omega arith)
over_all n (x ∷ xs) [] e l a b = absurd (omega arith)
over_all zero (x ∷ xs) (y ∷ ys) e l a b = absurd (omega arith)
over_all (suc n) (x ∷ xs) (y ∷ ys) e l a b =
    over_next n x y (packed xs + guards n - packed ys) (x + 65536 * packed xs + (256 + 65536 * guards n) - (y + 65536 * packed ys))
    (less xs ys) (a 0) (b 0)
    (omega (arith, a 0, b 0, below_guards n ys (omega arith) (λ i. b (suc i))))
    (over_all n xs ys (omega arith) (omega arith) (λ i. a (suc i)) (λ i. b (suc i)))

-- FOUR LANES
over_is : (xs ys : List ℕ) → length xs ≡ length ys → length ys ≤ 4 → Bytes xs → Bytes ys
    → over_lanes (packed xs) (packed ys) ≡ packed (less xs ys)
unfolding over_lanes Over guards
over_is xs ys e l a b =
    let (r, g, v) = over_all 4 xs ys e l a b in
    let mask : 256 * r - 256 * r / 2 ^ 8 ≡ 255 * r = omega arith in
    rw (g, mask) v

pub least_is : (a b r : ℕ) → r ≡ a - over_lanes a b → SmallerLanes a b r
least_is a b r e k xs ys l ha hb =
    let over : over_lanes a b ≡ packed (less xs ys)
    = rw (ha.packs, hb.packs) (over_is xs ys (ha.kinds ∙ sym hb.kinds) (omega (arith, hb.kinds)) ha.bytes hb.bytes) in
    rw e (asked_less k xs (less xs ys) a (over_lanes a b) (less_fits xs ys) ha over)

-- THE SMALLER FITS BOTH
pub smaller_first : (xs ys : List ℕ) → fits (less xs (less xs ys)) xs ≡ true
smaller_first xs ys = less_fits xs (less xs ys)

pub smaller_second : (xs ys : List ℕ) → length xs ≡ length ys → fits (less xs (less xs ys)) ys ≡ true
smaller_second xs ys e =
    fits_if _ ys (omega (arith, less_length xs (less xs ys)))
    (λ k l. omega (arith, less_at xs (less xs ys) k, less_at xs ys k))
