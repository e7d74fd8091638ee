-- Four hours put into their lanes, and cut to the first k. Cited by the proofs of src/lanes.rt. Assumes nothing.
use mathlib.Core.Path.{◌≡◌, refl, ap₂, ◌∙◌}
use mathlib.Core.List.{List, [], ◌∷◌}
use Prim.Native.Nat.{ℕ, zero, suc, ◌+◌, ◌*◌, ◌-◌, ◌%◌, ◌^◌, ◌≤◌, ◌<◌, min}
use native.Mathlib.Nat.{mod-eq_of_lt}
use native.Mathlib.Omega.{arith}
use native.Mathlib.Decide.{dec_lt}
use lib.Bits.{bit_and, and_zero_l, and_zero_r, and_mask}
use lib.ListN.{length, get_or, take, length-take, get_or-eq_default}
use lib.Seq.{take_all}
use Rattle.winners.specs.Lanes.{packed, used, ones, Bytes}
use Rattle.winners.proofs.Guard.{lane_apart}
use Rattle.winners.proofs.LaneSums.{packed_most}

-- at most four entries in their lanes
packed_at : (xs : List ℕ) → length xs ≤ 4
    → get_or xs 0 0 + get_or xs 1 0 * 65536 + get_or xs 2 0 * 4294967296 + get_or xs 3 0 * 281474976710656 ≡ packed xs
unfolding packed
packed_at [] l = refl
packed_at (a ∷ []) l = omega arith
packed_at (a ∷ b ∷ []) l = omega arith
packed_at (a ∷ b ∷ c ∷ []) l = omega arith
packed_at (a ∷ b ∷ c ∷ d ∷ []) l = omega arith
packed_at (a ∷ b ∷ c ∷ d ∷ e ∷ xs) l = absurd (omega arith)

-- the ones of k lanes are a power of 2, less 1
pub ones_shifted : (k : ℕ) → k < 4 → (1 ≤ 1 * 2 ^ (16 * k) % 2 ^ 64) × (1 * 2 ^ (16 * k) % 2 ^ 64 - 1 ≡ ones k)
unfolding ones
ones_shifted zero l = (omega arith, refl)
ones_shifted (suc zero) l = (omega arith, refl)
ones_shifted (suc (suc zero)) l = (omega arith, refl)
ones_shifted (suc (suc (suc zero))) l = (omega arith, refl)
ones_shifted (suc (suc (suc (suc k)))) l = absurd (omega arith)

-- the lanes past the first k are cut off
cut_off : (k : ℕ) (xs : List ℕ) → Bytes xs → bit_and (packed xs) (ones k) ≡ packed (take k xs)
unfolding packed ones
cut_off zero xs b = and_zero_r (packed xs)
cut_off (suc k) [] b = and_zero_l (ones (suc k))
cut_off (suc k) (x ∷ xs) b =
    let kept : bit_and x 65535 ≡ x = and_mask x 16 ∙ mod-eq_of_lt (omega (arith, b 0)) in
    lane_apart x 65535 (packed xs) (ones k) (omega (arith, b 0)) (omega arith) ∙ omega (arith, kept, cut_off k xs (λ i. b (suc i)))

-- entries that are kept are bytes
bytes_cut : (k : ℕ) (xs : List ℕ) → Bytes xs → Bytes (take k xs)
bytes_cut zero xs b i = omega arith
bytes_cut (suc k) [] b i = b i
bytes_cut (suc k) (x ∷ xs) b zero = b 0
bytes_cut (suc k) (x ∷ xs) b (suc i) = bytes_cut k xs (λ i. b (suc i)) i

-- four entries, as they are read
pub record LaneEntries (xs : List ℕ) (a b c d : ℕ) : Type 0 where
  pub long : length xs ≡ 4
  pub first : (a ≡ get_or xs 0 0) × (a ≤ 255)
  pub second : (b ≡ get_or xs 1 0) × (b ≤ 255)
  pub third : (c ≡ get_or xs 2 0) × (c ≤ 255)
  pub fourth : (d ≡ get_or xs 3 0) × (d ≤ 255)

module _ (xs : List ℕ) (a b c d : ℕ) (f : LaneEntries xs a b c d) where
  -- each of them is a byte
  bytes_entries : Bytes xs
  bytes_entries zero = omega (arith, f.first)
  bytes_entries (suc zero) = omega (arith, f.second)
  bytes_entries (suc (suc zero)) = omega (arith, f.third)
  bytes_entries (suc (suc (suc zero))) = omega (arith, f.fourth)
  bytes_entries (suc (suc (suc (suc i)))) =
      let past : get_or xs (suc (suc (suc (suc i)))) 0 ≡ 0 = get_or-eq_default xs 0 (omega (arith, f.long)) in omega arith

  -- in their lanes, and of them the first k
  kept : (k mask : ℕ) → mask ≡ ones (min k 4) → bit_and (a + b * 65536 + c * 4294967296 + d * 281474976710656) mask ≡ packed (take k xs)
  kept k mask e =
      let all : a + b * 65536 + c * 4294967296 + d * 281474976710656 ≡ packed xs
      = omega (arith, packed_at xs (omega (arith, f.long)), f.first, f.second, f.third, f.fourth) in
      ap₂ bit_and all e ∙ cut_off (min k 4) xs bytes_entries ∙ taken
    where
      taken : packed (take (min k 4) xs) ≡ packed (take k xs)
      taken = elim (dec_lt k 4) [
        | yes l ↦ let same : min k 4 ≡ k = omega arith in rw same
        | no l ↦ let all : min k 4 ≡ 4 = omega arith in rw (
          all,
          take_all 4 xs (omega (arith, f.long)),
          take_all k xs (omega (arith, f.long)),
        )
      ]

  pub packed_entries : (k mask : ℕ) → mask ≡ ones (min k 4)
      → let r = bit_and (a + b * 65536 + c * 4294967296 + d * 281474976710656) mask in (r ≡ packed (take k xs)) × (r ≤ 71777214294589695)
      × Bytes (take k xs)
  packed_entries k mask e =
      let few : packed (take k xs) ≤ 71777214294589695 = packed_most (take k xs) (omega (arith, length-take k xs, f.long))
      (bytes_cut k xs bytes_entries) in
      (kept k mask e, omega (arith, kept k mask e), bytes_cut k xs bytes_entries)

-- used and left make up 255 in each lane
used_is : (n : ℕ) (ls : List ℕ) → length ls ≤ n → Bytes ls → used n ls + packed ls ≡ used n []
unfolding packed used
used_is n [] l b = omega arith
used_is zero (x ∷ ls) l b = absurd (omega arith)
used_is (suc n) (x ∷ ls) l b = omega (arith, b 0, used_is n ls (omega arith) (λ i. b (suc i)))

pub used_four : (xs : List ℕ) → length xs ≡ 4 → Bytes xs → 71777214294589695 - packed (take 4 xs) ≡ used 4 xs
unfolding used
used_four xs e b = rw (take_all 4 xs (omega arith)) (omega (arith, used_is 4 xs (omega arith) b))
