-- The sets that are picked from a list, which double with each client. Cited by the proofs of src/lists.rt. Assumes nothing.
use mathlib.Core.Path.{◌≡◌, sym, ap, fun_ext, ◌∙◌}
use mathlib.Core.Bool.{Bool, ◌&&◌}
use mathlib.Core.List.{List}
use Prim.Native.Nat.{ℕ, ◌+◌, ◌*◌, ◌-◌, ◌%◌, ◌^◌, ◌≤◌, ◌<◌}
use native.Mathlib.Decide.{dec_lt}
use native.Mathlib.Omega.{arith}
use lib.Dec.{eqb, lit<}
use lib.ListN.{length, get_or, replicate}
use lib.Pow.{pow-add, pow_mono, shl_exact}
use Rattle.sets.specs.Sets.{set_of}
use Rattle.sets.proofs.Members.{has_above, has_last, has_same}
use Rattle.market.specs.Market.{at}
use Rattle.winners.proofs.Surplus.{any_ext}
use Rattle.winners.specs.ClientLists.{RisingList, RoomToDouble, Doubled, Discards}
use Rattle.numbers.proofs.Shifts.{power_shift}
use Rattle.winners.proofs.Picks.{early, byte_none, byte_with, byte_without, byte_all, byte_small, listed_range}

byte_same : (cs : List ℕ) (j M : ℕ) → set_of 6 (early cs M j) ≡ set_of 6 (early cs (2 ^ j + M) j)
byte_same cs j M =
    ap (λ (p : ℕ → Bool). set_of 6 p)
    (fun_ext (λ k. any_ext j _ _ (λ i l. ap (λ (b : Bool). b && eqb (at cs i) (1 + k)) (sym (has_same j M i l)))))

-- the bytes of the sets of the first j clients
abbrev pub Bytes : (clients : List ℕ) → (j : ℕ) → List ℕ → Type 0
Bytes clients j ds = (L : ℕ) → L < 2 ^ j → get_or ds L 0 ≡ set_of 6 (early clients L j)

-- the number of the sets of j clients and a client's bit, as they are shifted
abbrev pub sets_of : ℕ → ℕ
sets_of j = 1 * 2 ^ j % 2 ^ 64

abbrev pub bit_of : ℕ → ℕ
bit_of x = 1 * 2 ^ (x - 1) % 2 ^ 8

bit_is : (x : ℕ) → x ≤ 6 → (bit_of x ≡ 2 ^ (x - 1)) × (2 ^ (x - 1) ≤ 32)
bit_is x h = (shl_exact {a = 1} 1 (x - 1) 8 (lit< tt) (omega arith) ∙ omega arith, pow_mono {i = x - 1} {j = 5} (omega arith))

module _ (clients : List ℕ) where
  pub bytes_none : Bytes clients 0 (replicate 64 0)
  bytes_none L l = let z : L ≡ 0 = omega arith in rw z (byte_none clients 0)

  pub bytes_done : (j : ℕ) (ds : List ℕ) → j ≡ length clients → Bytes clients j ds → Discards clients ds
  bytes_done j ds ej b L l = byte_all clients L j _ ej (b L (rw ej l))

  -- with one client more they double
  module _ (h : RisingList clients) (j : ℕ) (l : j < length clients) (ds : List ℕ) (b : Bytes clients j ds) where
    sets_are : (sets_of j ≡ 2 ^ j) × (2 ^ j ≤ 32)
    sets_are = let few = h.few in (power_shift j (omega arith), pow_mono {i = j} {j = 5} (omega arith))

    bit : (bit_of (get_or clients j 0) ≡ 2 ^ (get_or clients j 0 - 1)) × (2 ^ (get_or clients j 0 - 1) ≤ 32)
    bit = bit_is _ (listed_range clients j h l).1

    pub bytes_room : length ds ≡ 64 → RoomToDouble ds (sets_of j) (bit_of (get_or clients j 0))
    bytes_room long = record {
      long = long;
      few = omega (arith, sets_are);
      low = omega (arith, bit);
      most = λ L k. omega (arith, b L (omega (arith, sets_are)), byte_small 6 (early clients L j) (omega arith));
    }

    pub bytes_next : (out : List ℕ) → Doubled ds (sets_of j) (bit_of (get_or clients j 0)) (sets_of j) out → Bytes clients (j + 1) out
    bytes_next out d L k = elim (dec_lt L (2 ^ j)) [
      | yes m ↦ d.kept L (omega (arith, sets_are)) ∙ b L m ∙ byte_without clients L j (has_above j L j m (omega arith))
      | no m ↦ let q : L ≡ 2 ^ j + (L - 2 ^ j) = omega arith in rw q (again (L - 2 ^ j) (omega (arith, pow-add 2 j 1)))
    ]
      where
        again : (M : ℕ) → M < 2 ^ j → get_or out (2 ^ j + M) 0 ≡ set_of 6 (early clients (2 ^ j + M) (j + 1))
        again M m =
            let now = rw sets_are.0 at (d.added M (omega (arith, sets_are))) in
            omega (
              arith,
              now,
              b M m,
              byte_same clients j M,
              bit,
              byte_with clients (2 ^ j + M) j h.rising l (has_last j M m),
            )
