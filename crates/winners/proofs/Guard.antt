-- One lane, whose guard is tested apart from the lanes above it. Cited by LaneSums.antt, LanesPacked.antt and LanesLeast.antt. Assumes
-- nothing.
use mathlib.Core.Path.{◌≡◌, refl, sym, ap, ◌∙◌}
use mathlib.Core.Bool.{true, false, ◌&&◌}
use mathlib.Core.Logic.{⊎_elim}
use Prim.Native.Nat.{ℕ, ◌+◌, ◌*◌, ◌-◌, ◌^◌, ◌<◌}
use native.Mathlib.Omega.{arith}
use borrow.Author.Tests.{leb-true, leb-false, eqb-true, eqb-false, eq-eqb, ne_eqb}
use lib.Bits.{bit_and, and_block, and_zero_r}
use lib.Dec.{leb, eqb}
use Rattle.market.proofs.Bools.{either}

-- the low bits and the others are tested apart
blocks : (k a b r s x y : ℕ) → r < 2 ^ k → s < 2 ^ k → x ≡ a * 2 ^ k + r → y ≡ b * 2 ^ k + s
    → bit_and x y ≡ bit_and a b * 2 ^ k + bit_and r s
blocks k a b r s x y p q m n = rw (m, n) (and_block k a b r s p q)

-- the guard is set from 256 on
pub guard_set : (byte : ℕ) → byte < 256 → bit_and (256 + byte) 256 ≡ 256
guard_set byte l = blocks 8 1 1 byte 0 (256 + byte) 256 l (omega arith) (omega arith) refl ∙ omega (arith, and_zero_r byte)

pub guard_clear : (byte : ℕ) → byte < 256 → bit_and byte 256 ≡ 0
guard_clear byte l = blocks 8 0 1 byte 0 byte 256 l (omega arith) (omega arith) refl ∙ omega (arith, and_zero_r byte)

pub lane_apart : (lane g rest gs : ℕ) → lane < 65536 → g < 65536
    → bit_and (lane + 65536 * rest) (g + 65536 * gs) ≡ bit_and lane g + 65536 * bit_and rest gs
lane_apart lane g rest gs l m = blocks 16 rest gs lane g (lane + 65536 * rest) (g + 65536 * gs) l m (omega arith) (omega arith)
    ∙ omega arith

-- a number whose lowest guard is clear has every guard clear if and only if the lanes above have theirs clear
clear_test : (x y : ℕ) → x ≡ 65536 * y → eqb x 0 ≡ eqb y 0
clear_test x y e =
    ⊎_elim
    (λ (t : eqb y 0 ≡ true). eq-eqb x 0 (omega (arith, eqb-true y 0 t)) ∙ sym t)
    (λ (t : eqb y 0 ≡ false). ne_eqb x 0 (λ (z : x ≡ 0). eqb-false y 0 t (omega arith)) ∙ sym t)
    (either (eqb y 0))

set_test : (x y : ℕ) → x ≡ 256 + 65536 * y → eqb x 0 ≡ false
set_test x y e = ne_eqb x 0 (λ (z : x ≡ 0). omega arith)

-- hours h asked where l are left: the guard stays clear if and only if they fit
pub lane_test : (h l rest gs : ℕ) → h < 256 → l < 256
    → eqb (bit_and (255 - l + h + 65536 * rest) (256 + 65536 * gs)) 0 ≡ (leb h l && eqb (bit_and rest gs) 0)
lane_test h l rest gs a b =
    let apart = lane_apart (255 - l + h) 256 rest gs (omega arith) (omega arith) in
    ⊎_elim
    (λ (t : leb h l ≡ true). let fit = leb-true h l t in
    clear_test _ (bit_and rest gs) (apart ∙ omega (arith, guard_clear (255 - l + h) (omega arith))) ∙ rw t)
    (λ (t : leb h l ≡ false). let beyond = leb-false h l t in
    let over : 255 - l + h ≡ 256 + (h - l - 1) = omega arith in
    let set : bit_and (255 - l + h) 256 ≡ 256 = ap (λ (x : ℕ). bit_and x 256) over ∙ guard_set (h - l - 1) (omega arith) in
    set_test _ (bit_and rest gs) (apart ∙ omega (arith, set)) ∙ rw t)
    (either (leb h l))
