-- Hours in lanes: whether every guard is clear says whether the hours fit, and the sum is then what is used. Cited by HeldBids.antt and
-- LanesLeft.antt. What is said of four lanes is shown for n. Assumes nothing.
use mathlib.Core.Path.{◌≡◌, refl, sym, ap, ◌∙◌}
use mathlib.Core.Bool.{Bool, true, ◌&&◌, and-eq-true_iff}
use mathlib.Core.List.{List, [], ◌∷◌}
use Prim.Native.Nat.{ℕ, zero, suc, ◌+◌, ◌*◌, ◌-◌, ◌≤◌, ◌<◌}
use native.Mathlib.Nat.{add-zero}
use native.Mathlib.Omega.{arith}
use native.Mathlib.Decide.{dec_lt}
use borrow.Author.Tests.{leb-true, le-leb}
use lib.Bits.{bit_and}
use lib.Dec.{leb, eqb}
use lib.ListN.{length, get_or, take, get_or-eq_default}
use lib.Seq.{get_or-take}
use Rattle.market.specs.Market.{fits, less}
use Rattle.market.proofs.Hours.{less_at}
use Rattle.winners.specs.Lanes.{packed, used, Bytes}
use Rattle.winners.proofs.Guard.{lane_test}

-- ---- the lanes of n kinds

unfoldable pub guards : (n : ℕ) → ℕ
guards zero = 0
guards (suc n) = 256 + 65536 * guards n

rest_lanes : (n : ℕ) (hs ls : List ℕ) → length hs ≤ length ls → length ls ≤ n → Bytes ls → fits hs ls ≡ true
    → used n ls + packed hs ≡ used n (less ls hs)
unfolding packed used fits less
rest_lanes n [] [] s m b t = omega arith
rest_lanes n [] (l ∷ ls) s m b t = omega arith
rest_lanes n (h ∷ hs) [] s m b t = absurd (omega arith)
rest_lanes zero (h ∷ hs) (l ∷ ls) s m b t = absurd (omega arith)
rest_lanes (suc n) (h ∷ hs) (l ∷ ls) s m b t =
    let (x, y) = (and-eq-true_iff (leb h l) (fits hs ls)).0 t in
    omega (arith, b 0, leb-true h l x, rest_lanes n hs ls (omega arith) (omega arith) (λ i. b (suc i)) y)

-- one lane of a sum is tested apart
apart : (n h l rest x : ℕ) → h < 256 → l < 256 → x ≡ 255 - l + h + 65536 * rest
    → eqb (bit_and x (guards (suc n))) 0 ≡ (leb h l && eqb (bit_and rest (guards n)) 0)
unfolding guards
apart n h l rest x a b e = ap (λ (y : ℕ). eqb (bit_and y (guards (suc n))) 0) e ∙ lane_test h l rest (guards n) a b

-- where nothing is asked every guard is clear
all_clear : (n : ℕ) (ls : List ℕ) → Bytes ls → eqb (bit_and (used n ls) (guards n)) 0 ≡ true
unfolding used guards
all_clear zero ls b = refl
all_clear (suc n) [] b = apart n 0 0 (used n []) (255 + 65536 * used n []) (omega arith) (omega arith) (omega arith) ∙ all_clear n [] b
all_clear (suc n) (l ∷ ls) b = apart n 0 l (used n ls) (255 - l + 65536 * used n ls) (omega arith) (b 0) (omega arith)
    ∙ rw (le-leb 0 l (omega arith)) (all_clear n ls (λ i. b (suc i)))

fit_lanes : (n : ℕ) (hs ls : List ℕ) → length hs ≤ length ls → length ls ≤ n → Bytes hs → Bytes ls
    → eqb (bit_and (used n ls + packed hs) (guards n)) 0 ≡ fits hs ls
unfolding packed used fits
fit_lanes n [] ls s m a b = rw (add-zero (used n ls)) (all_clear n ls b)
fit_lanes n (h ∷ hs) [] s m a b = absurd (omega arith)
fit_lanes zero (h ∷ hs) (l ∷ ls) s m a b = absurd (omega arith)
fit_lanes (suc n) (h ∷ hs) (l ∷ ls) s m a b =
    apart n h l (used n ls + packed hs) (255 - l + 65536 * used n ls + (h + 65536 * packed hs)) (a 0) (b 0) (omega arith)
    ∙ ap (λ (x : Bool). leb h l && x) (fit_lanes n hs ls (omega arith) (omega arith) (λ i. a (suc i)) (λ i. b (suc i)))

-- no lane is above 255
most_packed : (n : ℕ) (hs : List ℕ) → length hs ≤ n → Bytes hs → packed hs ≤ used n []
unfolding packed used
most_packed n [] m a = omega arith
most_packed zero (h ∷ hs) m a = absurd (omega arith)
most_packed (suc n) (h ∷ hs) m a = omega (arith, a 0, most_packed n hs (omega arith) (λ i. a (suc i)))

most_used : (n : ℕ) (ls : List ℕ) → used n ls ≤ used n []
unfolding used
most_used zero ls = omega arith
most_used (suc n) [] = omega arith
most_used (suc n) (l ∷ ls) = omega (arith, most_used n ls)

-- lists with the same entries, 0 past their ends
same_lanes : (n : ℕ) (xs ys : List ℕ) → ((i : ℕ) → get_or xs i 0 ≡ get_or ys i 0) → used n xs ≡ used n ys
unfolding used
same_lanes zero xs ys e = refl
same_lanes (suc n) [] [] e = refl
same_lanes (suc n) [] (y ∷ ys) e = omega (arith, e 0, same_lanes n [] ys (λ i. e (suc i)))
same_lanes (suc n) (x ∷ xs) [] e = omega (arith, e 0, same_lanes n xs [] (λ i. e (suc i)))
same_lanes (suc n) (x ∷ xs) (y ∷ ys) e = omega (arith, e 0, same_lanes n xs ys (λ i. e (suc i)))

-- ---- four lanes

-- every guard is still clear if and only if the hours fit
pub fit_says : (hs ls : List ℕ) → length hs ≤ length ls → length ls ≤ 4 → Bytes hs → Bytes ls
    → eqb (bit_and (used 4 ls + packed hs) 72058693566333184) 0 ≡ fits hs ls
unfolding guards
fit_says = fit_lanes 4

-- and then the sum is what is used
pub rest_says : (hs ls : List ℕ) → length hs ≤ length ls → length ls ≤ 4 → Bytes ls → fits hs ls ≡ true
    → used 4 ls + packed hs ≡ used 4 (less ls hs)
rest_says = rest_lanes 4

pub less_bytes : (ls hs : List ℕ) → Bytes ls → Bytes (less ls hs)
less_bytes ls hs b i = omega (arith, b i, less_at ls hs i)

pub packed_most : (hs : List ℕ) → length hs ≤ 4 → Bytes hs → packed hs ≤ 71777214294589695
unfolding used
packed_most = most_packed 4

pub used_most : (ls : List ℕ) → used 4 ls ≤ 71777214294589695
unfolding used
used_most = most_used 4

-- entries of 0 after the last kind change nothing
pub used_short : (ls xs : List ℕ) → take (length ls) xs ≡ ls → ((i : ℕ) → length ls ≤ i → get_or xs i 0 ≡ 0) → used 4 xs ≡ used 4 ls
used_short ls xs e z = same_lanes 4 xs ls
    (λ i. elim (dec_lt i (length ls)) [
      | yes l ↦ sym (get_or-take (length ls) xs i 0 l) ∙ ap (λ (ys : List ℕ). get_or ys i 0) e
      | no l ↦ z i (omega arith) ∙ sym (get_or-eq_default ls 0 (omega arith))
    ])
