-- Whether a bid asks for an hour, by one number: the four bytes that begin with the hours of k kinds. Cited by the proofs of src/asked.rt.
-- Assumes nothing.
use mathlib.Core.Path.{◌≡◌, sym, ◌∙◌}
use mathlib.Core.List.{List, [], ◌∷◌}
use Prim.Native.Nat.{ℕ, zero, suc, ◌+◌, ◌*◌, ◌-◌, ◌^◌, ◌≤◌, ◌<◌}
use native.Mathlib.Decide.{dec_le}
use native.Mathlib.Omega.{arith}
use lib.Dec.{leb}
use lib.ListN.{length, get_or}
use borrow.Author.Tests.{le-leb, lt-leb}
use Rattle.book.specs.Lists.{row, total}

-- tests of facts that go with each other
same_test : (a x b y : ℕ) → (a ≤ x → b ≤ y) → (b ≤ y → a ≤ x) → leb a x ≡ leb b y
same_test a x b y f g = elim (dec_le a x) [
  | yes l ↦ le-leb a x l ∙ sym (le-leb b y (f l))
  | no l ↦ lt-leb a x (omega arith) ∙ sym (elim (dec_le b y) [ yes h ↦ absurd (l (g h)) | no h ↦ lt-leb b y (omega arith) ])
]

-- the number in four bytes
abbrev number : (a b c d : ℕ) → ℕ
number a b c d = a * 16777216 + b * 65536 + c * 256 + d

-- an hour is asked for in the first k of four where the number is not below the least with one there
hours_asked : (a b c d : ℕ) → a < 256 → b < 256 → c < 256 → d < 256 → (k least : ℕ) → k ≤ 4 → least ≡ 256 ^ (4 - k)
    → leb least (number a b c d) ≡ leb 1 (total (row k 0 (λ j. get_or (a ∷ b ∷ c ∷ d ∷ []) j 0)))
unfolding total row
hours_asked a b c d la lb lc ld zero least l e =
    rw e (same_test 4294967296 (number a b c d) 1 0 (λ h. omega arith) (λ h. omega arith))
hours_asked a b c d la lb lc ld (suc zero) least l e =
    rw e (same_test 16777216 (number a b c d) 1 (a + 0) (λ h. omega arith) (λ h. omega arith))
hours_asked a b c d la lb lc ld (suc (suc zero)) least l e =
    rw e (same_test 65536 (number a b c d) 1 (a + (b + 0)) (λ h. omega arith) (λ h. omega arith))
hours_asked a b c d la lb lc ld (suc (suc (suc zero))) least l e =
    rw e (same_test 256 (number a b c d) 1 (a + (b + (c + 0))) (λ h. omega arith) (λ h. omega arith))
hours_asked a b c d la lb lc ld (suc (suc (suc (suc zero)))) least l e =
    rw e (same_test 1 (number a b c d) 1 (a + (b + (c + (d + 0)))) (λ h. omega arith) (λ h. omega arith))
hours_asked a b c d la lb lc ld (suc (suc (suc (suc (suc k))))) least l e = absurd (omega arith)

-- the same of four hours in a list
pub four_asked : (hs : List ℕ) → length hs ≡ 4 → ((i : ℕ) → get_or hs i 0 < 256) → (k least n : ℕ) → k ≤ 4 → least ≡ 256 ^ (4 - k)
    → n ≡ number (get_or hs 0 0) (get_or hs 1 0) (get_or hs 2 0) (get_or hs 3 0)
    → leb least n ≡ leb 1 (total (row k 0 (λ j. get_or hs j 0)))
four_asked (a ∷ b ∷ c ∷ d ∷ []) long each k least n l e en = rw en (hours_asked a b c d (each 0) (each 1) (each 2) (each 3) k least l e)
four_asked [] long each k least n l e en = absurd (omega arith)
four_asked (a ∷ []) long each k least n l e en = absurd (omega arith)
four_asked (a ∷ b ∷ []) long each k least n l e en = absurd (omega arith)
four_asked (a ∷ b ∷ c ∷ []) long each k least n l e en = absurd (omega arith)
four_asked (a ∷ b ∷ c ∷ d ∷ f ∷ hs) long each k least n l e en = absurd (omega arith)
