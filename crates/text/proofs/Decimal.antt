-- Laws of decimal digits: by size, that the fuel makes no difference, how many there are, which bytes they are, and that they read back
-- as the number. Cited by the attribute of `Text::push_decimal`, and by its callers. Assumes nothing.
use Prim.Native.Nat.{ℕ, zero, suc, ◌+◌, ◌-◌, ◌*◌, ◌/◌, ◌%◌, ◌^◌, ◌≤◌, ◌<◌}
use native.Mathlib.Nat.{pow-suc}
use native.Mathlib.Omega.{arith}
use mathlib.Core.List.{List, [], ◌∷◌, ◌++◌}
use mathlib.Core.Logic.{⊎_elim}
use mathlib.Core.Path.{◌≡◌, refl, sym, ap, ◌∙◌}
use lib.ListN.{length, get_or, length-append, get_or-append}
use borrow.Author.Tests.{lt-ltb, le-ltb}
use Rattle.std.proofs.lemmas.Bool.{cases_lt}
use Rattle.text.specs.Decimal.{ascii_zero, digits, decimal, worth}

-- with fuel left, a number below ten is one digit
digits_one : (fuel n : ℕ) → n < 10 → digits (suc fuel) n ≡ (ascii_zero + n) ∷ []
unfolding digits
digits_one fuel n small = rw (lt-ltb n 10 small, digits)

-- and any other is the digits of its tenth and then its last one
digits_more : (fuel n : ℕ) → 10 ≤ n → digits (suc fuel) n ≡ digits fuel (n / 10) ++ (ascii_zero + n % 10) ∷ []
unfolding digits
digits_more fuel n large = rw (le-ltb n 10 large, digits)

-- any fuel above the number gives the same digits
pub digits_enough : (fuel more n : ℕ) → n < fuel → n < more → digits fuel n ≡ digits more n
digits_enough zero more n h k = absurd (omega arith)
digits_enough (suc fuel) zero n h k = absurd (omega arith)
digits_enough (suc fuel) (suc more) n h k =
    ⊎_elim
    (λ (small : n < 10). digits_one fuel n small ∙ sym (digits_one more n small))
    (λ (large : 10 ≤ n). digits_more fuel n large
    ∙ ap (λ (ds : List ℕ). ds ++ (ascii_zero + n % 10) ∷ []) (digits_enough fuel more (n / 10) (omega arith) (omega arith))
    ∙ sym (digits_more more n large))
    (cases_lt n 10)

-- a number below ten is one digit
pub decimal_one : (n : ℕ) → n < 10 → decimal n ≡ (ascii_zero + n) ∷ []
unfolding decimal
decimal_one n small = digits_one n n small

-- any other is the digits of its tenth and then its last one
pub decimal_more : (n : ℕ) → 10 ≤ n → decimal n ≡ decimal (n / 10) ++ (ascii_zero + n % 10) ∷ []
unfolding decimal
decimal_more n large =
    digits_more n n large
    ∙ ap (λ (ds : List ℕ). ds ++ (ascii_zero + n % 10) ∷ []) (digits_enough n (suc (n / 10)) (n / 10) (omega arith) (omega arith))

-- what the attribute of `Text::push_decimal` cites
pub ruleset decimal_steps = (decimal_one, decimal_more)

-- what holds of the numbers below ten, and of any other where it holds of its tenth, holds of every number
decimal_induction : (P : ℕ → Type 0) → ((n : ℕ) → n < 10 → P n) → ((n : ℕ) → 10 ≤ n → P (n / 10) → P n) → (n : ℕ) → P n
decimal_induction P small large n = go (suc n) n (omega arith)
  where
    go : (fuel n : ℕ) → n < fuel → P n
    go zero n h = absurd (omega arith)
    go (suc fuel) n h = ⊎_elim (small n) (λ (l : 10 ≤ n). large n l (go fuel (n / 10) (omega arith))) (cases_lt n 10)

-- there is a digit
pub decimal_nonempty : (n : ℕ) → 1 ≤ length (decimal n)
decimal_nonempty n =
    ⊎_elim
    (λ (small : n < 10). rw (decimal_one n small) (omega arith))
    (λ (large : 10 ≤ n). rw (decimal_more n large, length-append) (omega arith))
    (cases_lt n 10)

-- a number below 10 ^ (k + 1) has at most k + 1 digits
pub decimal_length : (k n : ℕ) → n < 10 ^ suc k → length (decimal n) ≤ suc k
decimal_length zero n h = rw (decimal_one n h) (omega arith)
decimal_length (suc k) n h =
    ⊎_elim
    (λ (small : n < 10). rw (decimal_one n small) (omega arith))
    (λ (large : 10 ≤ n). rw (decimal_more n large, length-append)
    (omega (arith, decimal_length k (n / 10) (omega (arith, pow-suc 10 (suc k))))))
    (cases_lt n 10)

-- a 64-bit number has at most 20
pub decimal_length_word : (n : ℕ) → n < 2 ^ 64 → length (decimal n) ≤ 20
decimal_length_word n h = decimal_length 19 n (omega arith)

-- what holds of each entry of a list and of one more holds of each entry of the longer list
each_snoc : (P : ℕ → Type 0) (xs : List ℕ) (d : ℕ) → ((i : ℕ) → i < length xs → P (get_or xs i 0)) → P d
    → (i : ℕ) → i < length (xs ++ d ∷ []) → P (get_or (xs ++ d ∷ []) i 0)
each_snoc P [] d each p zero l = p
each_snoc P [] d each p (suc i) l = absurd (omega arith)
each_snoc P (x ∷ xs) d each p zero l = each zero (omega arith)
each_snoc P (x ∷ xs) d each p (suc i) l = each_snoc P xs d (λ j k. each (suc j) (omega arith)) p i (omega arith)

-- each digit is a byte from '0' to '9'
abbrev pub Digit : (byte : ℕ) → Type 0
Digit b = (ascii_zero ≤ b) × (b ≤ ascii_zero + 9)

pub decimal_ascii : (n i : ℕ) → i < length (decimal n) → Digit (get_or (decimal n) i 0)
decimal_ascii =
    decimal_induction
    (λ n. (i : ℕ) → i < length (decimal n) → Digit (get_or (decimal n) i 0))
    (λ n small. rw (decimal_one n small) (each_snoc Digit [] (ascii_zero + n) (λ j k. absurd (omega arith)) (omega arith)))
    (λ n large each. rw (decimal_more n large) (each_snoc Digit (decimal (n / 10)) (ascii_zero + n % 10) each (omega arith)))

-- the first digit of a number other than 0 is not '0'
pub decimal_leading : (n : ℕ) → 1 ≤ n → ascii_zero < get_or (decimal n) 0 0
decimal_leading =
    decimal_induction
    (λ n. 1 ≤ n → ascii_zero < get_or (decimal n) 0 0)
    (λ n small h. rw (decimal_one n small) (omega arith))
    (λ n large first h. rw (decimal_more n large, get_or-append {A = ℕ} _ _ 0 0 (decimal_nonempty (n / 10))) (first (omega arith)))

-- digits are read one part after the other
pub worth_append : (before : ℕ) (xs ys : List ℕ) → worth before (xs ++ ys) ≡ worth (worth before xs) ys
unfolding worth
worth_append before [] ys = refl
worth_append before (x ∷ xs) ys = worth_append (10 * before + (x - ascii_zero)) xs ys

-- the digits of n read back as n
pub decimal_worth : (n : ℕ) → worth 0 (decimal n) ≡ n
unfolding worth
decimal_worth =
    decimal_induction
    (λ n. worth 0 (decimal n) ≡ n)
    (λ n small. rw (decimal_one n small) (omega arith))
    (λ n large front. rw (decimal_more n large, worth_append, front) (omega arith))
