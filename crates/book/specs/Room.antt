-- What the private functions ask of their callers and tell them: entries of the kinds that there are, reserves of four hours, the hours and
-- the reserves of two bids in one number, how often a client is named, and questions 4 and 5 in a row. Cited by the contracts of src/
-- alone. Assumes nothing: these are definitions.
use Rattle.std.specs.Prelude.{◌≡◌, ◌&&◌, not, cond, List, ℕ, ◌+◌, ◌*◌, ◌/◌, ◌%◌, ◌≤◌, ◌<◌, ltb, eqb, get_or, slice_get, IfSome}
use Rattle.sets.specs.Tables.{tabulate}
use Rattle.book.specs.Lists.{all, all_to, count}
use Rattle.book.specs.Book.{Kind, Bid}
use Rattle.book.specs.Questions.{bid_good, few_bids, reserves_met}
use Rattle.book.specs.Value.{zero_kind}
use Rattle.book.specs.declared.value.Kind.{Kind as KindValue}

-- the first k of four entries, and zeros past them
pub record FirstOf {T : Type 0} (IsZero : T → Type 0) (k : ℕ) (entries first : List T) : Type 0 where
  pub kept : (j : ℕ) → j < k → slice_get first j ≡ slice_get entries j
  pub left_out : (j : ℕ) → k ≤ j → IfSome (slice_get first j) IsZero

-- the same of numbers
abbrev pub first_of : (k : ℕ) → List ℕ → List ℕ
first_of k rs = tabulate 4 (λ j. cond (ltb j k) (get_or rs j 0) 0)

-- four hours, each times the reserve of its kind
abbrev pub products : (hours : List ℕ) → (kinds : List KindValue) → ℕ
products hs ks =
    get_or hs 0 0 * (get_or ks 0 zero_kind).reserve + get_or hs 1 0 * (get_or ks 1 zero_kind).reserve
    + get_or hs 2 0 * (get_or ks 2 zero_kind).reserve + get_or hs 3 0 * (get_or ks 3 zero_kind).reserve

-- what the second of two bids counts where the hours, or the reserves, of both are one number: 2^32
abbrev pub second_bid : ℕ
second_bid = 4294967296

-- a number whose lowest four bytes, the lowest first, are four hours
pub record FourHours (hours : List ℕ) (number : ℕ) : Type 0 where
  pub first : number % 256 ≡ get_or hours 0 0
  pub second : number / 256 % 256 ≡ get_or hours 1 0
  pub third : number / 65536 % 256 ≡ get_or hours 2 0
  pub fourth : number / 16777216 % 256 ≡ get_or hours 3 0

-- two numbers, each of three bytes, as one: that of a bid, and that of the bid after it
pub record Both (first second number : ℕ) : Type 0 where
  pub made : number ≡ first + second * second_bid
  pub low : first < 16777216
  pub high : second < 16777216

-- how often a client is named
unfoldable pub named : (client : ℕ) → List ℕ → ℕ
named c cs = count (λ x. eqb x c) cs

-- questions 4 and 5, of n clients' bids over some kinds: the number of the first 'no', and 0 where there is none
unfoldable pub bids_refusal : (n : ℕ) → List Kind → List Bid → ℕ
bids_refusal n ks xs = cond (not (all (bid_good n) xs && all_to n (few_bids xs))) 4 (cond (not (all (reserves_met ks) xs)) 5 0)
