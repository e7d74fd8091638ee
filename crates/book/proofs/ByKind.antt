-- Four entries, one for each kind, of which the first are kept: of any entries, and of what a value holds, a bid's hours and the supply.
-- Cited by the proofs of src/value.rt, src/paid.rt and src/filling.rt. Assumes nothing.
use mathlib.Core.Path.{◌≡◌, sym, ap, ◌∙◌}
use mathlib.Core.Bool.{true, false, cond}
use mathlib.Core.List.{List, [], ◌∷◌}
use Prim.Native.Nat.{ℕ, ◌+◌, ◌-◌, ◌<◌, min}
use native.Mathlib.Decide.{dec_lt}
use native.Mathlib.Omega.{arith}
use lib.Dec.{ltb, lit<}
use lib.ListN.{length, get_or}
use lib.Seq.{ext_get_or}
use borrow.Author.Tests.{lt-ltb, le-ltb}
use Rattle.std.specs.Prelude.{Option}
use Rattle.std.specs.Option.{unwrap_or}
use Rattle.std.proofs.lemmas.Option.{unwrap_or-slice_get, slice_get-get_or}
use Rattle.sets.specs.Tables.{tabulate}
use Rattle.sets.proofs.Tables.{tabulate_length, tabulate_at}
use Rattle.book.specs.Lists.{within, row}
use Rattle.book.specs.Book.{bid_at, supplies}
use Rattle.book.specs.Value.{zero_kind, book_of}
use Rattle.book.specs.Room.{FirstOf, first_of}
use Rattle.book.specs.declared.value.Kind.{Kind as KindValue}
use Rattle.book.specs.declared.value.Book.{Book as Arrays}
use Rattle.book.proofs.RowLaws.{row_length, row_at}
use Rattle.book.proofs.Held.{picked, hours_of_kind, supply_by_number}

-- the first k of four entries, one by one: of any type with a zero, of numbers, and of kinds
module _ {T : Type 0} (z : T) (IsZero : T → Type 0) (is_zero : (x : T) → IsZero x → x ≡ z)
    (k : ℕ) (xs ys : List T) (long : length ys ≡ 4) (h : FirstOf IsZero k xs ys) where
  first_entry : (j : ℕ) → j < 4 → get_or ys j z ≡ cond (ltb j k) (get_or xs j z) z
  first_entry j l = elim (dec_lt j k) [
    | yes m ↦
        rw (lt-ltb j k m)
        (sym (unwrap_or-slice_get ys j z) ∙ ap (λ (o : Option T). unwrap_or o z) (h.kept j m) ∙ unwrap_or-slice_get xs j z)
    | no m ↦
        rw (le-ltb j k (omega arith))
        (is_zero _ (rw (slice_get-get_or ys j z (omega arith)) at (h.left_out j (omega arith))))
  ]

module _ (k : ℕ) (xs ys : List ℕ) (long : length ys ≡ 4) (h : FirstOf (λ (x : ℕ). x ≡ 0) k xs ys) where
  pub number_first : (j : ℕ) → j < 4 → get_or ys j 0 ≡ cond (ltb j k) (get_or xs j 0) 0
  number_first = first_entry 0 _ (λ x e. e) k xs ys long h

  -- as a list
  pub numbers_first : ys ≡ first_of k xs
  numbers_first =
      ext_get_or 0 ys (first_of k xs) (long ∙ sym (tabulate_length 4 (λ j. cond (ltb j k) (get_or xs j 0) 0))) (λ j l.
      number_first j (omega arith) ∙ sym (tabulate_at 4 (λ j. cond (ltb j k) (get_or xs j 0) 0) j 0 (omega arith)))

pub kinds_first : (k : ℕ) (xs ys : List KindValue) → length ys ≡ 4 → FirstOf (λ (x : KindValue). (x.supply ≡ 0) × (x.reserve ≡ 0)) k xs ys
    → (j : ℕ) → j < 4 → get_or ys j zero_kind ≡ cond (ltb j k) (get_or xs j zero_kind) zero_kind
kinds_first = first_entry zero_kind _ (λ x e. λ i. record { supply = e.0 i; reserve = e.1 i })

-- where there is no bid of a number
pub no_hours : (v : Arrays) (i : ℕ) (hs : List ℕ) → within 1 i (min v.m 48) ≡ false → length hs ≡ 4
    → ((j : ℕ) → j < 4 → get_or hs j 0 ≡ 0) → hs ≡ row 4 0 (λ j. get_or (bid_at (book_of v) i).hours j 0)
no_hours v i hs h long each =
    ext_get_or 0 hs _ (long ∙ sym (row_length 4 0 (λ j. get_or (bid_at (book_of v) i).hours j 0))) (λ j l.
    let here : 0 + j ≡ j = omega arith in
    each j (omega arith)
    ∙ sym (rw (row_at 4 0 (λ j. get_or (bid_at (book_of v) i).hours j 0) j 0 (omega arith), here, hours_of_kind v i j, h)))

-- what is read of each of the kinds, and 0 past them
module _ (v : Arrays) (k : ℕ) (kinds : k ≡ min v.k 4) where
  pub four_hours : (i : ℕ) → within 1 i (min v.m 48) ≡ true
      → first_of k (get_or v.hours (i - 1) []) ≡ row 4 0 (λ j. get_or (bid_at (book_of v) i).hours j 0)
  unfolding row tabulate
  four_hours i h =
      rw (hours_of_kind v i 0, hours_of_kind v i 1, hours_of_kind v i 2, hours_of_kind v i 3, h, ← kinds)

  -- of the kinds that are cut to the first k
  module _ (fs : List KindValue)
      (cut : (j : ℕ) → j < 4 → get_or fs j zero_kind ≡ cond (ltb j k) (get_or v.kinds j zero_kind) zero_kind) where
    supply_cut : (j : ℕ) → j < 4 → (get_or fs j zero_kind).supply ≡ get_or (supplies (book_of v)) j 0
    supply_cut j l =
        ap (λ (x : KindValue). x.supply) (cut j l)
        ∙ picked (λ (x : KindValue). x.supply) (ltb j k) _ _
        ∙ rw kinds (sym (supply_by_number v j))

    pub four_supplies :
        ((get_or fs 0 zero_kind).supply ∷ (get_or fs 1 zero_kind).supply
        ∷ (get_or fs 2 zero_kind).supply ∷ (get_or fs 3 zero_kind).supply ∷ [])
        ≡ row 4 0 (λ j. get_or (supplies (book_of v)) j 0)
    unfolding row
    four_supplies = rw (supply_cut 0 (lit< tt), supply_cut 1 (lit< tt), supply_cut 2 (lit< tt), supply_cut 3 (lit< tt))
