-- The reserves of a bid's hours as four products, of the kinds that there are or of the hours that are asked of them, and question 5's test
-- against them. Cited by the proofs of src/paid.rt and src/value.rt. Assumes nothing.
use mathlib.Core.Path.{◌≡◌, refl, sym, ap, ◌∙◌}
use mathlib.Core.Bool.{Bool, cond}
use mathlib.Core.List.{List, [], ◌∷◌}
use Prim.Native.Nat.{ℕ, zero, suc, ◌+◌, ◌*◌, ◌≤◌, ◌<◌, min}
use native.Mathlib.Decide.{dec_lt}
use native.Mathlib.Omega.{arith}
use lib.Dec.{leb, ltb, lit<}
use lib.ListN.{get_or, get_or-eq_default}
use Rattle.book.specs.Lists.{row}
use Rattle.book.specs.Book.{Kind, bid_at, reserves_of}
use Rattle.book.specs.Questions.{reserves_met}
use Rattle.book.specs.Value.{zero_kind, kind_of, bid_held, book_of}
use Rattle.book.specs.Room.{products}
use Rattle.book.specs.declared.value.Kind.{Kind as KindValue}
use Rattle.book.specs.declared.value.Book.{Book as Arrays}
use Rattle.book.proofs.RowLaws.{row_at, row_past}
use Rattle.book.proofs.Held.{held_kinds, held_shaped}

-- of the kinds that are cut to the first k
module _ (hs : List ℕ) (ks fs : List KindValue) (k : ℕ)
    (h : (j : ℕ) → j < 4 → get_or fs j zero_kind ≡ cond (ltb j k) (get_or ks j zero_kind) zero_kind) where
  products_cut : k ≤ 4 → products hs fs ≡ reserves_of (row k 0 (λ p. get_or hs p 0)) (row k 0 (λ j. kind_of (get_or ks j zero_kind)))
  unfolding row reserves_of kind_of
  products_cut l = rw (h 0 (lit< tt), h 1 (lit< tt), h 2 (lit< tt), h 3 (lit< tt)) (go k l)
    where
      go : (k : ℕ) → k ≤ 4 → get_or hs 0 0 * (cond (ltb 0 k) (get_or ks 0 zero_kind) zero_kind).reserve
          + get_or hs 1 0 * (cond (ltb 1 k) (get_or ks 1 zero_kind) zero_kind).reserve
          + get_or hs 2 0 * (cond (ltb 2 k) (get_or ks 2 zero_kind) zero_kind).reserve
          + get_or hs 3 0 * (cond (ltb 3 k) (get_or ks 3 zero_kind) zero_kind).reserve
          ≡ reserves_of (row k 0 (λ p. get_or hs p 0)) (row k 0 (λ j. kind_of (get_or ks j zero_kind)))
      go zero l = omega arith
      go (suc zero) l = omega arith
      go (suc (suc zero)) l = omega arith
      go (suc (suc (suc zero))) l = omega arith
      go (suc (suc (suc (suc zero)))) l = omega arith
      go (suc (suc (suc (suc (suc k))))) l = absurd (omega arith)

-- a test of the amount at a bid's place against these reserves is question 5's
pub reserves_tested : (hss : List (List ℕ)) (ks fs : List KindValue) (k : ℕ)
    → ((j : ℕ) → j < 4 → get_or fs j zero_kind ≡ cond (ltb j k) (get_or ks j zero_kind) zero_kind) → k ≤ 4
    → (cs xs : List ℕ) (i v : ℕ) (t : Bool) → v ≡ products (get_or hss i []) fs → t ≡ leb v (get_or xs i 0)
    → t ≡ reserves_met (row k 0 (λ j. kind_of (get_or ks j zero_kind))) (bid_held k cs hss xs i)
unfolding reserves_met bid_held
reserves_tested hss ks fs k h l cs xs i v t e q =
    q ∙ ap (λ (z : ℕ). leb z (get_or xs i 0)) (e ∙ products_cut (get_or hss i []) ks fs k h l)

-- hours that say the same of each kind have the same reserves
reserves_same : (hs gs : List ℕ) (ks : List Kind) → ((j : ℕ) → get_or hs j 0 ≡ get_or gs j 0) → reserves_of hs ks ≡ reserves_of gs ks
unfolding reserves_of
reserves_same [] [] ks h = refl
reserves_same [] (g ∷ gs) [] h = refl
reserves_same [] (g ∷ gs) (k ∷ ks) h =
    let none : g ≡ 0 = sym (h 0) in
    rw none (reserves_same [] gs ks (λ j. h (suc j)) ∙ (omega arith))
reserves_same (x ∷ hs) [] [] h = refl
reserves_same (x ∷ hs) [] (k ∷ ks) h =
    let none : x ≡ 0 = h 0 in
    rw none ((omega arith) ∙ reserves_same hs [] ks (λ j. h (suc j)))
reserves_same (x ∷ hs) (g ∷ gs) [] h = refl
reserves_same (x ∷ hs) (g ∷ gs) (k ∷ ks) h =
    let first : x ≡ g = h 0 in
    rw first (ap (λ (n : ℕ). g * k.reserve + n) (reserves_same hs gs ks (λ j. h (suc j))))

-- of hours that ask for no kind past the first k
four_products : (hs : List ℕ) (ks : List KindValue) (k : ℕ) → k ≤ 4 → ((j : ℕ) → k ≤ j → get_or hs j 0 ≡ 0)
    → products hs ks ≡ reserves_of (row k 0 (λ p. get_or hs p 0)) (row k 0 (λ j. kind_of (get_or ks j zero_kind)))
unfolding row reserves_of kind_of
four_products hs ks zero l z = rw (z 0 (omega arith), z 1 (omega arith), z 2 (omega arith), z 3 (omega arith)) (omega arith)
four_products hs ks (suc zero) l z = rw (z 1 (omega arith), z 2 (omega arith), z 3 (omega arith)) (omega arith)
four_products hs ks (suc (suc zero)) l z = rw (z 2 (omega arith), z 3 (omega arith)) (omega arith)
four_products hs ks (suc (suc (suc zero))) l z = rw (z 3 (omega arith)) (omega arith)
four_products hs ks (suc (suc (suc (suc zero)))) l z = omega arith
four_products hs ks (suc (suc (suc (suc (suc k))))) l z = absurd (omega arith)

-- the reserves of a bid by its number, of the four hours that are read of it
pub reserves_by_number : (v : Arrays) (i : ℕ) (four : List ℕ) → four ≡ row 4 0 (λ j. get_or (bid_at (book_of v) i).hours j 0)
    → products four v.kinds ≡ reserves_of (bid_at (book_of v) i).hours (book_of v).kinds
unfolding book_of row
reserves_by_number v i four e =
    let hs = (bid_at (book_of v) i).hours in
    let past : (j : ℕ) → min v.k 4 ≤ j → get_or hs j 0 ≡ 0
    = λ j l. get_or-eq_default hs 0 (omega (arith, held_shaped v i, held_kinds v)) in
    (rw e)
    ∙ four_products hs v.kinds (min v.k 4) (omega arith) past
    ∙ reserves_same _ hs _ (λ j. row_whole j)
  where
    row_whole : (j : ℕ)
        → get_or (row (min v.k 4) 0 (λ p. get_or (bid_at (book_of v) i).hours p 0)) j 0 ≡ get_or (bid_at (book_of v) i).hours j 0
    row_whole j = elim (dec_lt j (min v.k 4)) [
      | yes l ↦
          let here : 0 + j ≡ j = omega arith in
          rw (row_at (min v.k 4) 0 (λ p. get_or (bid_at (book_of v) i).hours p 0) j 0 l, here)
      | no l ↦
          row_past (min v.k 4) 0 (λ p. get_or (bid_at (book_of v) i).hours p 0) j 0 (omega arith)
          ∙ sym (get_or-eq_default (bid_at (book_of v) i).hours 0 (omega (arith, held_shaped v i, held_kinds v)))
    ]
