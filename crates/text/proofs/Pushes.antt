-- Laws of pushed bytes: one byte with room and without, a list in two parts, and what blank text holds after a list, be it too long or not.
-- Cited by the proofs and attributes of `Text`'s methods, and by their callers. Assumes nothing.
use Prim.Native.Nat.{ℕ, suc, ◌+◌, ◌-◌, ◌≤◌, ◌<◌}
use native.Mathlib.Nat.{eq-or-lt_of_le}
use native.Mathlib.Omega.{arith}
use mathlib.Core.List.{List, [], ◌∷◌, ◌++◌, append_assoc, append-nil}
use mathlib.Core.Logic.{inl, inr}
use mathlib.Core.Path.{◌≡◌, refl, sym, ap, ◌∙◌}
use native.Mathlib.Numerals.{add-one}
use lib.ListN.{length, get_or, replicate, set, take, length-append}
use lib.Seq.{set-append_seam, take-suc, take_all, take_at}
use borrow.Author.Tests.{lt-ltb, le-ltb}
use Rattle.text.specs.declared.Text.{Text}
use Rattle.text.specs.Text.{capacity, blank, pushed, pushes, holding}

-- with room, the byte is put at place len and counted
pub pushed_room : (t : Text) (b : ℕ) → t.len < capacity → pushed t b ≡ record { bytes = set t.bytes t.len b; len = t.len + 1 }
unfolding pushed
pushed_room t b room = rw (lt-ltb t.len capacity room)

-- without, the text stays
pub pushed_full : (t : Text) (b : ℕ) → capacity ≤ t.len → pushed t b ≡ t
unfolding pushed
pushed_full t b full = rw (le-ltb t.len capacity full)

-- a list pushed is its first part pushed and then its second
pub pushes_append : (t : Text) (xs ys : List ℕ) → pushes t (xs ++ ys) ≡ pushes (pushes t xs) ys
unfolding pushes
pushes_append t [] ys = refl
pushes_append t (x ∷ xs) ys = pushes_append (pushed t x) xs ys

-- a byte behind a list that was pushed is one push more
pub pushes_snoc : (t : Text) (xs : List ℕ) (b : ℕ) → pushes t (xs ++ b ∷ []) ≡ pushed (pushes t xs) b
unfolding pushes
pushes_snoc t xs b = pushes_append t xs (b ∷ [])

-- one byte more of a list is one push more
pub pushes_more : (t : Text) (xs : List ℕ) (i : ℕ) → i < length xs
    → pushes t (take (i + 1) xs) ≡ pushed (pushes t (take i xs)) (get_or xs i 0)
pushes_more t xs i within = rw (add-one i, take-suc xs i 0 within) (pushes_snoc t (take i xs) (get_or xs i 0))

-- full text takes no list
pub pushes_full : (t : Text) (xs : List ℕ) → capacity ≤ t.len → pushes t xs ≡ t
unfolding pushes
pushes_full t [] full = refl
pushes_full t (x ∷ xs) full = rw (pushed_full t x full) (pushes_full t xs full)

-- where there is room, the zeros behind xs are one and those behind xs and a byte
zeros_split : (xs : List ℕ) (b : ℕ) → length xs < capacity
    → replicate {A = ℕ} (capacity - length xs) 0 ≡ 0 ∷ replicate (capacity - length (xs ++ b ∷ [])) 0
zeros_split xs b room = rw one_more
  where
    one_more : capacity - length xs ≡ suc (capacity - length (xs ++ b ∷ []))
    one_more = omega (arith, length-append xs (b ∷ []))

-- a byte pushed to what holds xs makes it hold xs and the byte
pub pushed_holding : (xs : List ℕ) (b : ℕ) → length xs < capacity → pushed (holding xs) b ≡ holding (xs ++ b ∷ [])
unfolding holding
pushed_holding xs b room = pushed_room (holding xs) b room ∙ (λ i. record { bytes = filled i; len = counted i })
  where
    counted : length xs + 1 ≡ length (xs ++ b ∷ [])
    counted = sym (length-append xs (b ∷ []))

    filled : set (xs ++ replicate (capacity - length xs) 0) (length xs) b ≡ (xs ++ b ∷ []) ++ replicate (capacity - length (xs ++ b ∷ [])) 0
    filled = rw (zeros_split xs b room, set-append_seam, append_assoc)

-- the same for a list: what does not fit is left out
pub pushes_holding : (xs ys : List ℕ) → length xs ≤ capacity → pushes (holding xs) ys ≡ holding (take capacity (xs ++ ys))
unfolding pushes holding
pushes_holding xs [] fits = rw (append-nil, take_all capacity xs fits)
pushes_holding xs (y ∷ ys) fits =
    elim (eq-or-lt_of_le fits) [
      | inl full ↦ pushes_full (holding xs) (y ∷ ys) (omega arith) ∙ ap holding (sym (take_at xs (y ∷ ys) capacity full))
      | inr room ↦ ap (λ (t : Text). pushes t ys) (pushed_holding xs y room)
          ∙ pushes_holding (xs ++ y ∷ []) ys (omega (arith, length-append xs (y ∷ [])))
          ∙ ap (λ (l : List ℕ). holding (take capacity l)) (append_assoc xs (y ∷ []) ys)
    ]

-- blank text holds the bytes that are pushed, as far as there is room
pub pushes_blank_cut : (xs : List ℕ) → pushes blank xs ≡ holding (take capacity xs)
unfolding blank holding
pushes_blank_cut xs = pushes_holding [] xs (omega arith)

-- and so all of them, where they are no more
pub pushes_blank_holding : (xs : List ℕ) → length xs ≤ capacity → pushes blank xs ≡ holding xs
pushes_blank_holding xs fits = pushes_blank_cut xs ∙ ap holding (take_all capacity xs fits)
