-- Hours of clients added up from set to set, as their least hours: whether those of one client more fit the supply, and what they leave.
-- Cited by the proofs of src/pass.rt. Assumes nothing.
use mathlib.Core.Path.{◌≡◌, refl, sym, ap, ◌∙◌}
use mathlib.Core.Bool.{true, false, cond, true≢false}
use mathlib.Core.List.{List, [], ◌∷◌}
use mathlib.Core.Logic.{◌≢◌, ⊎_elim}
use Prim.Native.Nat.{ℕ, ◌+◌, ◌-◌, ◌^◌, ◌≤◌}
use native.Mathlib.Nat.{add-zero}
use native.Mathlib.Decide.{ℕ_discrete}
use native.Mathlib.Omega.{arith}
use lib.Bits.{bit_and}
use lib.Dec.{eqb}
use lib.Seq.{ext_get_or}
use Rattle.market.specs.Market.{fits, less}
use Rattle.market.specs.Members.{more, leasts}
use Rattle.market.proofs.Bools.{either}
use Rattle.market.proofs.Hours.{less_length, less_at, fits_at, fits_if}
use Rattle.market.proofs.Adding.{more_length, more_at, fits_length}
use Rattle.market.proofs.Heaviest.{others_fit}
use Rattle.winners.specs.ClientSets.{clients_in, First, Others, Within}
use Rattle.winners.specs.Lanes.{packed, guards, lanes_full, Asked, Left}
use Rattle.winners.specs.Taken.{Room, TakenTo}
use Rattle.winners.proofs.ClientSets.{clients_none, clients_first, others_less, fewer_within}
use Rattle.winners.proofs.LaneSums.{fit_says, used_most}
use Rattle.winners.proofs.LanesLeft.{fit_here, left_after}

ruleset by_kind = (more_at, less_at)

ruleset kinds = (more_length, less_length)

-- HOURS ONE AFTER THE OTHER
module _ (xs hs ls : List ℕ) where
  pub more_fits : fits hs ls ≡ true → fits xs (less ls hs) ≡ fits (more xs hs) ls
  more_fits t =
      ⊎_elim
      (λ (y : fits xs (less ls hs) ≡ true). y ∙ sym (fits_if (more xs hs) ls
      (simp kinds (omega (arith, fits_length _ _ t, simp kinds at (fits_length _ _ y))))
      (λ k l. simp by_kind (omega (arith, fits_at _ _ t k, simp by_kind at (fits_at _ _ y k))))))
      (λ (n : fits xs (less ls hs) ≡ false). ⊎_elim
      (λ (z : fits (more xs hs) ls ≡ true). absurd (true≢false (sym (fits_if xs (less ls hs)
      (simp kinds (omega (arith, simp kinds at (fits_length _ _ z))))
      (λ k l. simp by_kind (omega (arith, simp by_kind at (fits_at _ _ z k))))) ∙ n)))
      (λ (z : fits (more xs hs) ls ≡ false). n ∙ sym z)
      (either (fits (more xs hs) ls)))
      (either (fits xs (less ls hs)))

  more_less : less ls (more xs hs) ≡ less (less ls hs) xs
  more_less = ext_get_or 0 _ _ (simp kinds) (λ k l. simp by_kind (omega arith))

less_none : (ls : List ℕ) → less ls [] ≡ ls
unfolding less
less_none [] = refl
less_none (l ∷ ls) = refl

-- nothing is taken yet
room_none : (k : ℕ) (supply : List ℕ) (used : ℕ) → Left k supply used → Room k supply [] used
unfolding fits packed
room_none k supply used h = record {
  clear = ap (λ (x : ℕ). eqb (bit_and x 72058693566333184) 0) (h.lanes ∙ sym (add-zero _))
      ∙ fit_says [] supply (omega arith) (omega (arith, h.kinds, h.kinds_few)) (λ i. omega arith) h.bytes;
  left = λ _. rw (less_none supply) h;
}

-- the hours of one client more
room_next : (k : ℕ) (supply xs hs : List ℕ) (before number after : ℕ) → Asked k xs number
    → after ≡ cond (eqb (bit_and before 72058693566333184) 0) (before + number) before → Room k supply hs before
    → Room k supply (more xs hs) after
room_next k supply xs hs before number after a e r =
    ⊎_elim
    (λ (y : fits hs supply ≡ true). let left = r.left y in
    let now : after ≡ before + number = e ∙ (rw (r.clear, y)) in
    let same = more_fits xs hs supply y in
    rw now (record {
      clear = fit_here k xs (less supply hs) number before a left ∙ same;
      left = λ t. rw (more_less xs hs supply) (left_after k xs (less supply hs) number before a left (same ∙ t));
    }))
    (λ (n : fits hs supply ≡ false). let now : after ≡ before = e ∙ (rw (r.clear, n)) in
    let none : fits (more xs hs) supply ≡ false = never n in
    rw now (record { clear = r.clear ∙ n ∙ sym none; left = λ t. absurd (true≢false (sym t ∙ none)) }))
    (either (fits hs supply))
  where
    never : fits hs supply ≡ false → fits (more xs hs) supply ≡ false
    never n =
        ⊎_elim (λ (z : fits (more xs hs) supply ≡ true). absurd (true≢false (sym (others_fit xs hs supply z) ∙ n)))
        (λ (z : fits (more xs hs) supply ≡ false). z) (either (fits (more xs hs) supply))

-- where the guards are clear the number is in lanes
room_few : (k : ℕ) (supply hs : List ℕ) (x : ℕ) → Room k supply hs x → eqb (bit_and x 72058693566333184) 0 ≡ true → x ≤ 71777214294589695
room_few k supply hs x r t = omega (arith, (r.left (sym r.clear ∙ t)).lanes, used_most (less supply hs))

-- SET AFTER SET
module _ (k : ℕ) (supply : List ℕ) (least : ℕ → List ℕ) (held : ℕ) where
  pub taken_first : (number : ℕ → ℕ) (used : ℕ) → number 0 ≡ used → Left k supply used → TakenTo k supply least held 1 number
  unfolding leasts
  taken_first number used e h s b w = let z : s ≡ 0 = omega arith in rw (z, e, clients_none) (room_none k supply used h)

  -- one set more, of the hours of its first client, which a number holds, and of the others'
  module _ {s c r : ℕ} (number : ℕ → ℕ) (f : First s c) (o : Others s r) (w : Within s held) (t : TakenTo k supply least held s number)
    where
      others_room : Room k supply (leasts least (clients_in (s - 2 ^ (c - 1)))) (number r)
      others_room = rw (o.is c f) (t (s - 2 ^ (c - 1)) (others_less s c f) (λ j h. w j (fewer_within s (c - 1) f.there j h)))

      pub others_few : eqb (bit_and (number r) guards) 0 ≡ true → number r ≤ lanes_full
      others_few y = room_few k supply _ _ others_room y

      module _ {asked after : ℕ} (a : Asked k (least c) asked)
          (e : after ≡ cond (eqb (bit_and (number r) guards) 0) (number r + asked) (number r)) where
        pub set_room : Room k supply (leasts least (clients_in s)) after
        unfolding leasts
        set_room = rw (clients_first s c f) (room_next k supply (least c) _ _ _ after a e others_room)

        pub taken_next : (later : ℕ → ℕ) → later s ≡ after → ((j : ℕ) → j ≢ s → later j ≡ number j)
            → TakenTo k supply least held (s + 1) later
        taken_next later here same j b v = elim (ℕ_discrete j s) [
          | yes q ↦ rw (q, here) set_room
          | no q ↦ rw (same j q) (t j (omega arith) v)
        ]

  -- a set of which some client has no bid is passed over
  pub taken_passed : (s : ℕ) (number : ℕ → ℕ) → (Within s held → ⊥) → TakenTo k supply least held s number
      → TakenTo k supply least held (s + 1) number
  taken_passed s number n t j b v = elim (ℕ_discrete j s) [ yes q ↦ absurd (n (rw q at v)) | no q ↦ t j (omega arith) v ]
