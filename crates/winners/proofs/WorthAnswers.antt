-- The three answers of the greatest value, for a book and the number that it is refused with. Cited by the proofs of src/value.rt. Assumes
-- nothing.
use mathlib.Core.Path.{◌≡◌}
use Prim.Native.Nat.{ℕ, ◌/◌, ◌^◌, ◌≤◌, ◌<◌}
use native.Mathlib.Nat.{div-eq_of_lt, div-lt_iff_lt-mul}
use native.Mathlib.Decide.{dec_lt}
use native.Mathlib.Omega.{arith}
use borrow.Author.Tests.{lt-ltb, le-ltb}
use lib.Pow.{pow_pos}
use Rattle.questions.specs.Numbers.{number_of}
use Rattle.questions.specs.declared.Question.{Question}
use Rattle.questions.proofs.Numbers.{number_range}
use Rattle.book.specs.Book.{Book, clients}
use Rattle.book.specs.Sound.{Shaped}
use Rattle.winners.specs.Greatest.{greatest, discarded}
use Rattle.winners.proofs.Greatest.{greatest_value}
use Rattle.winners.proofs.Refusals.{refused_not_zero}
use Rattle.winners.specs.Value.{value_refusal, value_of}
use Rattle.winners.specs.Worth.{WorthIs}

-- the discard byte's bits past client n
small_byte : (d p : ℕ) → 0 < p → d / p ≤ 0 → d < p
small_byte d p h z = let n = (div-lt_iff_lt-mul {x = d} {y = 1} h).0 (omega arith) in omega arith

large_byte : (d p : ℕ) → 0 < d / p → p ≤ d
large_byte d p z = elim (dec_lt d p) [ yes l ↦ absurd (omega (arith, div-eq_of_lt l)) | no l ↦ omega arith ]

module _ (r : ℕ) (b : Book) (d : ℕ) where
  pub worth_refused : (q : Question) → number_of q ≡ r → WorthIs r b d (number_of q) 0
  unfolding value_refusal value_of
  worth_refused q e =
      let low = (number_range q).0 in
      let f = refused_not_zero q r e in
      record { numbered = rw f e; valued = rw (f, f); greatest = λ z. absurd (omega (arith, z, low)) }

  pub worth_past : r ≡ 0 → (n : ℕ) → n ≡ clients b → 0 < d / 2 ^ n → WorthIs r b d 16 0
  unfolding value_refusal value_of
  worth_past e n en l =
      let f = le-ltb d (2 ^ n) (large_byte d (2 ^ n) l) in
      record { numbered = rw (e, ← en, f); valued = rw (e, ← en, f); greatest = λ z. absurd (omega arith) }

  pub worth_found : r ≡ 0 → Shaped b → (n v : ℕ) → n ≡ clients b → d / 2 ^ n ≤ 0 → v ≡ greatest b d → WorthIs r b d 0 v
  unfolding value_refusal value_of greatest
  worth_found e s n v en l q =
      let f = lt-ltb d (2 ^ n) (small_byte d (2 ^ n) (pow_pos n) l) in
      record {
        numbered = rw (e, ← en, f);
        valued = rw (e, ← en, f) q;
        greatest = λ z. rw q (greatest_value b s (discarded d));
      }
