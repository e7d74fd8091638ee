-- The answers of the σ table, for a book and the number that it is refused with, each as the record that its contract asks. Cited by the
-- proofs of src/table.rt. Assumes nothing.
use mathlib.Core.Path.{◌≡◌, ap, ◌∙◌}
use mathlib.Core.Bool.{Bool, true, false, cond, and-eq-true_iff}
use mathlib.Core.List.{List}
use Prim.Native.Nat.{ℕ, ◌^◌, ◌≤◌, ◌<◌}
use native.Mathlib.Omega.{arith}
use borrow.Author.Tests.{leb-true, lt-ltb}
use lib.Dec.{leb}
use lib.ListN.{length, get_or, replicate}
use Rattle.sets.proofs.Tables.{tabulate_at}
use Rattle.numbers.proofs.Shifts.{power_most}
use Rattle.questions.specs.Numbers.{number_of}
use Rattle.questions.specs.declared.Question.{Question}
use Rattle.questions.proofs.Numbers.{number_range}
use Rattle.book.specs.Book.{Book, clients}
use Rattle.book.specs.Sound.{Sound, Shaped}
use Rattle.winners.specs.Greatest.{greatest}
use Rattle.winners.specs.Surplus.{surplus, SurplusIs}
use Rattle.winners.specs.Surpluses.{list_good, list_refusal, surplus_table, SurplusesAre}
use Rattle.winners.specs.ClientLists.{RisingList}
use Rattle.winners.proofs.Picks.{rising_more}
use Rattle.winners.proofs.Refusals.{refused_not_zero}
use Rattle.winners.proofs.Surplus.{surplus_is}

-- an entry of the table is σ in words
pub table_surplus : (b : Book) → Shaped b → (cs : List ℕ) (sigma : List ℕ) → length cs ≤ 6 → sigma ≡ surplus_table b cs
    → (L : ℕ) → L < 2 ^ length cs → SurplusIs b cs L (get_or sigma L 0)
unfolding surplus_table
table_surplus b s cs sigma few e L l =
    let entry : get_or sigma L 0 ≡ surplus b cs L
    = ap (λ (xs : List ℕ). get_or xs L 0) e ∙ tabulate_at 64 _ L 0 (omega (arith, power_most (length cs) few))
    ∙ ap (λ (t : Bool). cond t (surplus b cs L) 0) (lt-ltb L (2 ^ length cs) l) in
    rw entry (surplus_is b s cs L)

-- a list that is good is one of at most six clients
pub good_listed : (b : Book) → Sound b → (cs : List ℕ) → list_good b cs ≡ true → RisingList cs
unfolding list_good
good_listed b s cs h =
    let (few, rises) = (and-eq-true_iff (leb (length cs) 6) _).0 h in
    record { few = leb-true (length cs) 6 few; rising = rising_more (clients b) 6 0 cs s.n_high rises }

module _ (r : ℕ) (b : Book) (cs : List ℕ) where
  pub surpluses_refused : (q : Question) → number_of q ≡ r → SurplusesAre r b cs (number_of q) 0 (replicate 64 0)
  unfolding list_refusal
  surpluses_refused q e =
      let low = (number_range q).0 in
      let f = refused_not_zero q r e in
      record { numbered = rw f e; valued = rw (f, f); tabled = rw (f, f); surpluses = λ z. absurd (omega (arith, z, low)) }

  pub surpluses_none : r ≡ 0 → list_good b cs ≡ false → SurplusesAre r b cs 16 0 (replicate 64 0)
  unfolding list_refusal
  surpluses_none e g = record { numbered = rw (e, g); valued = rw (e, g); tabled = rw (e, g); surpluses = λ z. absurd (omega arith) }

  pub surpluses_found : r ≡ 0 → Shaped b → length cs ≤ 6 → list_good b cs ≡ true → (v : ℕ) (sigma : List ℕ) → v ≡ greatest b 0
      → sigma ≡ surplus_table b cs → SurplusesAre r b cs 0 v sigma
  unfolding list_refusal
  surpluses_found e s few h v sigma ev es = record {
    numbered = rw (e, h);
    valued = rw (e, h) ev;
    tabled = rw (e, h) es;
    surpluses = λ z. table_surplus b s cs sigma few es;
  }
