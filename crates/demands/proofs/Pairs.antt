-- A book and a sheet apart are an input: behind a sound book that is just as long as it says, the input's book is that book and its sheet
-- is what follows. For whoever holds the two apart; nothing cites it. Assumes nothing.
use mathlib.Core.Path.{◌≡◌, sym, ap, ◌∙◌}
use mathlib.Core.Bool.{Bool, true, cond}
use mathlib.Core.List.{List, ◌++◌}
use Prim.Native.Nat.{ℕ, ◌≤◌}
use native.Mathlib.Nat.{le_of_eq}
use lib.ListN.{length}
use lib.Seq.{drop_at}
use Rattle.book.specs.Layout.{book_long, k_of, n_of, m_of, book_in}
use Rattle.book.specs.Questions.{book_formula, book_refusal}
use Rattle.book.proofs.Refusals.{counts, questions}
use Rattle.demands.specs.Sheet.{sheet_in}
use Rattle.demands.specs.Questions.{form_good, judged}
use Rattle.demands.specs.Call.{sheet_part, call_in, call_refusal, Accepted}
use Rattle.demands.specs.Inputs.{PairsAreInputs}
use Rattle.demands.proofs.Alike.{alike_longer, book_long_alike, book_alike, sound_alike}

module _ (bs ss : List ℕ) (whole : book_refusal bs ≡ 0) (long : length bs ≡ book_long bs) where
  ends : book_formula (k_of bs) (n_of bs) (m_of bs) ≤ length bs
  ends = le_of_eq (sym (long ∙ (counts bs (questions bs whole).two).formula))

  part : sheet_part (bs ++ ss) ≡ ss
  unfolding sheet_part
  part = drop_at bs ss (book_long (bs ++ ss)) (long ∙ book_long_alike (length bs) bs (bs ++ ss) (alike_longer bs ss) ends)

  pub pair_is_input : call_in (bs ++ ss) ≡ record { refusal = 0; book = book_in bs; part = ss }
  pair_is_input = λ i. record {
    refusal = sound_alike (length bs) bs (bs ++ ss) (alike_longer bs ss) ends whole i;
    book = sym (book_alike (length bs) bs (bs ++ ss) (alike_longer bs ss) ends) i;
    part = part i;
  }

  -- so a pair that passes the questions is accepted
  pub pair_accepted : form_good (book_in bs) ss ≡ true → judged (book_in bs) (sheet_in ss) ≡ 0 → Accepted (call_in (bs ++ ss))
  unfolding call_refusal
  pair_accepted f j = ap call_refusal pair_is_input ∙ ap (λ (t : Bool). cond t (judged (book_in bs) (sheet_in ss)) 6) f ∙ j

pub pairs_are_inputs : (bs ss : List ℕ) → PairsAreInputs bs ss
unfolding PairsAreInputs
pairs_are_inputs = pair_is_input
