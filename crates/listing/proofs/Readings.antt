-- What was read of an input, where there was room for more than the longest call, has the input's text; and reading leaves just what the
-- definition says, so the contract of `price_list_of` speaks of every input. Cited by the attribute of that function. Assumes nothing.
use mathlib.Core.Path.{◌≡◌, sym, ap, subst, ◌∙◌}
use mathlib.Core.List.{List}
use mathlib.Core.Logic.{⊎_elim}
use Prim.Native.Nat.{ℕ, ◌≤◌, ◌<◌}
use native.Mathlib.Omega.{arith}
use lib.ListN.{length, take, length-take}
use lib.Seq.{take_all}
use Rattle.std.proofs.lemmas.Bool.{cases_lt}
use Rattle.demands.specs.Inputs.{longest_call}
use Rattle.text.specs.declared.Text.{Text}
use Rattle.listing.specs.Listing.{Listed}
use Rattle.listing.specs.Readings.{ReadFrom, ListedRead}
use Rattle.listing.proofs.Cut.{listed_cut}

-- THE TEXT. What was read of an input is the input, or the input cut where the room ended
pub read_listed : (room : ℕ) (read : List ℕ) (t : Text) → longest_call < room → Listed read t → ListedRead room read t
unfolding ListedRead
read_listed room read t long h input from =
    let n = length read in
    let cut = subst (λ (xs : List ℕ). Listed xs t) (sym from.begins) h in
    ⊎_elim
    (λ (more : n < length input). listed_cut n input (omega (arith, from.longer_if_full more)) t cut)
    (λ (whole : length input ≤ n). subst (λ (xs : List ℕ). Listed xs t) (take_all n input whole) cut)
    (cases_lt n (length input))

-- EVERY INPUT IS ONE: reading it leaves its first bytes, as many as there is room for, and all bytes are an input that they were read from
take_length_take : (room : ℕ) (xs : List ℕ) → take (length (take room xs)) xs ≡ take room xs
take_length_take room xs =
    ⊎_elim
    (λ (more : room < length xs).
    let same : length (take room xs) ≡ room = omega (arith, length-take room xs) in ap (λ (m : ℕ). take m xs) same)
    (λ (whole : length xs ≤ room).
    take_all (length (take room xs)) xs (omega (arith, length-take room xs)) ∙ sym (take_all room xs whole))
    (cases_lt room (length xs))

pub read_any : (room : ℕ) (input : List ℕ) → ReadFrom input room (take room input)
read_any room input = record {
  begins = take_length_take room input;
  longer_if_full = λ more. omega (arith, length-take room input, more);
}

pub read_some : (room : ℕ) (read : List ℕ) → ReadFrom read room read
read_some room read = record {
  begins = take_all (length read) read (omega arith);
  longer_if_full = λ more. absurd (omega (arith, more));
}
