-- Question 6 as plain facts, both ways; and that behind a sound book it leaves at most six winners and 950 bytes, so question 7's bound on
-- w refuses nothing more. Cited by the laws on reading and by the sheet's reader. Assumes nothing.
use mathlib.Core.Path.{◌≡◌, ap₂}
use mathlib.Core.Bool.{true, ◌&&◌, and-eq-true_iff}
use mathlib.Core.List.{List}
use Prim.Native.Nat.{ℕ, ◌≤◌}
use native.Mathlib.Nat.{le_trans, le_of_eq}
use lib.Dec.{leb, eqb}
use lib.ListN.{length}
use borrow.Author.Tests.{leb-true, le-leb, eqb-true, eq-eqb}
use Rattle.book.specs.Bytes.{byte}
use Rattle.book.specs.Book.{Book, clients}
use Rattle.demands.specs.Sheet.{sheet_long, sheet_w, sheet_formula}
use Rattle.demands.specs.Questions.{form_good}
use Rattle.demands.specs.Call.{Call}
use Rattle.demands.proofs.Judgeable.{Judgeable}
use Rattle.demands.proofs.Sheet.{sheet_formula_most}

pub record Form (b : Book) (ss : List ℕ) : Type 0 where
  pub there : 4 ≤ length ss
  pub version : byte 0 ss ≡ 1
  pub winners : sheet_w ss ≤ clients b
  pub own : sheet_long ss ≡ sheet_formula (sheet_w ss)
  pub whole : length ss ≡ sheet_formula (sheet_w ss)

module _ (b : Book) (ss : List ℕ) where
  pub form_facts : form_good b ss ≡ true → Form b ss
  unfolding form_good
  form_facts h =
      let (front, lengths) = (and-eq-true_iff ((leb 4 (length ss) && eqb (byte 0 ss) 1) && leb (sheet_w ss) (clients b)) _).0 h in
      let (start, winners) = (and-eq-true_iff (leb 4 (length ss) && eqb (byte 0 ss) 1) (leb (sheet_w ss) (clients b))).0 front in
      let (there, version) = (and-eq-true_iff (leb 4 (length ss)) (eqb (byte 0 ss) 1)).0 start in
      let (own, whole) = (and-eq-true_iff (eqb (sheet_long ss) (sheet_formula (sheet_w ss))) _).0 lengths in
      record {
        there = leb-true 4 (length ss) there;
        version = eqb-true (byte 0 ss) 1 version;
        winners = leb-true (sheet_w ss) (clients b) winners;
        own = eqb-true (sheet_long ss) (sheet_formula (sheet_w ss)) own;
        whole = eqb-true (length ss) (sheet_formula (sheet_w ss)) whole;
      }

  pub facts_form : Form b ss → form_good b ss ≡ true
  unfolding form_good
  facts_form f =
      ap₂ ◌&&◌ (ap₂ ◌&&◌ (ap₂ ◌&&◌ (le-leb _ _ f.there) (eq-eqb _ _ f.version)) (le-leb _ _ f.winners))
      (ap₂ ◌&&◌ (eq-eqb _ _ f.own) (eq-eqb _ _ f.whole))

  -- with six clients at most
  module _ (few : clients b ≤ 6) (h : form_good b ss ≡ true) where
    pub form_few : sheet_w ss ≤ 6
    form_few = le_trans (form_facts h).winners few

    pub form_short : length ss ≤ 950
    form_short = le_trans (le_of_eq (form_facts h).whole) (sheet_formula_most (sheet_w ss) form_few)

-- as in a sound book
pub clients_few : (c : Call) → Judgeable c → c.refusal ≡ 0 → clients c.book ≤ 6
clients_few c j e = (j.sound e).n_high
