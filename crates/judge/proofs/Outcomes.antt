-- A sheet of good form has few winners, and is read. Cited by the proof of `read` and by the controls. Assumes nothing.
use mathlib.Core.Path.{◌≡◌, sym, ap, ◌∙◌}
use mathlib.Core.Bool.{Bool, true, cond}
use mathlib.Core.List.{List, []}
use Prim.Native.Nat.{ℕ, ◌≤◌, min}
use native.Mathlib.Omega.{arith}
use lib.ListN.{take, replicate, length-replicate}
use Rattle.sets.specs.Tables.{tabulate}
use Rattle.market.specs.Market.{at}
use Rattle.book.specs.Book.{Book, clients}
use Rattle.certificate.specs.declared.ranges.Figures.{Figures}
use Rattle.certificate.specs.Figures.{certificate}
use Rattle.pricing.specs.Certificate.{Certificate}
use Rattle.demands.specs.Sheet.{sheet_w, numbers_in, sheet_in}
use Rattle.demands.specs.Questions.{form_good}
use Rattle.demands.proofs.Form.{form_few}
use Rattle.judge.specs.Reading.{FormIs, SheetRead}
use Rattle.std.specs.Prelude.{Ok}
use Rattle.judge.proofs.BidNumbers.{bids_front}

-- a book of n clients and nothing else: what is said of every book is said of this one
pub bare_book : (n : ℕ) → Book
bare_book n = record { kinds = []; statuses = replicate n 0; bids = [] }

pub bare_clients : (n : ℕ) → clients (bare_book n) ≡ n
unfolding bare_book clients
bare_clients n = length-replicate n 0

module _ (part : List ℕ) (n : ℕ) (good : FormIs part n true) where
  pub few_winners : sheet_w part ≤ 6
  few_winners =
      let n_few = bare_clients (min n 6) in
      form_few (bare_book (min n 6)) part (omega (arith, n_few)) (sym (good (bare_book (min n 6)) n_few))

  pub sheet_read : (w : ℕ) (bids : List ℕ) (f : Figures) → w ≡ sheet_w part
      → bids ≡ tabulate 6 (at (sheet_in part).bids) → certificate f ≡ numbers_in w part
      → SheetRead part n (Ok (record { bids = bids; figures = f }))
  unfolding sheet_in numbers_in
  sheet_read w bids f count each numbers =
      let c : certificate f ≡ (sheet_in part).numbers = numbers ∙ ap (λ (v : ℕ). numbers_in v part) count in
      let of_w : f.w ≡ sheet_w part = ap (λ (x : Certificate). x.w) c in
      let is : take f.w bids ≡ (sheet_in part).bids = rw (of_w, each) (bids_front part few_winners) in
      let number : (b : Book) → clients b ≡ min n 6 → 0 ≡ cond (form_good b part) 0 6 = λ b s. ap (λ (t : Bool). cond t 0 6) (good b s) in
      record { numbered = number; bids = each; held = λ i. record { bids = is i; numbers = c i } }
