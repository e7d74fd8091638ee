-- Questions 10 to 15 over arrays are those of the sheet that they hold: the numbers that the checks answer, for bounds of the book's
-- winners. Cited by the proof of src/ranged.rt's `test_certificate`. Assumes nothing.
use mathlib.Core.Path.{◌≡◌, refl, sym, ap, fun_ext, ◌∙◌}
use mathlib.Core.Bool.{Bool, cond}
use mathlib.Core.List.{List}
use Prim.Native.Nat.{ℕ, ◌^◌, ◌≤◌, ◌<◌}
use native.Mathlib.Nat.{le_trans, le_of_eq}
use native.Mathlib.Omega.{arith}
use lib.ListN.{get_or, take}
use Rattle.pricing.specs.Certificate.{Certificate}
use Rattle.pricing.specs.Questions.{test, within_reserve, within_sets, cover, totals, stationary, slack_sets, slack_reserve, slack_zero}
use Rattle.pricing.proofs.Agree.{test_agree}
use Rattle.market.specs.Market.{at}
use Rattle.questions.specs.Numbers.{number_of}
use Rattle.questions.specs.declared.Question.{Question}
use Rattle.questions.proofs.Numbers.{number_range}
use Rattle.book.specs.Book.{Book}
use Rattle.book.specs.Sound.{Sound}
use Rattle.book.specs.Value.{book_of, sound_number}
use Rattle.book.specs.declared.value.Book.{Book as Arrays}
use Rattle.book.proofs.Held.{sound_held}
use Rattle.winners.specs.Greatest.{greatest}
use Rattle.winners.specs.Surplus.{surplus}
use Rattle.winners.proofs.Most.{amount_most, greatest_most}
use Rattle.certificate.specs.Figures.{certificate}
use Rattle.certificate.specs.declared.ranges.Figures.{Figures}
use Rattle.certificate.specs.Bounds.{most_rho, most_sigma}
use Rattle.certificate.specs.InRange.{Ranges, Tables, Reserves, WinnersUnder, SetsUnder}
use Rattle.certificate.specs.DiscountRefusals.{reserve_kept, reserve_number, slack_test}
use Rattle.certificate.specs.Refusals.{first_failed, balances_number}
use Rattle.certificate.proofs.InRange.{reserve_in_range_iff}
use Rattle.certificate.proofs.DiscountRefusals.{reserve_kept_test}
use Rattle.certificate.proofs.Refusals.{balances_number_first}
use Rattle.demands.specs.Sheet.{Sheet}
use Rattle.demands.specs.Winners.{sigma, win, rho}
use Rattle.demands.proofs.Winners.{rho_most}
use Rattle.judge.specs.Reading.{sheet_held}
use Rattle.judge.specs.Chain.{certificate_judged, SigmaHeld}
use Rattle.judge.proofs.Chaining.{certificate_first}
use Rattle.judge.proofs.NumberedTests.{answered_no, answered_yes}

-- the first of 11 to 15, for tables that agree on the sets and winners
first_agree : (c : Certificate) (σ σ' ρ : ℕ → ℕ) → ((L : ℕ) → 1 ≤ L → L < 2 ^ c.w → σ L ≡ σ' L) → first_failed c σ ρ ≡ first_failed c σ' ρ
unfolding first_failed slack_test
first_agree c σ σ' ρ h =
    let same = test_agree c σ σ' ρ ρ h (λ j l. refl) in
    rw (same within_sets, same cover, same totals, same stationary, same slack_sets, same slack_reserve, same slack_zero)

module _ (v : Arrays) (bids : List ℕ) (f : Figures) (table : List ℕ) (v_sound : sound_number v ≡ 0) (facts : Ranges (certificate f))
    (held : SigmaHeld (book_of v) (sheet_held bids f) table) (xs : List ℕ)
    (hx : (j : ℕ) → get_or xs j 0 ≡ rho (book_of v) (take f.w bids) j) where
  abbrev b : Book
  b = book_of v

  abbrev h : Sheet
  h = sheet_held bids f

  abbrev c : Certificate
  c = certificate f

  abbrev σ : ℕ → ℕ
  σ = sigma b h.bids

  abbrev ρ : ℕ → ℕ
  ρ = rho b h.bids

  sound : Sound b
  sound = sound_held v v_sound

  rho_same : at xs ≡ ρ
  rho_same = fun_ext hx

  rho_small : WinnersUnder c.w most_rho ρ
  unfolding win
  rho_small j l = le_trans (rho_most b h.bids j) (amount_most b sound _)

  reserves : Reserves c.w c.q ρ
  reserves = record { few = facts.few; q_least = facts.q_least; q_most = facts.q_most; ρ_most = rho_small }

  -- question 10
  ten_is : (n : ℕ) → n ≡ reserve_number f.w f.q (at xs) (at f.x) → n ≡ cond (test within_reserve c σ ρ) 0 10
  unfolding reserve_number
  ten_is n e =
      e ∙ ap (λ (r : ℕ → ℕ). reserve_number f.w f.q r (at f.x)) rho_same
      ∙ ap (λ (b : Bool). cond b (cond (reserve_kept c.w c.q ρ c.X) 0 10) 7) ((reserve_in_range_iff c.w c.q ρ).1 reserves)
      ∙ ap (λ (b : Bool). cond b 0 10) (reserve_kept_test c σ ρ)

  pub ten_no : (q : Question) → number_of q ≡ reserve_number f.w f.q (at xs) (at f.x) → number_of q ≡ certificate_judged b h
  ten_no q e =
      let no = answered_no (test within_reserve c σ ρ) 10 (number_of q) (ten_is (number_of q) e) (number_range q).0 in
      no.1 ∙ sym (certificate_first b h ∙ ap (λ (b : Bool). cond b (first_failed c σ ρ) 10) no.0)

  sigma_small : SetsUnder c.w most_sigma (at table)
  unfolding sigma surplus
  sigma_small L o l = le_trans (le_of_eq (held L l)) (le_trans (sigma_most L) (greatest_most b sound 0))
    where
      sigma_most : (L : ℕ) → sigma b h.bids L ≤ greatest b 0
      sigma_most L = omega arith

  -- questions 11 to 15
  pub later : (ten n : ℕ) → ten ≡ reserve_number f.w f.q (at xs) (at f.x) → ten ≤ 0 → n ≡ balances_number c (at table) (at xs)
      → n ≡ certificate_judged b h
  later ten n e l m =
      let tables : Tables c.w (at table) ρ = record { few = facts.few; σ_most = sigma_small; ρ_most = rho_small } in
      let kept = answered_yes (test within_reserve c σ ρ) 10 ten (omega arith) (ten_is ten e) l in
      m ∙ ap (λ (r : ℕ → ℕ). balances_number c (at table) r) rho_same
      ∙ balances_number_first c (at table) ρ (record { ranges = facts; tables = tables })
      ∙ first_agree c (at table) σ ρ (λ L o l. held L l)
      ∙ sym (certificate_first b h ∙ ap (λ (b : Bool). cond b (first_failed c σ ρ) 10) kept)
