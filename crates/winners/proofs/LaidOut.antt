-- Rows that are settled lay out the market that is searched, with each client's least hours taken off, and begin with the clients' heads.
-- Cited by the proof of src/pass.rt's `weigh_all`. Assumes nothing.
use mathlib.Core.Path.{◌≡◌, refl, sym, ◌∙◌}
use mathlib.Core.Bool.{true, false}
use mathlib.Core.List.{List, [], ◌∷◌}
use Prim.Native.Nat.{ℕ, ◌+◌, ◌-◌, ◌≤◌, ◌<◌}
use native.Mathlib.Decide.{dec_le, dec_lt}
use native.Mathlib.Omega.{arith}
use borrow.Author.Tests.{ltb-true, ltb-false}
use lib.Dec.{ltb}
use lib.ListN.{length, get_or}
use Rattle.sets.specs.Sets.{has, set_of}
use Rattle.sets.proofs.Members.{has_set_of}
use Rattle.book.specs.Book.{Book, client_of}
use Rattle.book.specs.Sound.{Sound}
use Rattle.market.specs.Market.{Market, at, fits}
use Rattle.market.specs.Members.{trimmed, Least, RowOf, Heaviest}
use Rattle.market.proofs.Heaviest.{row_heaviest}
use Rattle.winners.specs.Combinations.{market, amount_of}
use Rattle.winners.specs.Greatest.{without}
use Rattle.winners.specs.Lanes.{Asked}
use Rattle.winners.specs.Passes.{LaidOut, IdleBut}
use Rattle.winners.specs.Rows.{weight_at, hours_at, row_of, searched, RowHeld, RowsHeld}
use Rattle.winners.specs.declared.row.Offer.{Offer}
use Rattle.winners.specs.declared.row.Row.{Row}
use Rattle.winners.specs.Taken.{LeastsHeld}
use Rattle.winners.specs.Trims.{RowTrimmed, TrimmedTo}
use Rattle.winners.proofs.LanesLeast.{asked_whole}
use Rattle.winners.proofs.Most.{amount_most}

-- offers whose least hours are those of a client
module _ (m : Market) (wt : ℕ → ℕ) (k n t : ℕ) (os : List Offer) (number : ℕ) (r : RowTrimmed m wt k n t os number)
    (least : ℕ → List ℕ) (e : least t ≡ r.least) where
  its_row : (row : List ℕ) × RowHeld (trimmed least m) wt k n t os row
  its_row =
      let h = r.held in (
        r.row,
        record {
          holds = record { numbers = h.holds.numbers; owners = h.holds.owners; eligible = h.holds.eligible; whole = h.holds.whole };
          falls = h.falls;
          count = h.count;
          offered = λ d l. record {
            weighs = (h.offered d l).weighs;
            asks = rw (h.holds.owners d l, e) (h.offered d l).asks;
          };
        },
      )

  its_asked : Asked k (least t) number
  its_asked = rw e r.asked

  its_low : (i : ℕ) → 1 ≤ i → i ≤ n → m.may i ≡ true → m.owner i ≡ t → fits (least (m.owner i)) (m.hours i) ≡ true
  its_low i l u may own =
      let (d, b, q) = r.held.holds.whole i l u own may in
      rw (own, e) (rw q at (r.low d b))

  -- where there is an offer, the first is of the client's heaviest bid; it has its weight, and its hours but for the least
  module _ (some : 0 < length os) where
    its_first : 0 < length r.row
    its_first = omega (arith, r.held.count)

    its_weight : weight_at os 0 ≡ wt (at r.row 0)
    its_weight = (r.held.offered 0 its_first).weighs

    its_heaviest : n ≡ m.bids → Heaviest m wt t (at r.row 0)
    its_heaviest e =
        let h = r.held.holds in
        let own : RowOf m n t r.row
        = record { numbers = h.numbers; owners = h.owners; eligible = h.eligible; whole = h.whole } in
        row_heaviest m wt t r.row (rw e at own) r.held.falls its_first

    its_hours : (before : List Offer) (row : List ℕ) → RowHeld m wt k n t before row → Asked k (m.hours (at r.row 0))
        (number + hours_at os 0)
    its_hours before row h =
        let own = r.held.holds in
        let (place, inside, same) = h.holds.whole _ (own.numbers 0 its_first).0 (own.numbers 0 its_first).1 (own.owners 0 its_first)
        (own.eligible 0 its_first) in
        asked_whole k _ _ _ _ (r.low 0 its_first) (rw same at (h.offered place inside).asks.bytes)
        (r.held.offered 0 its_first).asks r.asked

module _ (b : Book) (s : Sound b) (d : ℕ) (rows : List Row) (leasts : List ℕ)
    (h : TrimmedTo (searched b d) (amount_of b) (length b.kinds) (length b.bids) 7 rows leasts) where
  -- each client's least hours, and the first bid of its row; none of nobody
  least_from : (t : ℕ) → Dec (1 ≤ t) → Dec (t < 7) → List ℕ
  least_from t (yes l) (yes u) = (h t l u).least
  least_from t (yes l) (no n) = []
  least_from t (no n) e = []

  head_from : (t : ℕ) → Dec (1 ≤ t) → Dec (t < 7) → ℕ
  head_from t (yes l) (yes u) = at (h t l u).row 0
  head_from t (yes l) (no n) = 0
  head_from t (no n) e = 0

  pub least_of : ℕ → List ℕ
  least_of t = least_from t (dec_le 1 t) (dec_lt t 7)

  pub head_of : ℕ → ℕ
  head_of t = head_from t (dec_le 1 t) (dec_lt t 7)

  -- they are those of its row
  abbrev Trimmed : ℕ → Type 0
  Trimmed t = RowTrimmed (searched b d) (amount_of b) (length b.kinds) (length b.bids) t (row_of rows t) (get_or leasts t 0)

  row_from : (t : ℕ) (low : Dec (1 ≤ t)) (high : Dec (t < 7)) → 1 ≤ t → t < 7
      → (r : Trimmed t) × (least_from t low high ≡ r.least) × (head_from t low high ≡ at r.row 0)
  unfolding least_from head_from
  row_from t (yes l) (yes u) some few = (h t l u, refl, refl)
  row_from t (yes l) (no n) some few = absurd (n few)
  row_from t (no n) high some few = absurd (n some)

  by_client : (P : ℕ → Type 0) → ((t : ℕ) (r : Trimmed t) → least_of t ≡ r.least → head_of t ≡ at r.row 0 → P t)
      → (t : ℕ) → 1 ≤ t → t ≤ 6 → P t
  unfolding least_of head_of
  by_client P f t l u = let (r, e, q) = row_from t (dec_le 1 t) (dec_lt t 7) l (omega arith) in f t r e q

  pub leasts_laid : LeastsHeld (length b.kinds) least_of leasts
  leasts_laid = by_client _ (λ t r e q. its_asked _ _ _ _ t _ _ r least_of e)

  rows_laid : RowsHeld (trimmed least_of (searched b d)) (amount_of b) (length b.kinds) (length b.bids) rows
  rows_laid = by_client _ (λ t r e q. its_row _ _ _ _ t _ _ r least_of e)

  low_laid : Least (searched b d) least_of
  unfolding without market
  low_laid i l u may =
      by_client (λ t. (searched b d).owner i ≡ t → fits (least_of ((searched b d).owner i)) ((searched b d).hours i) ≡ true)
      (λ t r e q own. its_low _ _ _ _ t _ _ r least_of e i l u may own)
      (client_of b i) (s.client_low i l u) (omega (arith, s.client_high i l u, s.n_high)) refl

  -- a client whose row is empty has no bid
  idle_laid : (j : ℕ) → j < 6 → ltb 0 (length (row_of rows (1 + j))) ≡ false → RowOf (searched b d) (length b.bids) (1 + j) []
  idle_laid j l e =
      let (row, r) = rows_laid (1 + j) (omega arith) (omega arith) in
      let none : length row ≡ 0 = omega (arith, r.count, ltb-false 0 (length (row_of rows (1 + j))) e) in
      empty row none r.holds
    where
      empty : (row : List ℕ) → length row ≡ 0 → RowOf (trimmed least_of (searched b d)) (length b.bids) (1 + j) row
          → RowOf (searched b d) (length b.bids) (1 + j) []
      empty [] z r = record { numbers = r.numbers; owners = r.owners; eligible = r.eligible; whole = r.whole }
      empty (i ∷ row) z r = absurd (omega arith)

  pub idle_but : (held : ℕ) → held ≡ set_of 6 (λ j. ltb 0 (length (row_of rows (1 + j)))) → IdleBut (searched b d) held
  unfolding without market
  idle_but held e j l n = idle_laid j l (sym (rw e (has_set_of 6 (λ j. ltb 0 (length (row_of rows (1 + j)))) j l)) ∙ n)

  pub laid_out : LaidOut (searched b d) (amount_of b) (length b.kinds) least_of rows
  unfolding without market
  laid_out = record { low = low_laid; trims = rows_laid; weights_few = λ i. omega (arith, amount_most b s i) }

  -- whoever has a bid has a head, the first bid of its row
  module _ (held : ℕ) (e : held ≡ set_of 6 (λ j. ltb 0 (length (row_of rows (1 + j))))) where
    by_held : (P : ℕ → Type 0)
        → ((t : ℕ) (r : Trimmed t) → least_of t ≡ r.least → head_of t ≡ at r.row 0 → 0 < length (row_of rows t) → P t)
        → (t : ℕ) → 1 ≤ t → t ≤ 6 → has held (t - 1) ≡ true → P t
    by_held P f t l u on =
        let back : 1 + (t - 1) ≡ t = omega arith in
        let there : has held (t - 1) ≡ ltb 0 (length (row_of rows t))
        = rw e (rw back at (has_set_of 6 (λ j. ltb 0 (length (row_of rows (1 + j)))) (t - 1) (omega arith))) in
        by_client (λ t. 0 < length (row_of rows t) → P t) f t l u (ltb-true 0 _ (sym there ∙ on))

    pub heads_heaviest : (t : ℕ) → 1 ≤ t → t ≤ 6 → has held (t - 1) ≡ true → Heaviest (searched b d) (amount_of b) t (head_of t)
    unfolding without market
    heads_heaviest = by_held _ (λ t r e q some. rw q (its_heaviest _ _ _ _ t _ _ r least_of e some refl))

    pub heads_there : (t : ℕ) → 1 ≤ t → t ≤ 6 → has held (t - 1) ≡ true → 1 ≤ length (row_of rows t)
    heads_there = by_held _ (λ t r e q some. some)

    pub heads_weigh : (t : ℕ) → 1 ≤ t → t ≤ 6 → has held (t - 1) ≡ true → weight_at (row_of rows t) 0 ≡ amount_of b (head_of t)
    heads_weigh = by_held _ (λ t r e q some. rw q (its_weight _ _ _ _ t _ _ r least_of e some))

    -- by the rows before they were settled
    pub heads_ask : (before : List Row) → RowsHeld (searched b d) (amount_of b) (length b.kinds) (length b.bids) before
        → (t : ℕ) → 1 ≤ t → t ≤ 6 → has held (t - 1) ≡ true
        → Asked (length b.kinds) ((searched b d).hours (head_of t)) (get_or leasts t 0 + hours_at (row_of rows t) 0)
    heads_ask before g t l u on =
        by_held (λ t. (row : List ℕ) → RowHeld (searched b d) (amount_of b) (length b.kinds) (length b.bids) t (row_of before t) row
        → Asked (length b.kinds) ((searched b d).hours (head_of t)) (get_or leasts t 0 + hours_at (row_of rows t) 0))
        (λ t r e q some row h. rw q (its_hours _ _ _ _ t _ _ r least_of e some (row_of before t) row h))
        t l u on _ (g t l u).1
