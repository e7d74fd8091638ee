-- Where the heaviest bids of all members fit together, nothing is better than to take them: so each adds its weight to what the others
-- reach (heaviest_first). A search need not look at such members. The first bid of a row that falls is its client's heaviest
-- (row_heaviest). The layers above cite it. Assumes nothing.
use mathlib.Core.Path.{◌≡◌, refl, sym, ap, ◌∙◌}
use mathlib.Core.Bool.{true}
use mathlib.Core.List.{List, [], ◌∷◌}
use Prim.Native.Nat.{ℕ, zero, suc, ◌+◌, ◌≤◌, ◌<◌}
use native.Mathlib.Nat.{le_antisymm}
use native.Mathlib.Omega.{arith}
use lib.ListN.{length}
use Rattle.market.specs.Market.{Market, at, fits, less}
use Rattle.market.specs.Members.{more, reach, leasts, RowOf, Falling, Heaviest}
use Rattle.market.proofs.Hours.{less_length, less_at, fits_at, fits_if}
use Rattle.market.proofs.Each.{Each}
use Rattle.market.proofs.Choose.{choose_within}
use Rattle.market.proofs.Vector.{open_parts, open_if}
use Rattle.market.proofs.Adding.{more_length, more_at, fits_length, fits_trans, less_fits}
use Rattle.market.proofs.Reach.{reach_take, reach_less}

-- hours that fit together: the first fit, and the others fit what these leave, and so by themselves
module _ (xs ys ls : List ℕ) (t : fits (more xs ys) ls ≡ true) where
  first_fits : fits xs ls ≡ true
  first_fits =
      fits_if xs ls (omega (arith, more_length xs ys, fits_length _ _ t)) (λ k l. omega (arith, more_at xs ys k, fits_at _ _ t k))

  others_fit_after : fits ys (less ls xs) ≡ true
  others_fit_after =
      fits_if ys (less ls xs) (omega (arith, more_length xs ys, less_length ls xs, fits_length _ _ t))
      (λ k l. omega (arith, more_at xs ys k, less_at ls xs k, fits_at _ _ t k))

  pub others_fit : fits ys ls ≡ true
  others_fit = fits_trans ys (less ls xs) ls others_fit_after (less_fits ls xs)

-- a heaviest bid of each client
module _ (m : Market) (wt : ℕ → ℕ) (head : ℕ → ℕ) where
  abbrev head_hours : ℕ → List ℕ
  head_hours c = m.hours (head c)

  heads_worth : List ℕ → ℕ
  heads_worth [] = 0
  heads_worth (c ∷ cs) = wt (head c) + heads_worth cs

  reach_heads : (cs ls : List ℕ) → Each (λ c. Heaviest m wt c (head c)) cs → fits (leasts head_hours cs) ls ≡ true
      → reach m wt cs ls ≡ heads_worth cs
  unfolding reach leasts heads_worth
  reach_heads [] ls h t = refl
  reach_heads (c ∷ cs) ls (h, hs) t =
      let later = reach_heads cs ls hs (others_fit (head_hours c) (leasts head_hours cs) ls t) in
      let after = reach_heads cs (less ls (head_hours c)) hs (others_fit_after (head_hours c) (leasts head_hours cs) ls t) in
      let taken = reach_take m wt c cs ls (head c) h.low h.high
      (open_if m c ls (head c) h.own h.eligible (first_fits (head_hours c) (leasts head_hours cs) ls t)) in
      le_antisymm
      (choose_within m wt c ls (reach m wt cs ls) (λ rs. reach m wt cs rs) m.bids _ (omega arith)
      (λ i l u o. let (own, may, fit) = open_parts m c ls i o in
      omega (arith, h.most i l u own may, reach_less m wt cs ls (m.hours i))))
      (omega arith)

  -- the first member adds the weight of its heaviest bid
  pub heaviest_first : (c : ℕ) (cs ls : List ℕ) → Each (λ c. Heaviest m wt c (head c)) (c ∷ cs)
      → fits (leasts head_hours (c ∷ cs)) ls ≡ true → reach m wt (c ∷ cs) ls ≡ wt (head c) + reach m wt cs ls
  unfolding leasts heads_worth
  heaviest_first c cs ls h t =
      reach_heads (c ∷ cs) ls h t
      ∙ ap (λ (x : ℕ). wt (head c) + x) (sym (reach_heads cs ls h.1 (others_fit (head_hours c) (leasts head_hours cs) ls t)))

-- a row that falls begins with its client's heaviest bid
falls_from : (wt : ℕ → ℕ) (row : List ℕ) → Falling wt row → (k : ℕ) → k < length row → wt (at row k) ≤ wt (at row 0)
unfolding Falling
falls_from wt row f zero l = omega arith
falls_from wt row f (suc k) l = omega (arith, f k l, falls_from wt row f k (omega arith))

pub row_heaviest : (m : Market) (wt : ℕ → ℕ) (c : ℕ) (row : List ℕ) → RowOf m m.bids c row → Falling wt row → 0 < length row
    → Heaviest m wt c (at row 0)
row_heaviest m wt c row r f some = record {
  low = (r.numbers 0 some).0;
  high = (r.numbers 0 some).1;
  own = r.owners 0 some;
  eligible = r.eligible 0 some;
  most = λ j l u own may. let (k, b, e) = r.whole j l u own may in rw (← e) (falls_from wt row f k b);
}
