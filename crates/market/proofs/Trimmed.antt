-- Least hours taken off every bid: what the trimmed market reaches where nobody passes, the members reach (full_reaches), so that what is
-- known of the members still to come bounds it (full_ceiling); and what they reach by bids of all of them, the trimmed market reaches too
-- (full_take). proofs/Split.antt and the layers above cite it. Assumes nothing.
use mathlib.Core.Path.{◌≡◌}
use mathlib.Core.Bool.{true}
use mathlib.Core.List.{List, [], ◌∷◌}
use Prim.Native.Nat.{ℕ, ◌+◌, ◌≤◌}
use native.Mathlib.Nat.{le_refl}
use native.Mathlib.Omega.{arith}
use Rattle.market.specs.Market.{Market, fits, less}
use Rattle.market.specs.Greatest.{open_to}
use Rattle.market.specs.Members.{more, reach, full, leasts, trimmed, Least}
use Rattle.market.proofs.Choose.{choose_take, choose_within}
use Rattle.market.proofs.Vector.{open_parts, open_if}
use Rattle.market.proofs.Reach.{reach_take}
use Rattle.market.proofs.LeastHours.{fits_untrimmed, room_untrimmed, room_later, fits_together, fits_trimmed, less_trimmed}

module _ (m : Market) (wt : ℕ → ℕ) (least : ℕ → List ℕ) (low : Least m least) where
  -- what the trimmed market reaches where nobody passes, the members reach
  pub full_reaches : (cs ys ls : List ℕ) → fits (more ys (leasts least cs)) ls ≡ true
      → full (trimmed least m) wt cs ys ≤ reach m wt cs ls
  unfolding full reach leasts
  full_reaches [] ys ls room = le_refl 0
  full_reaches (c ∷ cs) ys ls room =
      choose_within (trimmed least m) wt c ys 0 (λ rs. full (trimmed least m) wt cs rs) m.bids _ (omega arith)
      (λ i l u t.
      let (own, may, fit) = open_parts (trimmed least m) c ys i t in
      let below = rw own at (low i l u may) in
      let fit = rw own at fit in
      rw own (omega (
        arith,
        full_reaches cs _ _ (room_untrimmed (m.hours i) (least c) (leasts least cs) below ys ls room fit),
        reach_take m wt c cs ls i l u
            (open_if m c ls i own may (fits_untrimmed (m.hours i) (least c) (leasts least cs) below ys ls room fit)),
      )))

  -- so whatever a bid of the first member asks for, what the others add is no more than they reach
  pub full_ceiling : (c : ℕ) (cs ys ls hs : List ℕ) → fits (more ys (leasts least (c ∷ cs))) ls ≡ true
      → full (trimmed least m) wt cs (less ys hs) ≤ reach m wt cs ls
  full_ceiling c cs ys ls hs room = full_reaches cs (less ys hs) ls (room_later least c cs ys hs ls room)

  -- a bid of the first member with bids of all the others is bids of all
  pub full_take : (c : ℕ) (cs ls : List ℕ) (i : ℕ) → 1 ≤ i → i ≤ m.bids → open_to m c ls i ≡ true
      → fits (leasts least cs) (less ls (m.hours i)) ≡ true
      → (fits (leasts least (c ∷ cs)) ls ≡ true)
      × (wt i + full (trimmed least m) wt cs (less (less ls (m.hours i)) (leasts least cs))
      ≤ full (trimmed least m) wt (c ∷ cs) (less ls (leasts least (c ∷ cs))))
  unfolding full leasts
  full_take c cs ls i l u t later =
      let (own, may, fit) = open_parts m c ls i t in
      let hs = m.hours i in
      let zs = leasts least cs in
      let below = rw own at (low i l u may) in
      let ys = less ls (more (least c) zs) in
      let there = open_if (trimmed least m) c ys i own may (rw own (fits_trimmed hs (least c) zs below ls fit later)) in
      let taking = choose_take (trimmed least m) wt c ys 0 (λ rs. full (trimmed least m) wt cs rs) m.bids i l u there in
      (fits_together hs (least c) zs below ls fit later, rw (own, less_trimmed hs (least c) zs below ls fit later) at taking)
