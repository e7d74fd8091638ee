-- What members reach: more hours never lower it (reach_covers), and fewer members never raise it (reach_fewer, reach_without).
-- proofs/ReachKept.antt, proofs/Trimmed.antt, proofs/Split.antt and the layers above cite it. Assumes nothing.
use mathlib.Core.Path.{◌≡◌}
use mathlib.Core.Bool.{true}
use mathlib.Core.List.{List, [], ◌∷◌}
use Prim.Native.Nat.{ℕ, zero, suc, ◌+◌, ◌≤◌}
use native.Mathlib.Nat.{le_refl, le_trans}
use native.Mathlib.Omega.{arith}
use Rattle.market.specs.Market.{Market, fits, less}
use Rattle.market.specs.Greatest.{open_to, choose}
use Rattle.market.specs.Members.{reach, without}
use Rattle.market.proofs.Adding.{fits_trans, fits_itself, less_fits, less_covers}
use Rattle.market.proofs.Choose.{choose_pass, choose_take, choose_within}
use Rattle.market.proofs.Vector.{open_parts, open_if}

module _ (m : Market) (wt : ℕ → ℕ) where
  -- a bid that is open stays open with more hours
  open_covers : (c : ℕ) (ls ls' : List ℕ) (i : ℕ) → fits ls ls' ≡ true → open_to m c ls i ≡ true → open_to m c ls' i ≡ true
  open_covers c ls ls' i f t =
      let (own, may, room) = open_parts m c ls i t in
      open_if m c ls' i own may (fits_trans (m.hours i) ls ls' room f)

  -- a choice with more hours, and where passing and each bid lead to no less, is no less
  pub choose_covers : (n c : ℕ) (ls ls' : List ℕ) (p p' : ℕ) (on on' : List ℕ → ℕ) → fits ls ls' ≡ true → p ≤ p'
      → ((i : ℕ) → on (less ls (m.hours i)) ≤ on' (less ls' (m.hours i)))
      → choose m wt n c ls p on ≤ choose m wt n c ls' p' on'
  choose_covers n c ls ls' p p' on on' f b h =
      choose_within m wt c ls p on n _ (le_trans b (choose_pass m wt c ls' p' on' n))
      (λ i l u t. omega (arith, h i, choose_take m wt c ls' p' on' n i l u (open_covers c ls ls' i f t)))

  -- more hours never lower what is reached
  pub reach_covers : (cs ls ls' : List ℕ) → fits ls ls' ≡ true → reach m wt cs ls ≤ reach m wt cs ls'
  unfolding reach
  reach_covers [] ls ls' f = le_refl 0
  reach_covers (c ∷ cs) ls ls' f =
      choose_covers m.bids c ls ls' (reach m wt cs ls) (reach m wt cs ls') (λ rs. reach m wt cs rs) (λ rs. reach m wt cs rs)
      f (reach_covers cs ls ls' f) (λ i. reach_covers cs _ _ (less_covers ls ls' (m.hours i) f))

  -- nor do hours that are taken raise it
  pub reach_less : (cs ls hs : List ℕ) → reach m wt cs (less ls hs) ≤ reach m wt cs ls
  reach_less cs ls hs = reach_covers cs (less ls hs) ls (less_fits ls hs)

  -- what the first member reaches by a bid that is open
  pub reach_take : (c : ℕ) (cs ls : List ℕ) (i : ℕ) → 1 ≤ i → i ≤ m.bids → open_to m c ls i ≡ true
      → wt i + reach m wt cs (less ls (m.hours i)) ≤ reach m wt (c ∷ cs) ls
  unfolding reach
  reach_take c cs ls i l u t = choose_take m wt c ls (reach m wt cs ls) (λ rs. reach m wt cs rs) m.bids i l u t

  -- one member more at the front never lowers what is reached
  pub reach_fewer : (c : ℕ) (cs ls : List ℕ) → reach m wt cs ls ≤ reach m wt (c ∷ cs) ls
  unfolding reach
  reach_fewer c cs ls = choose_pass m wt c ls (reach m wt cs ls) (λ rs. reach m wt cs rs) m.bids

  -- nor does one more at any place
  pub reach_without : (d : ℕ) (cs ls : List ℕ) → reach m wt (without d cs) ls ≤ reach m wt cs ls
  unfolding reach without
  reach_without d [] ls = le_refl 0
  reach_without zero (c ∷ cs) ls = reach_fewer c cs ls
  reach_without (suc d) (c ∷ cs) ls =
      choose_covers m.bids c ls ls (reach m wt (without d cs) ls) (reach m wt cs ls)
      (λ rs. reach m wt (without d cs) rs) (λ rs. reach m wt cs rs)
      (fits_itself ls) (reach_without d cs ls) (λ i. reach_without d cs _)
