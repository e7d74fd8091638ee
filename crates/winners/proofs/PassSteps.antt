-- The steps of the pass over sets: a set's floor, and its value by its clients' heads or by the split. Cited by the proofs of src/pass.rt.
-- Assumes nothing.
use mathlib.Core.Path.{◌≡◌, sym, ap, ap₂, ◌∙◌}
use mathlib.Core.Bool.{true, false}
use mathlib.Core.List.{List, [], ◌∷◌}
use mathlib.Core.Logic.{◌⊎◌, inl, inr, ⊎_elim}
use Prim.Native.Nat.{ℕ, suc, ◌+◌, ◌-◌, ◌*◌, ◌^◌, ◌≤◌, ◌<◌, max}
use native.Mathlib.Decide.{ℕ_discrete}
use native.Mathlib.Omega.{arith}
use lib.Bits.{bit_and}
use lib.Dec.{eqb, leb, ltb}
use lib.ListN.{length, get_or}
use borrow.Author.Tests.{leb-true, leb-false, ltb-true, ltb-false}
use lib.Pow.{pow_pos}
use Rattle.sets.specs.Sets.{has}
use Rattle.sets.proofs.Members.{has_zero}
use Rattle.market.specs.Market.{Market, fits, less}
use Rattle.market.specs.Members.{more, reach, leasts, trimmed, without, Heaviest}
use Rattle.market.proofs.Bools.{either}
use Rattle.market.proofs.Adding.{more_length, more_at, fits_length}
use Rattle.market.proofs.Hours.{fits_at, fits_if}
use Rattle.market.proofs.Choose.{choose_attained}
use Rattle.market.proofs.Trimmed.{full_reaches}
use Rattle.market.proofs.Split.{split_value, split_floor}
use Rattle.market.proofs.Each.{each_if}
use Rattle.market.proofs.Members.{members_at}
use Rattle.market.proofs.Heaviest.{heaviest_first}
use Rattle.winners.specs.ClientSets.{clients_in, First, Others, Within}
use Rattle.winners.specs.Full.{weight_most, Tail, one, next, Ceilings, Searchable, Searched}
use Rattle.winners.specs.Lanes.{guards}
use Rattle.winners.specs.Passes.{FloorPast, ValuesTo, Weighable}
use Rattle.winners.specs.Rows.{weight_at, row_of}
use Rattle.winners.specs.declared.row.Row.{Row}
use Rattle.winners.proofs.ClientSets.{clients_first, clients_without, clients_few, some_client, others_less}
use Rattle.winners.proofs.ClientSets.{fewer_within, gone_alone, has_there, reach_fewer}
use Rattle.winners.proofs.Taking.{more_fits}

-- A SET'S FLOOR, one client left out after another
module _ (left c set : ℕ) (values : List ℕ) (floor now : ℕ) (first : First left c) (within : Within left set) where
  abbrev rest : ℕ
  rest = left - 2 ^ (c - 1)

  -- the first client's bit
  pub bit_is : left - rest ≡ 2 ^ (c - 1)
  bit_is = let there = has_there left (c - 1) first.there in omega arith

  pub bit_few : 2 ^ (c - 1) ≤ set
  bit_few = has_there set (c - 1) (within (c - 1) first.there)

  pub rest_within : Within rest set
  rest_within j h = within j (fewer_within left (c - 1) first.there j h)

  abbrev without_first : ℕ
  without_first = get_or values (set - 2 ^ (c - 1)) 0

  pub floor_next : now ≡ max floor without_first → FloorPast left set values floor → FloorPast rest set values now
  floor_next en h = record {
    covers = λ j l y z. elim (ℕ_discrete j (c - 1)) [
      | yes e ↦ rw e (omega arith)
      | no n ↦ omega (arith, h.covers j l y (gone_alone left (c - 1) j first.there z n))
    ];
    there = ⊎_elim (λ (y : leb without_first floor ≡ true). kept (omega (arith, leb-true without_first floor y)) h.there)
        (λ (z : leb without_first floor ≡ false).
        inr (c - 1, omega (arith, first.low, first.high), within (c - 1) first.there, omega (arith, leb-false without_first floor z)))
        (either (leb without_first floor));
  }
    where
      kept : now ≡ floor → (floor ≡ 0) ⊎ ((j : ℕ) × (j < 6) × (has set j ≡ true) × (floor ≡ get_or values (set - 2 ^ j) 0))
          → (now ≡ 0) ⊎ ((j : ℕ) × (j < 6) × (has set j ≡ true) × (now ≡ get_or values (set - 2 ^ j) 0))
      kept e (inl z) = inl (e ∙ z)
      kept e (inr (j, l, y, z)) = inr (j, l, y, e ∙ z)

-- HOW MUCH THERE IS TO REACH
reach_most : (m : Market) (wt : ℕ → ℕ) (a : ℕ) → ((i : ℕ) → wt i ≤ a) → (cs ls : List ℕ) → reach m wt cs ls ≤ a * length cs
unfolding reach
reach_most m wt a h [] ls = omega arith
reach_most m wt a h (c ∷ cs) ls =
    ⊎_elim
    (λ e. omega (arith, e, reach_most m wt a h cs ls))
    (λ (i, l, t, e). omega (arith, e, h (suc i), reach_most m wt a h cs (less ls (m.hours (suc i)))))
    (choose_attained m wt c ls (reach m wt cs ls) (λ rs. reach m wt cs rs) m.bids)

reach_few : (m : Market) (wt : ℕ → ℕ) → ((i : ℕ) → wt i ≤ 9007199254740992) → (s : ℕ) (ls : List ℕ)
    → reach m wt (clients_in s) ls ≤ 54043195528445952
reach_few m wt h s ls = omega (arith, reach_most m wt 9007199254740992 h (clients_in s) ls, clients_few (λ c. has s (c - 1)) 6 1)

-- so values are few
pub values_few : (m : Market) (wt : ℕ → ℕ) (supply : List ℕ) (n : ℕ) (values : List ℕ) → ((i : ℕ) → wt i ≤ 9007199254740992)
    → ValuesTo m wt supply n values → (r : ℕ) → get_or values r 0 ≤ 54043195528445952
values_few m wt supply n values h known r = ⊎_elim
    (λ (y : ltb r n ≡ true). rw (known.below r (ltb-true r n y)) (reach_few m wt h r supply))
    (λ (z : ltb r n ≡ false). omega (arith, known.above r (ltb-false r n z)))
    (either (ltb r n))

-- THE CLIENTS LEFT
tail_less : {s r : ℕ} → Tail s r → r < s
tail_less (one {s = s} {c = t} h) = others_less s t h
tail_less (next {s = s} {c = t} h tail) = omega (arith, tail_less tail, others_less s t h)

-- what fits with the least hours of more clients fits with those of fewer
fewer_fits : (ys xs zs ls : List ℕ) → fits (more ys (more xs zs)) ls ≡ true → fits (more ys zs) ls ≡ true
fewer_fits ys xs zs ls t =
    fits_if (more ys zs) ls (simp more_length (omega (arith, simp more_length at (fits_length _ _ t))))
    (λ k l. simp more_at (omega (arith, simp more_at at (fits_at _ _ t k))))

first_room : (least : ℕ → List ℕ) (s t : ℕ) → First s t → (ys ls : List ℕ) → fits (more ys (leasts least (clients_in s))) ls ≡ true
    → fits (more ys (leasts least (clients_in (s - 2 ^ (t - 1))))) ls ≡ true
unfolding leasts
first_room least s t h ys ls f = fewer_fits ys (least t) _ ls (rw (clients_first s t h) at f)

tail_room : (least : ℕ → List ℕ) {s r : ℕ} → Tail s r → (ys ls : List ℕ) → fits (more ys (leasts least (clients_in s))) ls ≡ true
    → fits (more ys (leasts least (clients_in r))) ls ≡ true
tail_room least (one {s = s} {c = t} h) ys ls f = first_room least s t h ys ls f
tail_room least (next {s = s} {c = t} h tail) ys ls f = tail_room least tail ys ls (first_room least s t h ys ls f)

-- THE VALUE OF A SET
module _ (set used heads : ℕ) (rows : List Row) (values : List ℕ) (w : Weighable set used heads rows values) where
  abbrev m : Market
  m = w.sale.m

  abbrev wt : ℕ → ℕ
  wt = w.sale.wt

  abbrev supply : List ℕ
  supply = w.sale.supply

  abbrev least : ℕ → List ℕ
  least = w.sale.least

  abbrev taken : List ℕ
  taken = leasts least (clients_in set)

  -- known values of the clients left are ceilings
  ceilings : fits taken supply ≡ true → Ceilings (trimmed least m) wt values set (less supply taken)
  ceilings t r tail ys f =
      rw (w.known.below r (tail_less tail))
      (full_reaches m wt least w.sale.laid.low (clients_in r) ys supply
      (tail_room least tail ys supply (sym (more_fits ys taken supply t) ∙ f)))

  -- where the heaviest bids fit together, the first client's weight and what the others reach
  pub value_together : {c : ℕ} → First set c → {others : ℕ} → Others set others → eqb (bit_and heads guards) 0 ≡ true
      → weight_at (row_of rows c) 0 + get_or values others 0 ≡ reach m wt (clients_in set) supply
  value_together {c} f o y =
      let rest = set - 2 ^ (c - 1) in
      let first = clients_first set c f in
      let heavy = each_if (λ d. Heaviest m wt d (w.sale.head d)) (clients_in set)
      (λ k l. let (low, high, on) = members_at (λ d. has set (d - 1)) 6 1 k l in (w.headed _ low (omega arith) on).heaviest) in
      ap₂ (λ (a b : ℕ). a + b) (w.headed c f.low f.high f.there).weighs
      (rw (o.is c f) (w.known.below rest (others_less set c f)))
      ∙ sym (heaviest_first m wt w.sale.head c (clients_in rest) supply (rw first at heavy)
      (rw first at (sym w.heads_room.clear ∙ y)))
      ∙ (rw first)

  pub weight_few : {c : ℕ} → First set c → weight_at (row_of rows c) 0 ≤ weight_most
  weight_few {c} f = rw (w.headed c f.low f.high f.there).weighs (w.sale.laid.weights_few _)

  module _ (floor : ℕ) (f : FloorPast 0 set values floor) where
    covers : (d : ℕ) → d < length (clients_in set) → reach m wt (without d (clients_in set)) supply ≤ floor
    covers d l =
        let (j, b, h, e) = clients_without set d l in
        let there = has_there set j h in
        omega (
          arith,
          ap (λ (cs : List ℕ). reach m wt cs supply) e,
          w.known.below (set - 2 ^ j) (omega (arith, pow_pos j)),
          f.covers j b h (has_zero j),
        )

    reached : floor ≤ reach m wt (clients_in set) supply
    reached = ⊎_elim
        (λ (z : floor ≡ 0). omega arith)
        (λ (j, b, h, v). let there = has_there set j h in
        omega (arith, v, w.known.below (set - 2 ^ j) (omega (arith, pow_pos j)), reach_fewer m wt set j supply h))
        f.there

    -- where the least hours do not fit, the floor
    pub value_floor : eqb (bit_and used 72058693566333184) 0 ≡ false → floor ≡ reach m wt (clients_in set) supply
    value_floor n =
        sym (split_floor m wt least w.sale.laid.low (clients_in set) supply floor covers reached (sym w.room.clear ∙ n))

    -- where they do, by the split
    module _ (y : eqb (bit_and used 72058693566333184) 0 ≡ true) where
      pub value_searched : (v : ℕ) → Searched set used floor rows values v → v ≡ reach m wt (clients_in set) supply
      value_searched v s =
          let t = sym w.room.clear ∙ y in
          s.is (trimmed least m) wt w.sale.k (less supply taken) w.sale.laid.trims (w.room.left t) (ceilings t)
          ∙ sym (split_value m wt least w.sale.laid.low (clients_in set) supply floor covers reached t)

      pub value_searchable : (size : ℕ) → size ≡ length (clients_in set) → Searchable size set used floor rows values
      value_searchable size count =
          let t = sym w.room.clear ∙ y in
          record {
            m = trimmed least m;
            wt = wt;
            k = w.sale.k;
            hours = less supply taken;
            held = w.sale.laid.trims;
            left = w.room.left t;
            ceilings = ceilings t;
            weights_few = w.sale.laid.weights_few;
            clients_left = count;
            some_left = omega (arith, some_client set w.some w.few);
            set_few = w.few;
            floor_few = omega (arith, reached, reach_few m wt w.sale.laid.weights_few set supply);
          }
