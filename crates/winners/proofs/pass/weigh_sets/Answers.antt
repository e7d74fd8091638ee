-- `pass::weigh_sets` meets its contract. The loop keeps the values of the sets passed, what least hours take and what heads take, in every
-- market that the rows lay out. Assumes nothing.
use mathlib.Core.Path.{◌≡◌, refl, ap}
use mathlib.Core.Bool.{cond}
use mathlib.Core.List.{List}
use mathlib.Core.Logic.{◌≢◌}
use Prim.Native.Nat.{ℕ, ◌+◌, ◌-◌, ◌<◌, ◌≤◌}
use native.Mathlib.Nat.{le_antisymm}
use native.Mathlib.Omega.{arith}
use lib.Bits.{bit_and, and_le_l}
use lib.Dec.{eqb}
use lib.ListN.{length, get_or, set, length-set}
use lib.Seq.{get_or-set_same, get_or-set_other}
use Rattle.winners.specs.ClientSets.{First, Others, Within}
use Rattle.winners.specs.Lanes.{Asked, guards, lanes_full}
use Rattle.winners.specs.Passes.{ValuesTo, Weighable, Passable, head_hours}
use Rattle.winners.specs.Rows.{row_of, hours_at}
use Rattle.winners.specs.declared.row.Offer.{Offer}
use Rattle.winners.specs.declared.row.Row.{Row}
use Rattle.winners.specs.Taken.{no_taken, taken_at, TakenTo}
use Rattle.winners.specs.declared.taken.Taken.{Taken}
use Rattle.winners.proofs.ClientSets.{and_within, within_and}
use Rattle.winners.proofs.PassSteps.{values_few}
use Rattle.winners.proofs.SetAfterSet.{values_first, values_next, value_left}
use Rattle.winners.proofs.Taking.{others_few, set_room, taken_first, taken_next, taken_passed}
use Rattle.winners.proofs.Trimming.{asked_few}
use Rattle.winners.proofs.pass.weigh_sets.Goals as goal
use Rattle.winners.proofs.pass.weigh_sets.Goals.{then-some-set, else-some-set}

pub loop-set-init : goal.loop-set-init
loop-set-init c =
    let held = c.args.held in
    let used = c.args.used in
    record {
      values_long = refl;
      taken_long = refl;
      known = λ p. (values_first _ _ _, taken_first _ _ _ held _ used refl p.left, taken_first _ _ _ held _ used refl p.left);
    }

-- a set of clients that all have a bid
inside : (s held : ℕ) → s ≤ bit_and s held → Within s held
inside s held l = and_within _ _ (le_antisymm (and_le_l s held) l)

-- what such a set's first client asks for, at the least and by its head
module _ {held used s first rest : ℕ} {rows : List Row} {leasts : List ℕ} (p : Passable held used rows leasts) (f : First s first)
    (o : Others s rest) (w : Within s held) where
  least_asked : Asked p.sale.k (p.sale.least first) (get_or leasts first 0)
  least_asked = p.leasts _ f.low f.high

  least_few : get_or leasts first 0 ≤ lanes_full
  least_few = asked_few _ _ _ p.left.kinds_few least_asked

  head_asked : Asked p.sale.k (head_hours p.sale first) (get_or leasts first 0 + hours_at (row_of rows first) 0)
  head_asked = p.heads_asked _ f.low f.high (w _ f.there)

  head_few : get_or leasts first 0 + hours_at (row_of rows first) 0 ≤ lanes_full
  head_few = asked_few _ _ _ p.left.kinds_few head_asked

  -- the hours used once the set's least hours are taken, and once its heads are
  module _ {values : List ℕ} (taken heads : ℕ → ℕ) {after head : ℕ} (known : ValuesTo p.sale.m p.sale.wt p.sale.supply s values)
      (least_before : TakenTo p.sale.k p.sale.supply p.sale.least held s taken)
      (heads_before : TakenTo p.sale.k p.sale.supply (head_hours p.sale) held s heads)
      (a : after ≡ cond (eqb (bit_and (taken rest) guards) 0) (taken rest + get_or leasts first 0) (taken rest))
      (b : head
      ≡ cond (eqb (bit_and (heads rest) guards) 0) (heads rest + (get_or leasts first 0 + hours_at (row_of rows first) 0)) (heads rest))
    where
      weighable : 1 ≤ s → s < 64 → Weighable s after head rows values
      weighable some few = record {
        sale = p.sale;
        room = set_room _ _ _ _ taken f o w least_before least_asked a;
        headed = λ t low high h. p.headed t low high (w (t - 1) h);
        heads_room = set_room _ _ _ _ heads f o w heads_before head_asked b;
        known = known;
        some = some;
        few = few;
      }

pub invariant_of-search-clause-values_few : goal.invariant_of-search-clause-values_few
invariant_of-search-clause-values_few c =
    values_few _ _ _ _ _ c.requires.sale.laid.weights_few (c.loop-set.invariant.known c.requires).0

pub head-requires : goal.head-requires
head-requires c =
    let f = c.first-first.ensures in
    (f.high, (c.requires.headed _ f.low f.high (inside _ _ c.if-some-set.false _ f.there)).some)

pub overflow_add-least : goal.overflow_add-least
overflow_add-least c =
    omega (
      arith,
      ap (λ (o : Offer). o.hours) c.head.ensures,
      head_few c.requires c.first-first.ensures c.others-rest.ensures (inside _ _ c.if-some-set.false),
    )

pub with_client-now-requires : goal.with_client-now-requires
with_client-now-requires c =
    let w = inside _ _ c.if-some-set.false in
    let f = c.first-first.ensures in
    let o = c.others-rest.ensures in
    let (known, rooms, heads) = c.loop-set.invariant.known c.requires in
    record {
      least = (others_few _ _ _ _ _ f o w rooms, least_few c.requires f o w);
      heads = (others_few _ _ _ _ _ f o w heads, rw (ap (λ (o : Offer). o.hours) c.head.ensures) (head_few c.requires f o w));
    }

pub value_of-requires : goal.value_of-requires
value_of-requires c =
    let (known, rooms, heads) = c.loop-set.invariant.known c.requires in
    let head = rw (ap (λ (o : Offer). o.hours) c.head.ensures) at c.with_client-now.ensures.heads in
    weighable c.requires c.first-first.ensures c.others-rest.ensures (inside _ _ c.if-some-set.false) _ _ known rooms heads
    c.with_client-now.ensures.least head c.loop-set.auto.set c.loop-set-test.true

-- an entry more by set, the others as they were
module _ (ts : List Taken) (s : ℕ) (t : Taken) (l : s < length ts) where
  entry_is : taken_at (set ts s t) s ≡ t
  entry_is = get_or-set_same ts s t no_taken l

  entry_other : (j : ℕ) → j ≢ s → taken_at (set ts s t) j ≡ taken_at ts j
  entry_other j n = get_or-set_other ts s j t no_taken n

pub loop-set-preserved : goal.loop-set-preserved
unfolding weighable
loop-set-preserved c =
    let l = c.loop-set in
    let held = c.args.held in
    let few = c.loop-set-test.true in
    elim c.if-some-set.branch [
      | then-some-set w ↦ rw (w.values-is, w.taken-is) (record {
        values_long = simp length-set l.invariant.values_long;
        taken_long = l.invariant.taken_long;
        known = λ p.
            let (known, rooms, heads) = l.invariant.known p in
            let less = w.if-some-set.true in
            let idle : Within l.set held → ⊥ = λ v. omega (arith, within_and l.set held few v, less) in (
              values_next _ _ _ l.set _ l.values few (value_left _ _ _ held l.set _ l.values p.idle known refl less) known,
              taken_passed _ _ _ held l.set _ idle rooms,
              taken_passed _ _ _ held l.set _ idle heads,
            );
      })
      | else-some-set w ↦ rw (w.values-is, w.taken-is) (record {
        values_long = simp length-set l.invariant.values_long;
        taken_long = simp length-set l.invariant.taken_long;
        known = λ p.
            let (known, rooms, heads) = l.invariant.known p in
            let f = w.first-first.ensures in
            let o = w.others-rest.ensures in
            let v = inside _ _ w.if-some-set.false in
            let a = w.with_client-now.ensures.least in
            let b = rw (ap (λ (o : Offer). o.hours) w.head.ensures) at w.with_client-now.ensures.heads in
            let room : l.set < length l.taken = omega (arith, l.invariant.taken_long, few) in
            let now = w.with_client-now.result in
            let here = entry_is l.taken l.set now room in
            let same = entry_other l.taken l.set now room in (
              values_next _ _ _ l.set _ l.values few
                  (w.value_of.ensures (weighable p f o v _ _ known rooms heads a b l.auto.set few)) known,
              taken_next _ _ _ _ _ f o v rooms (least_asked p f o v) a _ (ap (λ (t : Taken). t.least) here)
                  (λ j n. ap (λ (t : Taken). t.least) (same j n)),
              taken_next _ _ _ _ _ f o v heads (head_asked p f o v) b _ (ap (λ (t : Taken). t.heads) here)
                  (λ j n. ap (λ (t : Taken). t.heads) (same j n)),
            );
      })
    ]

pub returns : goal.returns
returns c =
    let l = c.loop-set in
    let all : l.set ≡ 64 = le_antisymm (l.auto.set-end (omega arith)) c.loop-set-test.false in
    let done = rw all at l.invariant.known in
    λ p. (done p).0
