-- The values of the sets passed: where the pass begins, one set more, a set of which some client has no bid, and where nobody has one.
-- Cited by the proofs of src/pass.rt. Assumes nothing.
use mathlib.Core.Path.{◌≡◌, sym, ap, ◌∙◌}
use mathlib.Core.List.{List}
use Prim.Native.Nat.{ℕ, ◌+◌, ◌<◌}
use native.Mathlib.Omega.{arith}
use lib.Bits.{bit_and, and_zero_r}
use lib.ListN.{get_or, set, replicate, length-replicate}
use Rattle.sets.proofs.Filled.{filled_next, zeros_at}
use Rattle.market.specs.Market.{Market}
use Rattle.market.specs.Members.{reach}
use Rattle.winners.specs.ClientSets.{clients_in}
use Rattle.winners.specs.Passes.{IdleBut, ValuesTo}
use Rattle.winners.proofs.ClientSets.{clients_none, reach_held}

pub values_first : (m : Market) (wt : ℕ → ℕ) (supply : List ℕ) → ValuesTo m wt supply 1 (replicate 64 0)
unfolding reach
values_first m wt supply = record {
  long = length-replicate {A = ℕ} 64 0;
  below = λ s l. let z : s ≡ 0 = omega arith in rw (z, zeros_at 64 0, clients_none);
  above = λ s l. zeros_at 64 s;
}

pub values_next : (m : Market) (wt : ℕ → ℕ) (supply : List ℕ) (n v : ℕ) (values : List ℕ) → n < 64
    → v ≡ reach m wt (clients_in n) supply → ValuesTo m wt supply n values → ValuesTo m wt supply (n + 1) (set values n v)
values_next m wt supply n v values l e h =
    let next = filled_next 64 (λ s. reach m wt (clients_in s) supply) n values v l e
    (record { long = h.long; below = h.below; above = h.above }) in
    record { long = next.long; below = next.below; above = next.above }

-- clients without a bid are left out
pub value_left : (m : Market) (wt : ℕ → ℕ) (supply : List ℕ) (held set some : ℕ) (values : List ℕ) → IdleBut m held
    → ValuesTo m wt supply set values → some ≡ bit_and set held → some < set → get_or values some 0 ≡ reach m wt (clients_in set) supply
value_left m wt supply held set some values idle known e l =
    known.below some l ∙ ap (λ (s : ℕ). reach m wt (clients_in s) supply) e ∙ sym (reach_held m wt held idle set supply)

-- where nobody has a bid, every value is 0
pub values_none : (m : Market) (wt : ℕ → ℕ) (supply : List ℕ) (held : ℕ) → held ≡ 0 → IdleBut m held
    → ValuesTo m wt supply 64 (replicate 64 0)
unfolding reach
values_none m wt supply held z idle = record {
  long = length-replicate {A = ℕ} 64 0;
  below = λ s l. zeros_at 64 s ∙ sym (reach_held m wt held idle s supply ∙ (rw (z, and_zero_r s, clients_none)));
  above = λ s l. zeros_at 64 s;
}
