-- What the loop of `client_sets::of_those` keeps: the set of the places passed of which the test holds. Assumes nothing.
use mathlib.Core.Path.{◌≡◌}
use mathlib.Core.Bool.{Bool}
use Prim.Native.Nat.{ℕ, ◌+◌, ◌-◌, ◌^◌, ◌<◌}
use Rattle.sets.specs.Sets.{set_of}
use Rattle.winners.proofs.client_sets.of_those.Given as goal

abbrev pub invariant-loop-j : goal.invariant-loop-j
invariant-loop-j g l = record {
  few : l.set < 2 ^ (6 - l.j);
  is : (p : ℕ → Bool) → ((j : ℕ) (r : Bool) → j < 6 → goal.F-post g l.is_in j r → r ≡ p j)
      → l.set ≡ set_of (6 - l.j) (λ i. p (l.j + i));
}
