-- `client_sets::of_those` meets its contract. The loop goes from the last place down, so that the set doubles with each. Assumes nothing.
use mathlib.Core.Path.{refl, ap, ◌∙◌}
use Prim.Native.Nat.{ℕ, ◌+◌, ◌*◌, ◌-◌}
use native.Mathlib.Omega.{arith}
use Rattle.sets.specs.Sets.{set_of}
use Rattle.winners.proofs.SetFromLast.{bit_is, from_last_next, from_last_few, from_last_all}
use Rattle.winners.proofs.client_sets.of_those.Goals as goal

pub loop-j-init : goal.loop-j-init
unfolding set_of
loop-j-init g c = record { few = omega arith; is = λ p each. refl }

pub is_in-requires : goal.is_in-requires
is_in-requires g c = c.requires _ (omega arith)

pub loop-j-preserved : goal.loop-j-preserved
loop-j-preserved g c =
    let l = c.loop-j in
    let now = ap (λ (x : ℕ). x + 2 * l.set) (c.from.ensures ∙ bit_is c.is_in.result) in record {
      few = from_last_few 6 l.j l.set _ c.is_in.result c.loop-j-test.true l.auto.j l.invariant.few now;
      is = λ p each.
          from_last_next 6 p l.j l.set _ c.is_in.result c.loop-j-test.true l.auto.j (l.invariant.is p each)
          (each (l.j - 1) c.is_in.result (omega arith) c.is_in.ensures) now;
    }

pub returns : goal.returns
returns g c p each = from_last_all 6 c.loop-j.j _ p (omega (arith, c.loop-j-test.false)) (c.loop-j.invariant.is p each)
