-- What the loop of `pass::weigh_sets` keeps. Assumes nothing.
use mathlib.Core.Path.{◌≡◌}
use lib.ListN.{length}
use Rattle.winners.specs.Passes.{ValuesTo, Passable, head_hours}
use Rattle.winners.specs.Taken.{taken_at, TakenTo}
use Rattle.winners.proofs.pass.weigh_sets.Given as goal

abbrev pub invariant-loop-set : goal.invariant-loop-set
invariant-loop-set l = record {
  values_long : length l.values ≡ 64;
  taken_long : length l.taken ≡ 64;
  known : (p : Passable l.held l.used l.rows l.leasts) → ValuesTo p.sale.m p.sale.wt p.sale.supply l.set l.values
      × TakenTo p.sale.k p.sale.supply p.sale.least l.held l.set (λ s. (taken_at l.taken s).least)
      × TakenTo p.sale.k p.sale.supply (head_hours p.sale) l.held l.set (λ s. (taken_at l.taken s).heads);
}
