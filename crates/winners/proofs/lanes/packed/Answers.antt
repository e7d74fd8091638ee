-- `lanes::packed` meets its contract. Assumes nothing.
use borrow.Author.Rules.{rules}
use native.Mathlib.Omega.{arith}
use Rattle.winners.proofs.LanesPacked.{LaneEntries, packed_entries}
use Rattle.winners.proofs.lanes.packed.Goals as goal

pub returns : goal.returns
returns c =
    let xs = c.args.asked in
    let four : LaneEntries xs _ _ _ _
    = record {
      long = search rules;
      first = (c.from.ensures, omega arith);
      second = (c.from-2.ensures, omega arith);
      third = (c.from-3.ensures, omega arith);
      fourth = (c.from-4.ensures, omega arith);
    } in
    let (packs, few, bytes) = packed_entries xs _ _ _ _ four c.args.k _ c.lanes_to.ensures in
    (packs, few, bytes, four.long)
