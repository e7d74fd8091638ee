-- `lists::discards` meets its contract. The loop keeps the entries of the sets of the clients passed. Assumes nothing.
use borrow.Author.Rules.{rules}
use Prim.Native.Nat.{◌≤◌}
use native.Mathlib.Omega.{arith}
use lib.ListN.{get_or}
use Rattle.winners.proofs.Picks.{listed_range}
use Rattle.winners.proofs.Doubling.{bytes_none, bytes_room, bytes_next, bytes_done}
use Rattle.winners.proofs.lists.discards.Goals as goal
use Rattle.winners.proofs.lists.discards.Goals.{In-loop-j}

pub loop-j-init : goal.loop-j-init
loop-j-init c = (search rules, bytes_none c.args.clients.now)

-- the client at hand is one of 1 to 6
client : (c : In-loop-j) → let x = get_or c.args.clients.now c.loop-j.j 0 in (1 ≤ x) × (x ≤ 6)
client c = listed_range c.args.clients.now c.loop-j.j c.requires c.loop-j-test.true

pub double-requires : goal.double-requires
double-requires c =
    let l = c.loop-j in
    bytes_room c.args.clients.now c.requires l.j (omega arith) _ l.invariant.1 l.invariant.0

pub loop-j-preserved : goal.loop-j-preserved
loop-j-preserved c =
    let l = c.loop-j in
    (c.double.ensures.long, bytes_next c.args.clients.now c.requires l.j (omega arith) _ l.invariant.1 _ c.double.ensures.doubled)

pub returns : goal.returns
returns c =
    let l = c.loop-j in
    bytes_done c.args.clients.now l.j l.discards (omega arith) l.invariant.1

pub overflow_sub-client : goal.overflow_sub-client
overflow_sub-client c = (client (goal.at.overflow_sub-client c).In-loop-j).0

pub overflow_shl-client : goal.overflow_shl-client
overflow_shl-client c = omega (arith, client (goal.at.overflow_shl-client c).In-loop-j)
