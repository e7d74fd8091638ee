-- `pass::weigh_all` meets its contract. Assumes nothing.
use mathlib.Core.List.{List}
use Prim.Native.Nat.{ℕ}
use lib.ListN.{length}
use Rattle.book.specs.Book.{Book, supplies}
use Rattle.book.specs.Sound.{Sound}
use Rattle.book.specs.Value.{book_of}
use Rattle.book.proofs.Held.{sound_held}
use Rattle.winners.specs.Combinations.{amount_of}
use Rattle.winners.specs.Passes.{Passable}
use Rattle.winners.specs.Rows.{searched}
use Rattle.winners.specs.Trims.{TrimmedTo}
use Rattle.winners.specs.declared.row.Row.{Row}
use Rattle.winners.proofs.HeldBids.{supply_left}
use Rattle.winners.proofs.LaidOut.{least_of, head_of, leasts_laid, idle_but, laid_out, heads_there, heads_heaviest, heads_weigh, heads_ask}
use Rattle.winners.proofs.SetAfterSet.{values_none}
use Rattle.winners.proofs.pass.weigh_all.Goals as goal
use Rattle.winners.proofs.pass.weigh_all.Goals.{After-held_in-held}

pub fill-requires : goal.fill-requires
fill-requires c =
    let v = c.args.sound.book.now in
    let found = rw c.supplies.ensures at c.used-used.ensures in
    supply_left (book_of v) (sound_held v c.args.sound.sound).k_high _ found.0 found.2

-- the rows that are weighed
module _ (c : After-held_in-held) where
  abbrev b : Book
  b = book_of c.args.sound.book.now

  sound : Sound b
  sound = sound_held c.args.sound.book.now c.args.sound.sound

  abbrev rows : List Row
  rows = c.settle_all-leasts.new.rows

  abbrev numbers : List ℕ
  numbers = c.settle_all-leasts.result

  trims : TrimmedTo (searched b c.args.discard) (amount_of b) (length b.kinds) (length b.bids) 7 rows numbers
  trims = c.settle_all-leasts.ensures _ _ _ _ sound.k_high c.fill.ensures

  abbrev least : ℕ → List ℕ
  least = least_of b sound c.args.discard rows numbers trims

  passable : Passable c.held_in-held.result c.used-used.result rows numbers
  passable = record {
    sale = record {
      m = searched b c.args.discard;
      wt = amount_of b;
      k = length b.kinds;
      supply = supplies b;
      least = least;
      head = head_of b sound c.args.discard rows numbers trims;
      laid = laid_out b sound c.args.discard rows numbers trims;
    };
    idle = idle_but b sound c.args.discard rows numbers trims _ c.held_in-held.ensures;
    left =
        let found = rw c.supplies.ensures at c.used-used.ensures in
        supply_left b sound.k_high _ found.0 found.2;
    leasts = leasts_laid b sound c.args.discard rows numbers trims;
    headed = λ t l u on. record {
      some = heads_there b sound c.args.discard rows numbers trims _ c.held_in-held.ensures t l u on;
      heaviest = heads_heaviest b sound c.args.discard rows numbers trims _ c.held_in-held.ensures t l u on;
      weighs = heads_weigh b sound c.args.discard rows numbers trims _ c.held_in-held.ensures t l u on;
    };
    heads_asked = heads_ask b sound c.args.discard rows numbers trims _ c.held_in-held.ensures _ c.fill.ensures;
  }

pub returns-then-held-eq0 : goal.returns-then-held-eq0
unfolding passable
returns-then-held-eq0 c = values_none _ _ _ _ c.if-held-eq0.true (passable (goal.at.returns-then-held-eq0 c).After-held_in-held).idle

pub weigh_sets-requires : goal.weigh_sets-requires
weigh_sets-requires c = passable (goal.at.weigh_sets-requires c).After-held_in-held

pub returns : goal.returns
unfolding passable
returns c = c.weigh_sets.ensures (passable (goal.at.returns c).After-held_in-held)
