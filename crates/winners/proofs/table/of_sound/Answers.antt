-- `table::of_sound` meets its contract. Assumes nothing.
use mathlib.Core.Path.{◌≡◌, refl, sym, ◌∙◌}
use mathlib.Core.Bool.{Bool, true, ◌&&◌}
use mathlib.Core.List.{List}
use Prim.Native.Nat.{ℕ}
use lib.Dec.{leb}
use lib.ListN.{length}
use Rattle.book.specs.Value.{book_of, sound_number}
use Rattle.book.specs.declared.value.Book.{Book as Arrays}
use Rattle.book.proofs.Held.{held_shaped, sound_held}
use Rattle.winners.specs.ClientLists.{RisingList}
use Rattle.winners.specs.Surpluses.{rising_to, list_good}
use Rattle.winners.proofs.HeldBids.{clients_are}
use Rattle.winners.proofs.SetValues.{all_value}
use Rattle.winners.proofs.SigmaAnswers.{good_listed, surpluses_none, surpluses_found}
use Rattle.winners.proofs.table.of_sound.Goals as goal
use Rattle.winners.proofs.table.of_sound.Goals.{Else-not-is_rising}

-- the test of the list is that of its definition
tested : (v : Arrays) → sound_number v ≡ 0 → (cs : List ℕ) (n : ℕ) (t : Bool) → n ≡ v.n → t ≡ (leb (length cs) 6 && rising_to n 0 cs)
    → t ≡ list_good (book_of v) cs
unfolding list_good
tested v sound cs n t en et = rw (clients_are v sound, ← en) et

good : (c : Else-not-is_rising) → list_good (book_of c.args.sound.book.now) c.args.clients.now ≡ true
good c = sym (tested _ c.args.sound.sound _ _ _ c.from.ensures c.is_rising.ensures) ∙ c.if-not-is_rising.false

listed : (c : Else-not-is_rising) → RisingList c.args.clients.now
listed c = good_listed _ (sound_held _ c.args.sound.sound) _ (good c)

pub returns-then-not-is_rising : goal.returns-then-not-is_rising
returns-then-not-is_rising c =
    surpluses_none _ _ _ refl (sym (tested _ c.args.sound.sound _ _ _ c.from.ensures c.is_rising.ensures) ∙ c.if-not-is_rising.true)

pub sigma_by-sigma-requires : goal.sigma_by-sigma-requires
sigma_by-sigma-requires c = listed (goal.at.sigma_by-sigma-requires c).Else-not-is_rising

pub returns : goal.returns
returns c =
    let sound = sound_held _ c.args.sound.sound in
    let here = (goal.at.returns c).Else-not-is_rising in
    let values = c.weigh_all-values.ensures in
    surpluses_found _ _ _ refl (held_shaped _) (listed here).few (good here) _ _ (all_value _ sound 0 _ values)
    (c.sigma_by-sigma.ensures _ sound values)
