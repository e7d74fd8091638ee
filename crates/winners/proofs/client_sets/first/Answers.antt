-- `client_sets::first` meets its contract. The zeros below a set's lowest bit are as many as the clients before its first. Assumes nothing.
use mathlib.Core.Path.{refl}
use Rattle.winners.proofs.ClientSets.{first_is}
use Rattle.winners.proofs.client_sets.first.Goals as goal

pub returns : goal.returns
returns c = first_is _ _ c.requires.0 c.requires.1 refl
