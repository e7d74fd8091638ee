-- What the loop of `Text::push_all` keeps: the bytes before the index are pushed. Assumes nothing.
use Rattle.std.proofs.Common.{◌≡◌, take}
use Rattle.text.specs.Text.{pushes}
use Rattle.text.proofs.Text.push_all.Given as goal

abbrev pub invariant-loop-byte : goal.invariant-loop-byte
invariant-loop-byte l = l.self ≡ pushes l.initial.self (take l.byte-index l.word)
