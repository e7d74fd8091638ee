-- `limit::bids_of` meets its contract. Assumes nothing.
use Rattle.std.proofs.Common.{rules, ◌≡◌, ◌∙◌, sum_by}
use lib.Dec.{eqb}
use mir.Val.{bool_byte}
use Rattle.book.specs.Room.{named}
use Rattle.book.proofs.Tally.{ones_counted}
use Rattle.book.proofs.limit.bids_of.Goals as goal

pub returns : goal.returns
unfolding named
returns c =
    let who = c.args.who in
    let ones : c.sum.result ≡ sum_by (λ x. bool_byte (eqb x who)) c.args.clients.now = search rules in
    ones ∙ ones_counted (λ x. eqb x who) c.args.clients.now
