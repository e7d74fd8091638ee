-- `filling::fill_bids` meets its contract. Assumes nothing.
use mathlib.Core.Path.{◌≡◌, refl, ap, ◌∙◌}
use Prim.Native.Nat.{◌+◌, ◌*◌, ◌<◌, ◌≤◌}
use native.Mathlib.Omega.{arith}
use lib.ListN.{length, get_or}
use Rattle.sets.proofs.Filled.{filled_none, filled_next}
use Rattle.book.specs.Book.{Bid, no_bid}
use Rattle.book.specs.Layout.{k_of, m_of, bid_here, book_in}
use Rattle.book.specs.Reading.{hours_entry, arrays_of}
use Rattle.book.proofs.ByKind.{numbers_first}
use Rattle.book.proofs.Entered.{
  bytes_of_bid,
  bid_room,
  bid_read,
  hours_read,
  client_past,
  hours_past,
  amount_past,
  filled_row,
}
use Rattle.book.proofs.Inside.{laid}
use Rattle.book.proofs.Whole.{filled_whole, bids_written, bids_same}
use Rattle.book.proofs.filling.fill_bids.Goals as goal
use Rattle.book.proofs.filling.fill_bids.Goals.{In-loop-i}

pub loop-i-init : goal.loop-i-init
loop-i-init c = record {
  others = refl;
  clients = rw c.requires.clients (filled_none 48 _);
  hours = rw c.requires.hours (filled_none 48 _);
  amounts = rw c.requires.amounts (filled_none 48 _);
}

-- the bid at hand is one of the book's, and has room
kinds : (c : In-loop-i) → c.from-k.result ≡ k_of c.args.input.now
kinds c = c.from-k.ensures ∙ c.kinds.ensures

numbered : (c : In-loop-i) → (c.loop-i.i < m_of c.args.input.now) × (m_of c.args.input.now ≤ 48)
numbered c = (omega (arith, c.loop-i-test.true), (laid _ c.requires.counts).room.bids)

room : (c : In-loop-i) → c.bids_from-from.result + (c.loop-i.i + 1) * (c.from-k.result + 5) ≤ length c.args.input.now
room c = bid_room _ _ _ (kinds c) c.bids_from-from.ensures.place c.loop-i.i c.requires.counts (numbered c).0

pub slice_bounds-bid-end : goal.slice_bounds-bid-end
slice_bounds-bid-end c = room c

pub bounds-book-i : goal.bounds-book-i
bounds-book-i c = omega (arith, numbered (goal.at.bounds-book-i c).In-loop-i)

pub bounds-book-i-in-loop-i : goal.bounds-book-i-in-loop-i
bounds-book-i-in-loop-i c = omega (arith, numbered (goal.at.bounds-book-i-in-loop-i c).In-loop-i)

pub bounds-book-i-in-loop-i-2 : goal.bounds-book-i-in-loop-i-2
bounds-book-i-in-loop-i-2 c = omega (arith, numbered (goal.at.bounds-book-i-in-loop-i-2 c).In-loop-i)

-- what stands in its bytes
read : (c : In-loop-i) → let bs = c.args.input.now in let i = c.loop-i.i in
    bid_here c.from-k.result 0 (bytes_of_bid bs c.from-k.result c.bids_from-from.result (kinds c) c.bids_from-from.ensures.place i)
    ≡ get_or (book_in c.args.input.now).bids i no_bid
read c = bid_read c.args.input.now _ _ (kinds c) c.bids_from-from.ensures.place c.loop-i.i (numbered c).0

pub loop-i-preserved : goal.loop-i-preserved
unfolding bid_here hours_entry
loop-i-preserved c =
    let at = (goal.at.loop-i-preserved c).In-loop-i in
    let kept = c.loop-i.invariant in
    let i = c.loop-i.i in
    let inside : i < 48 = omega (arith, numbered at) in
    let read = read at in
    let place : c.from-k.result + 1 ≡ 0 + (c.from-k.result + 1) = omega arith in
    let amount = rw place at c.four_in.ensures in
    let hours = numbers_first _ _ _ (omega arith) c.first_of.ensures ∙ hours_read _ _ in
    record {
      others = bids_written _ c.args.book.now kept.others _ _ _;
      clients = filled_next 48 _ i _ _ inside (ap (λ (x : Bid). x.client) read) kept.clients;
      hours = filled_next 48 _ i _ _ inside (hours ∙ ap (λ (x : Bid). hours_entry x.hours) read) kept.hours;
      amounts = filled_next 48 _ i _ _ inside (amount ∙ ap (λ (x : Bid). x.amount) read) kept.amounts;
    }

pub returns : goal.returns
unfolding arrays_of
returns c =
    let kept = c.loop-i.invariant in
    let past : m_of c.args.input.now ≤ c.loop-i.i = omega (arith, c.loop-i-test.false) in
    bids_same _ c.args.book.now kept.others _ _ _
    (filled_whole 48 _ _ _ kept.clients (λ j l. client_past _ j (omega arith)))
    (filled_row 48 _ _ _ kept.hours (λ j l. hours_past _ j (omega arith)))
    (filled_whole 48 _ _ _ kept.amounts (λ j l. amount_past _ j (omega arith)))
