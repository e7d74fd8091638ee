-- `listing::price_list` meets its contract. Assumes nothing.
use Rattle.std.proofs.Common.{◌≡◌, ℕ, ◌≤◌, List, length, take, sym, ap, ◌∙◌, length-take-le, rules, arith}
use Rattle.questions.proofs.Numbers.{number_range}
use Rattle.demands.specs.Call.{call_in}
use Rattle.demands.specs.Answer.{answer_of, refusal}
use Rattle.judge.specs.Judgement.{answer_in}
use Rattle.judge.proofs.Judging.{refused_book}
use Rattle.judge.proofs.Readings.{read_call}
use Rattle.listing.specs.Listing.{accepted_word}
use Rattle.listing.proofs.Listed.{refused_listed, winners_few, accepted_listed}
use Rattle.listing.proofs.price_list.Goals as goal
use Rattle.listing.proofs.price_list.Goals.{After-judge_sound-answer}

pub returns-in-Err : goal.returns-in-Err
unfolding refusal
returns-in-Err c =
    let positive = (number_range c.in-Err.question).0 in
    let answer = refused_book (call_in _) _ c.in-Err.ensures.numbered positive in
    refused_listed _ (refusal _) answer _ positive (rw c.into.ensures at c.refused.ensures)

-- the answer over the book that was read is that to the input
answer : (c : After-judge_sound-answer) → answer_in c.judge_sound-answer.result ≡ answer_of (call_in c.args.input.now)
answer c =
    (rw c.from.ensures at c.judge_sound-answer.ensures.fields)
    ∙ ap answer_of (read_call _ _ c.in-Ok.ensures)

pub returns-then-answer-gt0 : goal.returns-then-answer-gt0
returns-then-answer-gt0 c =
    refused_listed _ _ (answer (goal.at.returns-then-answer-gt0 c).After-judge_sound-answer) _ c.if-answer-gt0.true
    c.refused-then-answer-gt0.ensures

-- the first w of six bids are w
first_of : (w : ℕ) (bids : List ℕ) → w ≤ 6 → length bids ≡ 6 → (w ≤ length bids) × (w ≡ length (take w bids))
first_of w bids few long = let within : w ≤ length bids = omega arith in (within, sym (length-take-le w bids within))

pub slice_bounds-bids-end : goal.slice_bounds-bids-end
slice_bounds-bids-end c =
    let few = winners_few _ _ (answer (goal.at.slice_bounds-bids-end c).After-judge_sound-answer) c.if-answer-gt0.false in
    (first_of _ _ few (search rules)).0

pub slice_bounds-winning-end : goal.slice_bounds-winning-end
slice_bounds-winning-end c =
    let few = winners_few _ _ (answer (goal.at.slice_bounds-winning-end c).After-judge_sound-answer) c.if-answer-gt0.false in
    (first_of _ _ few (search rules)).1

pub returns : goal.returns
unfolding accepted_word
returns c =
    accepted_listed _ _ (answer (goal.at.returns c).After-judge_sound-answer) c.if-answer-gt0.false _ _ _ c.in-Ok.ensures
    c.from.ensures c.bids_of-bids.ensures (search rules) _ _
    (rw (c.from-2.ensures, c.from-3.ensures) at c.first_line-list.ensures) c.push_winners.ensures
