-- `weighing::weigh_sound` meets its contract. Assumes nothing.
use borrow.Author.Rules.{rules}
use native.Mathlib.Omega.{arith}
use mathlib.Core.Path.{◌≡◌, refl, sym, ap, ◌∙◌}
use mathlib.Core.Bool.{true}
use mathlib.Core.List.{List}
use Prim.Native.Nat.{ℕ, ◌≤◌}
use lib.ListN.{length, take}
use Rattle.book.specs.Value.{book_of}
use Rattle.book.proofs.Held.{held_shaped, sound_held}
use Rattle.winners.specs.Surpluses.{surplus_table}
use Rattle.winners.specs.Weighed.{choice_good, owners_of}
use Rattle.winners.proofs.Owners.{owners_length, owners_take, owners_listed}
use Rattle.winners.proofs.SetValues.{all_value}
use Rattle.winners.proofs.WeighedAnswers.{chosen_bids, weighed_none, weighed_less, weighed_found}
use Rattle.winners.proofs.weighing.weigh_sound.Goals as goal
use Rattle.winners.proofs.weighing.weigh_sound.Goals.{After-owners_of-clients, Else-not-is_choice}

-- the bids are a combination by rising client
good : (c : Else-not-is_choice) → choice_good (book_of c.args.sound.book.now) c.args.bids.now ≡ true
good c = sym c.is_choice.ensures ∙ c.if-not-is_choice.false

few : (c : Else-not-is_choice) → length c.args.bids.now ≤ 6
few c = (chosen_bids _ (held_shaped _) _ (good c)).few

pub returns-then-not-is_choice : goal.returns-then-not-is_choice
returns-then-not-is_choice c =
    weighed_none _ (held_shaped _) _ _ refl (sym c.is_choice.ensures ∙ c.if-not-is_choice.true)

pub value_of-worth-requires : goal.value_of-worth-requires
value_of-worth-requires c = few c

pub returns-then-worth-value : goal.returns-then-worth-value
returns-then-worth-value c =
    let sound = c.args.sound.sound in
    let v = all_value _ (sound_held _ sound) 0 _ c.weigh_all-values.ensures in
    weighed_less _ (held_shaped _) _ _ refl (good (goal.at.returns-then-worth-value c).Else-not-is_choice)
    (λ e. c.if-worth-value.true (c.value_of-worth.ensures ∙ e ∙ sym v))

pub owners_of-clients-requires : goal.owners_of-clients-requires
owners_of-clients-requires c = few (goal.at.owners_of-clients-requires c).Else-not-is_choice

pub slice_bounds-clients-end : goal.slice_bounds-clients-end
slice_bounds-clients-end c =
    let long : length c.owners_of-clients.result ≡ 6 = search rules in
    omega (arith, long, few (goal.at.slice_bounds-clients-end c).Else-not-is_choice)

-- the array of clients, cut to the winners
cut : (c : After-owners_of-clients) → length c.args.bids.now ≤ 6
    → take (length c.args.bids.now) c.owners_of-clients.result ≡ owners_of (book_of c.args.sound.book.now) c.args.bids.now
cut c most =
    let bids = c.args.bids.now in
    ap (λ (cs : List ℕ). take (length bids) cs) c.owners_of-clients.ensures ∙ owners_take (book_of c.args.sound.book.now) bids most

pub slice_bounds-sigma_by-end : goal.slice_bounds-sigma_by-end
slice_bounds-sigma_by-end c =
    rw (cut (goal.at.slice_bounds-sigma_by-end c).After-owners_of-clients (few (goal.at.slice_bounds-sigma_by-end c).Else-not-is_choice))
    (sym (owners_length (book_of c.args.sound.book.now) c.args.bids.now))

pub sigma_by-sigma-requires : goal.sigma_by-sigma-requires
sigma_by-sigma-requires c =
    let here = goal.at.sigma_by-sigma-requires c in
    let is = chosen_bids _ (held_shaped _) _ (good here.Else-not-is_choice) in
    rw (cut here.After-owners_of-clients is.few)
    (owners_listed _ _ (sound_held _ c.args.sound.sound) is.few is.combination is.rising)

pub returns : goal.returns
returns c =
    let here = goal.at.returns c in
    let sound = c.args.sound.sound in
    let values = c.weigh_all-values.ensures in
    let v = all_value _ (sound_held _ sound) 0 _ values in
    weighed_found _ (held_shaped _) _ _ refl (good here.Else-not-is_choice) (sym c.value_of-worth.ensures ∙ c.if-worth-value.false ∙ v) _ v
    c.owners_of-clients.ensures
    (c.sigma_by-sigma.ensures _ (sound_held _ sound) values
    ∙ ap (λ (cs : List ℕ). surplus_table (book_of c.args.sound.book.now) cs)
    (cut here.After-owners_of-clients (few here.Else-not-is_choice)))
