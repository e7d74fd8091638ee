-- The test of a list of bids: its first bid as the code tests it, and what that bid leaves; and the sum of the bids' amounts. What four
-- kinds ask for and leave is cut to the book's own. Cited by the proofs of src/choice.rt. Assumes nothing.
use mathlib.Core.Path.{◌≡◌, refl, sym, ap, ◌∙◌}
use mathlib.Core.Bool.{Bool, true, false, ◌&&◌, and_assoc, and-eq-true_iff}
use mathlib.Core.List.{List, [], ◌∷◌}
use Prim.Native.Nat.{ℕ, zero, suc, ◌+◌, ◌≤◌, ◌<◌}
use native.Mathlib.Decide.{dec_lt}
use native.Mathlib.Omega.{arith}
use borrow.Author.Tests.{ltb-true, le-leb}
use lib.Dec.{leb, ltb}
use lib.ListN.{length, get_or, take, get_or-eq_default}
use lib.Seq.{ext_get_or, get_or-take, length-take-le}
use Rattle.std.proofs.Common.{sum_by}
use Rattle.std.proofs.lemmas.List.Sums.{sum_by-cons}
use Rattle.market.specs.Market.{fits, less}
use Rattle.market.specs.Combination.{rising_from, worth}
use Rattle.market.proofs.Hours.{fits_at, fits_if, less_at, less_length}
use Rattle.book.specs.Lists.{row}
use Rattle.book.specs.Book.{Book, Bid, no_bid, bid_at, client_of, clients, standing}
use Rattle.book.specs.Sound.{Shaped}
use Rattle.winners.specs.ByKind.{by_kind}
use Rattle.winners.specs.Combinations.{market}
use Rattle.winners.proofs.Books.{standing_client}
use Rattle.winners.proofs.KindEntries.{kinds_at}

-- the weights of the bids, as a sum
pub worth_sum : (wt : ℕ → ℕ) (is : List ℕ) → sum_by wt is ≡ worth wt is
unfolding worth
worth_sum wt [] = refl
worth_sum wt (i ∷ is) = sum_by-cons wt i is ∙ ap (λ (x : ℕ). wt i + x) (worth_sum wt is)

-- two tests that follow from each other
same_test : (a b : Bool) → (a ≡ true → b ≡ true) → (b ≡ true → a ≡ true) → a ≡ b
same_test true b f g = sym (f refl)
same_test false true f g = g refl
same_test false false f g = refl

-- HOURS of at most k kinds against four of which the first k count
by_kind_at : (xs : List ℕ) (j : ℕ) → j < 4 → get_or (by_kind xs) j 0 ≡ get_or xs j 0
unfolding row
by_kind_at xs = kinds_at (λ j. get_or xs j 0) _ _ _ _ refl refl refl refl

module _ (k : ℕ) (few : k ≤ 4) (hs left : List ℕ) (short : length hs ≤ k) (long : length left ≡ 4) where
  cut : length (take k left) ≡ k
  cut = length-take-le k left (omega arith)

  past : (j : ℕ) → k ≤ j → get_or hs j 0 ≡ 0
  past j l = get_or-eq_default hs 0 {n = j} (omega arith)

  fits_cut : fits (by_kind hs) left ≡ fits hs (take k left)
  unfolding row
  fits_cut = same_test _ _
      (λ f. fits_if hs (take k left) (omega (arith, cut)) (λ j l. omega (
        arith,
        cut,
        fits_at (by_kind hs) left f j,
        by_kind_at hs j (omega (arith, cut)),
        get_or-take k left j 0 (omega (arith, cut)),
      )))
      (λ f. fits_if (by_kind hs) left (omega arith) (λ j l. elim (dec_lt j k) [
        | yes m ↦ omega (arith, fits_at hs (take k left) f j, by_kind_at hs j (omega arith), get_or-take k left j 0 m)
        | no m ↦ omega (arith, by_kind_at hs j (omega arith), past j (omega arith))
      ]))

  less_cut : take k (less left (by_kind hs)) ≡ less (take k left) hs
  less_cut =
      let whole = length-take-le k (less left (by_kind hs)) (omega (arith, less_length left (by_kind hs))) in
      ext_get_or 0 _ _ (whole ∙ sym (less_length (take k left) hs ∙ cut)) (λ j l. let inside : j < k = omega (arith, whole) in
      omega (
        arith,
        get_or-take k (less left (by_kind hs)) j 0 inside,
        less_at left (by_kind hs) j,
        by_kind_at hs j (omega arith),
        less_at (take k left) hs j,
        get_or-take k left j 0 inside,
      ))

-- THE FIRST BID
module _ (b : Book) where
  -- who has a bid has one of the book's
  bid_there : (i : ℕ) → 1 ≤ client_of b i → (1 ≤ i) × (i ≤ length b.bids)
  unfolding client_of bid_at no_bid
  bid_there zero l = absurd (omega arith)
  bid_there (suc i) l = elim (dec_lt i (length b.bids)) [
    | yes m ↦ (omega arith, omega arith)
    | no m ↦ absurd (omega (arith, ap (λ (x : Bid). x.client) (get_or-eq_default b.bids no_bid {n = i} (omega arith))))
  ]

  -- a client after another that stands is one of the book's, and so is the bid
  named : (c i : ℕ) → (ltb c (client_of b i) && standing b (client_of b i))
      ≡ ((leb 1 i && leb i (length b.bids)) && ((ltb c (client_of b i) && leb (client_of b i) (clients b)) && standing b (client_of b i)))
  named c i = same_test _ _
      (λ t. let (after, stands) = (and-eq-true_iff (ltb c (client_of b i)) _).0 t in
      let (low, high) = bid_there i (omega (arith, ltb-true c (client_of b i) after)) in
      let last = (standing_client b (client_of b i) stands).1 in
      rw (le-leb 1 i low, le-leb i (length b.bids) high, after, le-leb (client_of b i) (clients b) last, stands) refl)
      (λ t. let rest = ((and-eq-true_iff (leb 1 i && leb i (length b.bids)) _).0 t).1 in
      let (known, stands) = (and-eq-true_iff (ltb c (client_of b i) && leb (client_of b i) (clients b)) _).0 rest in
      rw (((and-eq-true_iff (ltb c (client_of b i)) _).0 known).0, stands) refl)

  module _ (shaped : Shaped b) (few : length b.kinds ≤ 4) (c : ℕ) (left : List ℕ) (long : length left ≡ 4) (i : ℕ) (is : List ℕ) where
    abbrev hours : List ℕ
    hours = by_kind (bid_at b i).hours

    -- the test of the list is the test of its first bid, and that of the rest
    pub choice_next : rising_from (market b) (clients b) c (take (length b.kinds) left) (i ∷ is)
        ≡ (((ltb c (client_of b i) && standing b (client_of b i)) && fits hours left)
        && rising_from (market b) (clients b) (client_of b i) (take (length b.kinds) (less left hours)) is)
    unfolding rising_from market
    choice_next =
        let k = length b.kinds in
        rw (less_cut k few (bid_at b i).hours left (shaped i) long, fits_cut k few (bid_at b i).hours left (shaped i) long, named c i)
        (sym (and_assoc
        ((leb 1 i && leb i (length b.bids)) && ((ltb c (client_of b i) && leb (client_of b i) (clients b)) && standing b (client_of b i)))
        (fits (bid_at b i).hours (take k left))
        (rising_from (market b) (clients b) (client_of b i) (less (take k left) (bid_at b i).hours) is)))
