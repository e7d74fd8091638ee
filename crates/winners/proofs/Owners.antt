-- The clients of bids that are a combination by rising client, as the list whose sets are weighed. Cited by the proof of src/weighing.rt
-- and by WeighedAnswers.antt. Assumes nothing.
use mathlib.Core.Path.{◌≡◌, refl, sym, ap, ◌∙◌}
use mathlib.Core.Bool.{true, ◌&&◌, and-eq-true_iff}
use mathlib.Core.List.{List, [], ◌∷◌, map}
use Prim.Native.Nat.{ℕ, suc, ◌≤◌, ◌<◌}
use native.Mathlib.Nat.{le_trans, le_of_eq}
use native.Mathlib.Omega.{arith}
use borrow.Author.Tests.{le-leb, lt-ltb}
use lib.Dec.{leb, ltb}
use lib.ListN.{length, take, length-map}
use lib.Seq.{take-take, take_at}
use Rattle.std.proofs.lemmas.List.{get_or-map}
use Rattle.market.specs.Market.{at}
use Rattle.market.specs.Combination as Market·
use Rattle.book.specs.Book.{Book, client_of, clients}
use Rattle.book.specs.Sound.{Sound}
use Rattle.winners.specs.Combinations.{market, Combination, Rising}
use Rattle.winners.specs.Surpluses.{rising_to}
use Rattle.winners.specs.Weighed.{owners_of, six}
use Rattle.winners.specs.ClientLists.{RisingList}
use Rattle.winners.proofs.Picks.{rising_more}

-- clients that rise between c and n pass the list's test
rising_true : (n c : ℕ) (xs : List ℕ) → ((j : ℕ) → j < length xs → (c < at xs j) × (at xs j ≤ n))
    → ((j k : ℕ) → j < k → k < length xs → at xs j < at xs k) → rising_to n c xs ≡ true
unfolding rising_to
rising_true n c [] h r = refl
rising_true n c (x ∷ xs) h r =
    let first = h 0 (omega arith) in
    let here = (and-eq-true_iff (ltb c x) (leb x n)).1 (lt-ltb c x first.0, le-leb x n first.1) in
    (and-eq-true_iff (ltb c x && leb x n) _).1 (
      here,
      rising_true n x xs (λ j l. (r 0 (suc j) (omega arith) (omega arith), (h (suc j) (omega arith)).1))
          (λ j k l m. r (suc j) (suc k) (omega arith) (omega arith)),
    )

module _ (b : Book) (bids : List ℕ) where
  pub owners_length : length (owners_of b bids) ≡ length bids
  unfolding owners_of
  owners_length = length-map bids (client_of b)

  -- the array of clients, cut to as many as there are
  pub owners_take : length bids ≤ 6 → take (length bids) (six (owners_of b bids)) ≡ owners_of b bids
  unfolding six
  owners_take few = take-take (length bids) 6 _ few ∙ take_at _ _ (length bids) owners_length

  owners_rise : Combination b bids → Rising b bids → rising_to (clients b) 0 (owners_of b bids) ≡ true
  unfolding owners_of market Market·.Rising
  owners_rise c r =
      let e = length-map bids (client_of b) in
      let client : (j : ℕ) → j < length bids → at (map (client_of b) bids) j ≡ client_of b (at bids j)
      = λ j l. get_or-map (client_of b) bids j 0 0 l in
      rising_true (clients b) 0 (map (client_of b) bids)
      (λ j l. let there = le_trans l (le_of_eq e) in
      (le_trans (c.owners j there).0 (le_of_eq (sym (client j there))), le_trans (le_of_eq (client j there)) (c.owners j there).1))
      (λ j k l h. let there = le_trans h (le_of_eq e) in
      let before : j < length bids = omega (arith, there) in
      le_trans (le_of_eq (ap suc (client j before))) (le_trans (r j k l there) (le_of_eq (sym (client k there)))))

  pub owners_listed : Sound b → length bids ≤ 6 → Combination b bids → Rising b bids → RisingList (owners_of b bids)
  owners_listed s few c r = record {
    few = omega (arith, owners_length);
    rising = rising_more (clients b) 6 0 _ s.n_high (owners_rise c r);
  }
