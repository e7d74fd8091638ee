-- A market of which only some clients are kept: keeping twice is keeping those kept both times, its combinations are those of the market
-- whose clients are kept, and its value is no larger. proofs/Kept.antt and the layers above cite it where clients are discarded.
-- Assumes nothing.
use mathlib.Core.Path.{◌≡◌, refl, sym, ◌∙◌, ap, subst}
use mathlib.Core.Bool.{Bool, true, ◌&&◌, and_assoc, and_comm, and-true, and-eq-true_iff}
use mathlib.Core.List.{List}
use mathlib.Core.Logic.{◌↔◌}
use Prim.Native.Nat.{ℕ, ◌≤◌, ◌<◌}
use native.Mathlib.Nat.{le_refl}
use lib.ListN.{length}
use Rattle.market.specs.Market.{Market, at}
use Rattle.market.specs.Combination.{Combination, Greatest}
use Rattle.market.specs.Restrict.{only}
use Rattle.market.proofs.Parts.{Candidate}
use Rattle.market.proofs.Compare.{Carries, combination_carried, greatest_carried, greatest_more_bids, covers_itself}

-- three tests, the last two the other way round
and_swap : (a b c : Bool) → (a && b && c) ≡ (a && (c && b))
and_swap a b c = and_assoc a b c ∙ ap (λ (t : Bool). a && t) (and_comm b c)

-- keeping twice is keeping those kept both times
pub only_only : (keep keep' : ℕ → Bool) (m : Market) → only keep (only keep' m) ≡ only (λ c. keep c && keep' c) m
only_only keep keep' m =
    λ j. record {
      bids = m.bids;
      owner = m.owner;
      hours = m.hours;
      may = λ i. and_swap (m.may i) (keep' (m.owner i)) (keep (m.owner i)) j;
    }

-- keeping all is keeping the market
pub only_all : (m : Market) → only (λ c. true) m ≡ m
only_all m = λ j. record { bids = m.bids; owner = m.owner; hours = m.hours; may = λ i. and-true (m.may i) j }

-- so keeping twice and keeping once have the same combinations and the same greatest value
pub combination_only_only : (keep keep' : ℕ → Bool) (m : Market) (n : ℕ) (supply is : List ℕ)
    → Combination (only keep (only keep' m)) n supply is ↔ Combination (only (λ c. keep c && keep' c) m) n supply is
combination_only_only keep keep' m n supply is = (
  subst (λ (x : Market). Combination x n supply is) (only_only keep keep' m),
  subst (λ (x : Market). Combination x n supply is) (sym (only_only keep keep' m)),
)

pub greatest_only_only : (keep keep' : ℕ → Bool) (m : Market) (n : ℕ) (supply : List ℕ) (wt : ℕ → ℕ) (v : ℕ)
    → Greatest (only keep (only keep' m)) n supply wt v ↔ Greatest (only (λ c. keep c && keep' c) m) n supply wt v
greatest_only_only keep keep' m n supply wt v = (
  subst (λ (x : Market). Greatest x n supply wt v) (only_only keep keep' m),
  subst (λ (x : Market). Greatest x n supply wt v) (sym (only_only keep keep' m)),
)

module _ (m : Market) (n : ℕ) (keep : ℕ → Bool) where
  pub only_candidate : (i : ℕ) → Candidate m n i → keep (m.owner i) ≡ true → Candidate (only keep m) n i
  only_candidate i b k =
      record {
        first = b.first;
        last = b.last;
        eligible = (and-eq-true_iff (m.may i) (keep (m.owner i))).1 (b.eligible, k);
        owner_first = b.owner_first;
        owner_last = b.owner_last;
      }

  candidate_only : (i : ℕ) → Candidate (only keep m) n i → Candidate m n i × (keep (m.owner i) ≡ true)
  candidate_only i b =
      let (may, k) = (and-eq-true_iff (m.may i) (keep (m.owner i))).0 b.eligible in
      (record { first = b.first; last = b.last; eligible = may; owner_first = b.owner_first; owner_last = b.owner_last }, k)

  only_carries : Carries (only keep m) n m n
  only_carries = record { candidate = λ i b. (candidate_only i b).0; hours = λ i b kind. le_refl _; apart = λ i j b c d. d }

  -- a combination of what is kept is a combination, of clients that are kept, and nothing else is
  pub combination_only : (supply is : List ℕ) → Combination (only keep m) n supply is
      ↔ (Combination m n supply is × ((k : ℕ) → k < length is → keep (m.owner (at is k)) ≡ true))
  combination_only supply is = (
    λ c. (
      combination_carried (only keep m) n supply m n supply only_carries (covers_itself supply) is c,
      λ k l. ((and-eq-true_iff (m.may (at is k)) (keep (m.owner (at is k)))).0 (c.eligible k l)).1,
    ),
    λ (c, h). record {
      numbers = c.numbers;
      eligible = λ k l. (and-eq-true_iff (m.may (at is k)) (keep (m.owner (at is k)))).1 (c.eligible k l, h k l);
      owners = c.owners;
      one_each = c.one_each;
      within = c.within;
    },
  )

  pub greatest_only : (supply : List ℕ) (wt : ℕ → ℕ) (v v' : ℕ)
      → Greatest (only keep m) n supply wt v → Greatest m n supply wt v' → v ≤ v'
  greatest_only supply wt v v' = greatest_carried (only keep m) n supply m n supply wt v v' only_carries (covers_itself supply)

  -- keeping more clients never lowers the value
  pub greatest_keep_more : (keep' : ℕ → Bool) (supply : List ℕ) (wt : ℕ → ℕ) (v v' : ℕ) → ((c : ℕ) → keep c ≡ true → keep' c ≡ true)
      → Greatest (only keep m) n supply wt v → Greatest (only keep' m) n supply wt v' → v ≤ v'
  greatest_keep_more keep' supply wt v v' h =
      greatest_more_bids (only keep m) n (only keep' m) supply wt v v'
      (record {
        bids = le_refl _;
        owner = λ i f l. refl;
        hours = λ i f l. refl;
        may =
            λ i f l t. let (may, k) = (and-eq-true_iff (m.may i) (keep (m.owner i))).0 t in
            (and-eq-true_iff (m.may i) (keep' (m.owner i))).1 (may, h (m.owner i) k);
      })
