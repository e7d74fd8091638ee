-- The value of all clients, and the σ table by set number: what the loop over the sets leaves, and that it is the table of a list of
-- clients. Cited by the proofs of src/value.rt, src/values.rt, src/table.rt and src/weighing.rt. Assumes nothing.
use mathlib.Core.Path.{◌≡◌, refl, sym, ap, ap₂, fun_ext, ◌∙◌}
use mathlib.Core.Bool.{Bool, true, false, not, cond, and-true}
use mathlib.Core.List.{List}
use Prim.Native.Nat.{ℕ, zero, suc, ◌+◌, ◌-◌, ◌^◌, ◌≤◌, ◌<◌}
use native.Mathlib.Nat.{pow-suc}
use native.Mathlib.Decide.{dec_lt}
use native.Mathlib.Omega.{arith}
use borrow.Author.Tests.{lt-ltb, le-ltb, le-leb}
use lib.Dec.{leb, ltb}
use lib.ListN.{length, get_or}
use lib.Pow.{pow_pos}
use lib.Seq.{ext_get_or}
use Rattle.sets.specs.Sets.{has, set_of}
use Rattle.sets.proofs.Filled.{Filled}
use Rattle.sets.proofs.Members.{has_zero, has_set_of}
use Rattle.sets.proofs.Tables.{tabulate_at, tabulate_length}
use Rattle.book.specs.Book.{Book, supplies}
use Rattle.book.specs.Sound.{Sound}
use Rattle.winners.specs.Combinations.{amount_of}
use Rattle.winners.specs.Greatest.{discarded, greatest, greatest_without}
use Rattle.winners.specs.Passes.{ValuesTo}
use Rattle.winners.specs.Surplus.{picked, surplus}
use Rattle.winners.specs.Surpluses.{surplus_table}
use Rattle.winners.specs.ClientLists.{Discards}
use Rattle.winners.specs.Rows.{searched}
use Rattle.winners.proofs.Greatest.{greatest_all}
use Rattle.winners.proofs.Most.{greatest_most}
use Rattle.winners.proofs.Picks.{byte_small, picked_none}
use Rattle.winners.proofs.SetGreatest.{set_greatest}

-- THE SET OF ALL, AND ALL BUT SOME
has_all : (j : ℕ) → j < 6 → has 63 j ≡ true
unfolding set_of
has_all j l = has_set_of 6 (λ k. true) j l

both_parts : (w : ℕ) (p : ℕ → Bool) → set_of w p + set_of w (λ k. not (p k)) + 1 ≡ 2 ^ w
unfolding set_of
both_parts zero p = refl
both_parts (suc w) p = omega (arith, both_parts w (λ k. p (suc k)), one (p 0), pow-suc 2 w)
  where
    one : (y : Bool) → cond y 1 0 + cond (not y) 1 0 ≡ 1
    one true = refl
    one false = refl

has_rest : (d : ℕ) (p : ℕ → Bool) → d ≡ set_of 6 p → (j : ℕ) → j < 6 → has (63 - d) j ≡ not (p j)
has_rest d p e j l =
    let rest : 63 - d ≡ set_of 6 (λ k. not (p k)) = omega (arith, both_parts 6 p) in
    rw rest (has_set_of 6 (λ k. not (p k)) j l)

-- nobody is discarded
none_out : (c : ℕ) → discarded 0 c ≡ false
unfolding discarded
none_out zero = refl
none_out (suc c) = has_zero c

module _ (b : Book) (s : Sound b) (d : ℕ) (values : List ℕ) (v : ValuesTo (searched b d) (amount_of b) (supplies b) 64 values) where
  -- the value of all clients
  pub all_value : get_or values 63 0 ≡ greatest b d
  unfolding greatest
  all_value = set_greatest b s d 63 (discarded d) values (omega arith) v (λ c l u. rw (has_all (c - 1) (omega arith)))

  pub all_few : get_or values 63 0 ≤ 6000000
  all_few = omega (arith, all_value, greatest_most b s d)

-- THE LOOP OVER THE SETS
-- the entry of a set; the empty one has 0
abbrev pub entry : (values discards : List ℕ) → (set : ℕ) → ℕ
entry values ds L = cond (leb 1 L) (get_or values 63 0 - get_or values (63 - get_or ds L 0) 0) 0

-- those whom the sets pick are sets
pub discards_few : (clients ds : List ℕ) → Discards clients ds → (L : ℕ) → L < 2 ^ length clients → get_or ds L 0 < 64
discards_few clients ds h L l = rw (h L l) (byte_small 6 (λ j. picked clients L (1 + j)) (omega arith))

-- THE TABLE
module _ (b : Book) (cs : List ℕ) where
  -- σ of the empty set
  surplus_none : surplus b cs 0 ≡ 0
  unfolding surplus
  surplus_none =
      let all : greatest_without b (picked cs 0) ≡ greatest b 0
      = ap (λ (out : ℕ → Bool). greatest_without b out) (fun_ext (picked_none cs)) ∙ sym (greatest_all b) in
      rw all (omega arith)

  -- σ of a set, by the value of all others
  surplus_set : Sound b → (L v d : ℕ) (values : List ℕ) → ValuesTo (searched b 0) (amount_of b) (supplies b) 64 values → v ≡ greatest b 0
      → d ≡ set_of 6 (λ j. picked cs L (1 + j)) → v - get_or values (63 - d) 0 ≡ surplus b cs L
  unfolding surplus
  surplus_set s L v d values h ev ed =
      ap₂ (λ (x y : ℕ). x - y) ev
      (set_greatest b s 0 (63 - d) (picked cs L) values (omega arith) h
      (λ c l u. let back : 1 + (c - 1) ≡ c = omega arith in
      rw (none_out c, has_rest d (λ j. picked cs L (1 + j)) ed (c - 1) (omega arith), back) (and-true (not (picked cs L c)))))

-- the whole table
pub table_done : (b : Book) (clients ds sigma values : List ℕ) (end : ℕ) → Sound b → Discards clients ds → end ≡ 2 ^ length clients
    → ValuesTo (searched b 0) (amount_of b) (supplies b) 64 values → Filled 64 (entry values ds) end sigma
    → sigma ≡ surplus_table b clients
unfolding surplus_table
table_done b clients ds sigma values end s d ee h f =
    ext_get_or 0 sigma _ (f.long ∙ sym (tabulate_length 64 table))
    (λ L k. same L ∙ sym (tabulate_at 64 table L 0 (omega (arith, f.long))))
  where
    table : ℕ → ℕ
    table L = cond (ltb L (2 ^ length clients)) (surplus b clients L) 0

    same : (L : ℕ) → get_or sigma L 0 ≡ table L
    same zero =
        let some : 0 < 2 ^ length clients = pow_pos (length clients) in
        f.below 0 (omega (arith, ee)) ∙ sym (rw (lt-ltb 0 (2 ^ length clients) some) (surplus_none b clients))
    same (suc L) = elim (dec_lt (suc L) (2 ^ length clients)) [
      | yes k ↦ rw (lt-ltb (suc L) (2 ^ length clients) k) (f.below (suc L) (omega arith)
          ∙ rw (le-leb 1 (suc L) (omega arith))
          (surplus_set b clients s (suc L) (get_or values 63 0) (get_or ds (suc L) 0) values h (all_value b s 0 values h) (d (suc L) k)))
      | no k ↦ rw (le-ltb (suc L) (2 ^ length clients) (omega arith)) (f.above (suc L) (omega arith))
    ]
