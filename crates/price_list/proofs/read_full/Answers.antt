-- What a read gave stands behind what was there. Assumes nothing.
use Rattle.std.proofs.Common.{◌≡◌, ℕ, ◌+◌, ◌-◌, ◌≤◌, List, ◌++◌, rules, length, take, sym, ap, ◌∙◌, subst, length-take-le}
use Rattle.std.proofs.Math.Seq.{take-append-add}
use Rattle.std.proofs.lemmas.List.{take-append-le}
use Rattle.std.proofs.KnownBytes.{Consumes-trans}
use Rattle.std.specs.Io.KnownBytes.{Consumes}
use borrow.Rule.Slice.PartMut.{put_mid, post_of}
use Rattle.price_list.proofs.read_full.Goals as goal

take_put : (n k m : ℕ) (xs ys : List ℕ) → n ≤ length xs → m ≤ length ys → take (n + m) (put_mid n k xs ys) ≡ take n xs ++ take m ys
take_put n k m xs ys within fits =
    let after = ys ++ post_of n k xs in
    ap (λ l. take (l + m) (take n xs ++ after)) (sym (length-take-le n xs within))
    ∙ take-append-add (take n xs) after m
    ∙ ap (λ zs. take n xs ++ zs) (take-append-le m ys (post_of n k xs) fits)

pub loop-len-preserved : goal.loop-len-preserved
loop-len-preserved g c =
    let n = c.loop-len.len in
    let fits = c.in-Ok.ensures.bound.0 in
    let joined = take_put n (length c.loop-len.into - n) c.in-Ok.more c.loop-len.into c.read.new.buf c.loop-len.invariant.0 fits in
    (search rules, subst (Consumes _ _) (sym joined) (Consumes-trans _ _ _ _ _ c.loop-len.invariant.1 c.in-Ok.ensures.bytes.0))
