-- `input::read_full`: the bytes of a read come after those of the reads before.
use Rattle.std.proofs.Common.{◌≡◌, ℕ, ◌+◌, ◌-◌, ◌≤◌, List, ◌++◌, rules, length, take, sym, ap, ◌∙◌, subst, length-take-le}
use Rattle.std.proofs.Math.Seq.{take-append-add, take-append-le}
use Rattle.std.proofs.KnownBytes.{Consumes-trans}
use Rattle.std.specs.Io.KnownBytes.{Consumes}
use borrow.Rule.Slice.PartMut.{put_mid, post_of}
use Rattle.console.proofs.input.read_full.Goals as goal

take_past-put_mid : (n more k : ℕ) (xs ys : List ℕ) → n ≤ length xs → more ≤ length ys
    → take (n + more) (put_mid n k xs ys) ≡ take n xs ++ take more ys
take_past-put_mid n more k xs ys within fits =
    ap (λ at. take (at + more) (put_mid n k xs ys)) (sym (length-take-le n xs within))
    ∙ take-append-add (take n xs) (ys ++ post_of n k xs) more
    ∙ ap (λ zs. take n xs ++ zs) (take-append-le more ys (post_of n k xs) fits)

pub loop-n-preserved : goal.loop-n-preserved
loop-n-preserved g c =
    let n = c.loop-n.n in
    let joined = take_past-put_mid n c.in-Ok.more (length c.loop-n.book - n) c.loop-n.book c.read.new.buf c.loop-n.invariant.0 c.in-Ok.ensures.bound.0 in
    (search rules, subst (Consumes _ _) (sym joined) (Consumes-trans _ _ _ _ _ c.loop-n.invariant.1 c.in-Ok.ensures.bytes.0))
