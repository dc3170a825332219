-- Laws of lists: slices, buffers that are written from the front, and a borrowed tail of a buffer.
use mathlib.Core.Path.{◌≡◌, refl, sym, ap, ◌∙◌}
use mathlib.Core.List.{List, [], ◌∷◌, ◌++◌, append-nil, append_assoc}
use Prim.Native.Nat.{ℕ, suc, ◌+◌, ◌-◌, ◌≤◌, ◌<◌}
use native.Mathlib.Nat.{add-zero}
use native.Mathlib.Omega.{arith}
use lib.ListN.{length, take, drop, set, length-append, length-drop, take-append-drop, drop_of_length-le}
use lib.Seq.{sets, sets-eq, take_all, take_at, drop_at, drop-drop, drop-set-lt, length-take-le}
use borrow.Rule.Slice.PartMut.{mid_of, post_of, put_mid}
use Rattle.dpa.specs.Lists.{overwrite_front, fold}

-- a fold over two lists in a row
pub fold_append : {S : Type 0} (f : S → ℕ → S) (s : S) (xs ys : List ℕ) → fold f s (xs ++ ys) ≡ fold f (fold f s xs) ys
unfolding fold
fold_append f s [] ys = refl
fold_append f s (x ∷ xs) ys = fold_append f (f s x) xs ys

-- the slice from a place to the end
pub slice_to_end : {A : Type 0} (a : ℕ) (s : List A) → take (length s - a) (drop a s) ≡ drop a s
slice_to_end a s = take_all (length s - a) (drop a s) (simp length-drop (omega arith))

-- values stored from place 0 on overwrite the front
pub sets_front : (vs l : List ℕ) → length vs ≤ length l → sets l 0 vs ≡ overwrite_front vs l
sets_front vs l h = rw (sets-eq vs l 0 (omega arith), zero_add)
  where
    zero_add : (n : ℕ) → 0 + n ≡ n
    zero_add n = omega arith

-- a value stored at place 0 overwrites the first element
pub set_first : (xs : List ℕ) (v : ℕ) → 0 < length xs → set xs 0 v ≡ overwrite_front (v ∷ []) xs
set_first [] v h = absurd (omega arith)
set_first (x ∷ xs) v h = refl

-- writing xs ++ ys is writing xs, then ys after it
pub sets_append : (l : List ℕ) (i : ℕ) (xs ys : List ℕ) → sets l i (xs ++ ys) ≡ sets (sets l i xs) (i + length xs) ys
sets_append l i [] ys = rw (add-zero i)
sets_append l i (x ∷ xs) ys =
    let e : i + suc (length xs) ≡ suc i + length xs = omega arith in
    rw e (sets_append (set l i x) (suc i) xs ys)

-- k bytes copied to the front of a buffer (as `copy::copy` states it), then values stored from place k on
pub sets_after_copy : (xs vs old out : List ℕ) (k : ℕ) → length xs ≡ k → k + length vs ≤ length old
    → out ≡ xs ++ drop (length xs) old
    → sets out k vs ≡ overwrite_front (xs ++ vs) old
sets_after_copy xs vs old out k l h e =
    let e' : out ≡ xs ++ drop k old = e ∙ rw l in
    let n : length out ≡ k + (length old - k) = rw (e', length-append, length-drop, l) in
    let d : drop k out ≡ drop k old = rw e' (drop_at xs (drop k old) k l) in
    let t : take k out ≡ xs = rw e' (take_at xs (drop k old) k l) in
    let r : drop (k + length vs) out ≡ drop (k + length vs) old = sym (drop-drop (length vs) k out) ∙ ap (drop (length vs)) d ∙ drop-drop (length vs) k old in
    sets-eq vs out k (omega arith) ∙ rw (t, r, length-append, l)

-- lists that agree from place k on agree from place k + 1 on
pub same_tail_next : {A : Type 0} (out old : List A) (k : ℕ) → drop k out ≡ drop k old → drop (k + 1) out ≡ drop (k + 1) old
same_tail_next out old k e = sym (drop-drop 1 k out) ∙ ap (drop 1) e ∙ drop-drop 1 k old

-- and still do when one of them gets a new value at place k
pub same_tail_set : {A : Type 0} (out old : List A) (k : ℕ) (r : A) → drop k out ≡ drop k old → drop (k + 1) (set out k r) ≡ drop (k + 1) old
same_tail_set out old k r e =
    let u : k < k + 1 = omega arith in
    drop-set-lt (k + 1) out k r u ∙ same_tail_next out old k e

-- a buffer whose first k bytes are xs and whose later bytes did not change
pub front_written : (xs out old : List ℕ) (k : ℕ) → k ≤ length out → xs ≡ take k out → drop k out ≡ drop k old → out ≡ overwrite_front xs old
front_written xs out old k h e d = rw (e, length-take-le k out h, ← d) (sym (take-append-drop k out))

-- `&mut xs[a..]` as the callee gets it
pub tail_borrowed : (a : ℕ) (xs : List ℕ) → mid_of a (length xs - a) xs ≡ drop a xs
tail_borrowed a xs = slice_to_end a xs

-- and the caller's tail after the call, when the callee left ys
pub tail_returned : (a : ℕ) (xs ys : List ℕ) → a ≤ length xs → drop a (put_mid a (length xs - a) xs ys) ≡ ys
tail_returned a xs ys h =
    let j : length (drop a xs) ≤ length xs - a = rw length-drop (omega arith) in
    drop_at (take a xs) (ys ++ post_of a (length xs - a) xs) a (length-take-le a xs h)
    ∙ ap (λ (z : List ℕ). ys ++ z) (drop_of_length-le (drop a xs) j) ∙ append-nil ys

-- overwriting by h and d in a row: h at the front, d at the front of what follows it
pub overwrite_append : (h d o : List ℕ) → overwrite_front (h ++ d) o ≡ h ++ overwrite_front d (drop (length h) o)
overwrite_append h d o = rw (append_assoc, length-append, drop-drop)
