-- Laws of bytes written through a writer, one after another.
use mathlib.Core.List.{List, [], ◌++◌, append_assoc, append-nil}
use mathlib.Core.Path.{◌≡◌, refl, sym, ap, ◌∙◌}
use Prim.Native.Nat.{ℕ}
use native.Mathlib.Omega.{arith}
use lib.ListN.{length, length-append}
use lib.Seq.{length-sets}
use Rattle.dpa.proofs.Lists.{sets_append}
use Rattle.entries.specs.declared.write.Writer.{Writer}
use Rattle.entries.specs.Writer.{HasRoom, Writes}

-- nothing is written
pub writes_none : (out : Writer) → Writes out out []
writes_none out = record { same_buffer = refl; written = refl; end = omega arith }

-- a buffer keeps its length
pub writes_length : {before after : Writer} {xs : List ℕ} → Writes before after xs → length after.out.now ≡ length before.out.now
writes_length {before} {after} {xs} w = ap length w.written ∙ length-sets before.out.now before.at xs

-- bytes after bytes
pub writes_append : {before middle after : Writer} {xs ys : List ℕ} → Writes before middle xs → Writes middle after ys → Writes before after (xs ++ ys)
writes_append {before} {middle} {after} {xs} {ys} v w =
    record {
      same_buffer = w.same_buffer ∙ v.same_buffer;
      written = w.written ∙ rw (v.written, v.end, sets_append before.out.now before.at xs ys);
      end = omega (arith, v.end, w.end, length-append xs ys);
    }

-- ---- bytes of which part is written

-- of the bytes `all`, those before `rest` are written
pub record Remaining (start : Writer) (all : List ℕ) (out : Writer) (rest : List ℕ) : Type 0 where
  pub done : List ℕ
  pub written : Writes start out done
  pub split : all ≡ done ++ rest

-- before anything is written, all remains
pub remaining_start : (out : Writer) (all : List ℕ) → Remaining out all out all
remaining_start out all = record { done = []; written = writes_none out; split = refl }

module _ {start : Writer} {all : List ℕ} {out : Writer} {rest : List ℕ} (l : Remaining start all out rest) where
  module _ (xs ys : List ℕ) (e : rest ≡ xs ++ ys) where
    -- there is room for each part of the rest
    pub remaining_room : HasRoom start (length all) → HasRoom out (length xs)
    remaining_room r =
        omega (arith, r, l.written.end, writes_length l.written, simp length-append at (ap length l.split), simp length-append at (ap length e))

    -- part of the rest is written
    pub remaining_more : {out' : Writer} → Writes out out' xs → Remaining start all out' ys
    remaining_more w =
        record { done = l.done ++ xs; written = writes_append l.written w; split = l.split ∙ ap (λ (t : List ℕ). l.done ++ t) e ∙ sym (append_assoc l.done xs ys) }

  -- the rest is written
  pub remaining_end : {out' : Writer} → Writes out out' rest → Writes start out' all
  remaining_end w = rw l.split (writes_append l.written w)

  -- no rest is left
  pub remaining_none : rest ≡ [] → Writes start out all
  remaining_none e = rw (l.split, e, append-nil l.done) l.written
