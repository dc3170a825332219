-- Laws of replies.
use mathlib.Core.Path.{◌≡◌, ap}
use mathlib.Core.List.{List}
use Prim.Native.Nat.{ℕ}
use Rattle.dpa.specs.Reply.{Reply, SeenReply, reply_seen, reply_in_buffer, map_state}

-- a reply over S in a buffer is the mapped reply over T in that buffer
pub reply_mapped : {S T : Type 0} (put : S → T) {s : S} {e n : ℕ} {out : List ℕ} (a : Reply S) (old : List ℕ)
    → reply_seen s e n out ≡ reply_in_buffer a old → reply_seen (put s) e n out ≡ reply_in_buffer (map_state put a) old
reply_mapped {S} {T} put a old q = ap (λ (l : SeenReply S). reply_seen (put l.after) l.error l.length l.out) q
