-- The reply of a peripheral to a request, over the part S of the node that the peripheral owns, and the same in a response buffer.
use Rattle.std.specs.Prelude.{ℕ, List, [], ◌≡◌, length, Result, Ok, Err}
use Rattle.dpa.specs.declared.error.ErrN.{ErrN}
use Rattle.dpa.specs.Error.{error_of}
use Rattle.dpa.specs.Lists.{overwrite_front}

-- what a request means: S afterwards, ErrN, and the response's data
pub record Reply (S : Type 0) : Type 0 where
  pub after : S
  pub error : ℕ
  pub bytes : List ℕ

-- what a call leaves: S, ErrN, the length of the data, and the response buffer
pub record SeenReply (S : Type 0) : Type 0 where
  pub after : S
  pub error : ℕ
  pub length : ℕ
  pub out : List ℕ

abbrev pub reply : {S : Type 0} → S → ℕ → List ℕ → Reply S
reply s e d = record { after = s; error = e; bytes = d }

-- the reply of an error, which changes nothing and has no data
abbrev pub error_reply : {S : Type 0} → S → ℕ → Reply S
error_reply s e = reply s e []

-- a reply to a request in state s: an error changes nothing and has no data
abbrev pub Harmless : {S : Type 0} → S → Reply S → Type 0
Harmless s a = (a.error ≡ 0 → ⊥) → (a.after ≡ s) × (a.bytes ≡ [])

-- the same reply over a T that contains S
abbrev pub map_state : {S T : Type 0} → (S → T) → Reply S → Reply T
map_state put a = reply (put a.after) a.error a.bytes

abbrev pub reply_seen : {S : Type 0} → S → ℕ → ℕ → List ℕ → SeenReply S
reply_seen s e n o = record { after = s; error = e; length = n; out = o }

-- the length of the data that a peripheral wrote; an error has none
abbrev pub length_of : Result ℕ ErrN → ℕ
length_of (Ok n) = n
length_of (Err e) = 0

-- the same for a peripheral's outcome
abbrev pub outcome_seen : {S : Type 0} → S → Result ℕ ErrN → List ℕ → SeenReply S
outcome_seen s r o = reply_seen s (error_of r) (length_of r) o

-- a reply in a buffer: its data at the front, later bytes unchanged
abbrev pub reply_in_buffer : {S : Type 0} → Reply S → List ℕ → SeenReply S
reply_in_buffer a o = reply_seen a.after a.error (length a.bytes) (overwrite_front a.bytes o)
