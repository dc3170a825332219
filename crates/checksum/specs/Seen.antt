-- What a code check leaves, as the reply that its definition gives.
use Rattle.std.specs.Prelude.{ℕ, List, Bool, false, Result, Ok, Err}
use Rattle.dpa.specs.declared.error.ErrN.{ErrN}
use Rattle.dpa.specs.Error.{error_number}
use Rattle.dpa.specs.Reply.{SeenReply, reply_seen}

-- without an error one byte of data is written, and the load mark is returned; an error has neither
abbrev pub check_seen : Result Bool ErrN → List ℕ → SeenReply Bool
check_seen (Ok load) out = reply_seen load 0 1 out
check_seen (Err e) out = reply_seen false (error_number e) 0 out
