-- Document 01, "Taking a request": ErrN.
use Rattle.std.specs.Prelude.{ℕ, Result, Ok, Err}
use Rattle.dpa.specs.declared.error.ErrN.{ErrN}
use Rattle.dpa.specs.declared.error.ErrN.TheVariants.{Fail, Pcmd, Pnum, Addr, DataLen, Data, Hwpid}

-- the ErrN of each error
abbrev pub error_number : ErrN → ℕ
error_number Fail = 1
error_number Pcmd = 2
error_number Pnum = 3
error_number Addr = 4
error_number DataLen = 5
error_number Data = 6
error_number Hwpid = 7

-- the ErrN of an outcome: 0 without an error
abbrev pub error_of : {T : Type 0} → Result T ErrN → ℕ
error_of (Ok x) = 0
error_of (Err e) = error_number e
