-- How the code's results show the next entry of a list, the check of a list, and what PData is to a node.
use Rattle.std.specs.Prelude.{ℕ, Result, Ok, Err}
use Rattle.batch.specs.declared.entry.Entry.{Entry}
use Rattle.batch.specs.declared.fault.ListFault.{ListFault}
use Rattle.batch.specs.declared.fault.Reason.{Reason}
use Rattle.batch.specs.declared.fault.Reason.TheVariants.{Short, PastEnd, Unclosed, Trailing}
use Rattle.batch.specs.declared.selective.Selection as code
use Rattle.batch.specs.declared.selective.Selection.TheVariants as variant
use Rattle.batch.specs.Batch as spec
use Rattle.batch.specs.Batch.{short_reason, past_end_reason, unclosed_reason, trailing_reason, NextEntry, ListCheck, Sound, Broken}
use Rattle.batch.specs.Selective.{Selection, TooShort, NotSelected, Selected}

-- the number of each reason
abbrev pub reason_number : Reason → ℕ
reason_number Short = short_reason
reason_number PastEnd = past_end_reason
reason_number Unclosed = unclosed_reason
reason_number Trailing = trailing_reason

-- what `next_entry` returns
abbrev pub entry_seen : Result Entry ListFault → NextEntry
entry_seen (Ok e) = spec.Entry e.len e.pnum e.pcmd e.hwpid
entry_seen (Err f) = spec.Fault (reason_number f.reason) f.at

-- what `check_list` returns
abbrev pub check_seen : Result Unit ListFault → ListCheck
check_seen (Ok u) = Sound
check_seen (Err f) = Broken (reason_number f.reason) f.at

-- what `select` returns
abbrev pub selection_seen : code.Selection → Selection
selection_seen variant.TooShort = TooShort
selection_seen variant.NotSelected = NotSelected
selection_seen (variant.Selected check) = Selected (check_seen check)
