-- What the block rule's fault is to a request and to a view.
use Rattle.std.specs.Prelude.{ℕ, Result, Ok, Err}
use Rattle.dpa.specs.declared.error.ErrN.{ErrN}
use Rattle.dpa.specs.declared.error.ErrN.TheVariants.{Addr, DataLen}
use Rattle.dpa.specs.declared.refusal.Refusal.{Refusal}
use Rattle.dpa.specs.declared.refusal.Refusal.TheVariants.{Block, Range}
use Rattle.memory.specs.declared.block.BlockFault.{BlockFault}
use Rattle.memory.specs.declared.block.BlockFault.TheVariants.{TooLong, Outside}

-- the number of the block rule's result, when the two faults have these numbers: 0 for a valid block
abbrev pub fault_number : {T : Type 0} → (too_long outside : ℕ) → Result T BlockFault → ℕ
fault_number too_long outside (Ok x) = 0
fault_number too_long outside (Err TooLong) = too_long
fault_number too_long outside (Err Outside) = outside

-- document 01, "Memories": the ErrN of a request, 5 and 4
abbrev pub fault_error : BlockFault → ErrN
fault_error TooLong = DataLen
fault_error Outside = Addr

-- and the refusal of a view, 15 and 16
abbrev pub fault_refusal : BlockFault → Refusal
fault_refusal TooLong = Block
fault_refusal Outside = Range
