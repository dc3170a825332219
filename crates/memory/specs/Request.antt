-- Document 01, "Memories": read and write requests.
use Rattle.std.specs.Prelude.{ℕ, ◌+◌, ◌-◌, List, [], cond, length, drop, get_or, eqb, leb}
use Rattle.dpa.specs.Number.{word_at}
use Rattle.dpa.specs.Lists.{slice}
use Rattle.dpa.specs.Reply.{Reply, reply, error_reply}
use Rattle.memory.specs.declared.block.Memory.{Memory}
use Rattle.memory.specs.Block.{size_of, longest_of, address_bytes, read_command, write_command, block_fault, overwrite}

-- the address at the front of PData: one byte, or two with the low byte first
unfoldable pub address_of : ℕ → List ℕ → ℕ
address_of width pdata = cond (eqb width 1) (get_or pdata 0 0) (word_at pdata 0)

-- the start of the block; a read's length or a write's data follows it
abbrev pub block_start : Memory → List ℕ → ℕ
block_start m pdata = address_of (address_bytes m) pdata

abbrev pub block_length : Memory → List ℕ → ℕ
block_length m pdata = get_or pdata (address_bytes m) 0

abbrev pub block_data : Memory → List ℕ → List ℕ
block_data m pdata = drop (address_bytes m) pdata

-- the block rule for requests: 5 is too long, 4 is outside
abbrev pub block_error : Memory → ℕ → ℕ → ℕ
block_error m start n = block_fault (size_of m) (longest_of m) start n 5 4

-- PData of a read is an address and a length, nothing else
unfoldable pub read_error : Memory → List ℕ → ℕ
read_error m pdata =
    cond (eqb (length pdata) (address_bytes m + 1))
    (block_error m (block_start m pdata) (block_length m pdata))
    5

-- a write has at least one byte of data
unfoldable pub write_error : Memory → List ℕ → ℕ
write_error m pdata =
    cond (leb (length pdata) (address_bytes m)) 5
    (block_error m (block_start m pdata) (length pdata - address_bytes m))

-- the given reply, or that of an error if there is one
abbrev pub reply_or_error : {S : Type 0} → ℕ → S → Reply S → Reply S
reply_or_error error s r = cond (eqb error 0) r (error_reply s error)

-- a read leaves the memory and returns the block
unfoldable pub read_request : Memory → List ℕ → List ℕ → Reply (List ℕ)
read_request m pdata mem =
    reply_or_error (read_error m pdata) mem (reply mem 0 (slice mem (block_start m pdata) (block_length m pdata)))

-- a write returns no data
unfoldable pub write_request : Memory → List ℕ → List ℕ → Reply (List ℕ)
write_request m pdata mem =
    reply_or_error (write_error m pdata) mem (reply (overwrite mem (block_start m pdata) (block_data m pdata)) 0 [])

-- a PCMD that is neither is error 2
unfoldable pub memory_request : Memory → ℕ → List ℕ → List ℕ → Reply (List ℕ)
memory_request m pcmd pdata mem =
    cond (eqb pcmd (read_command m)) (read_request m pdata mem)
    (cond (eqb pcmd (write_command m)) (write_request m pdata mem)
    (error_reply mem 2))
