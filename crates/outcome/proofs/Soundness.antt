-- Every request keeps the state sound.
use mathlib.Core.Path.{◌≡◌, ◌∙◌}
use mathlib.Core.List.{List}
use mathlib.Core.Bool.{true}
use Prim.Native.Nat.{ℕ}
use lib.ListN.{length}
use Rattle.dpa.specs.Reply.{Reply}
use Rattle.memory.specs.declared.block.Memory.{Memory}
use Rattle.memory.specs.Block.{size_of}
use Rattle.memory.proofs.Requests.{request_length}
use Rattle.lights.proofs.Requests.{lamps_stay, request_keeps}
use Rattle.batch.specs.Batch.{Request, reading}
use Rattle.batch.proofs.Running.{entries_keep}
use Rattle.lights.specs.Lights.{lights_request}
use Rattle.node.specs.declared.record.Node.{Node}
use Rattle.node.specs.Node.{node_ok, with_lamps}
use Rattle.node.specs.State.{State, SoundState, with_node, memory_of, with_memory}
use Rattle.outcome.specs.Request.{peripheral_request, entry_after, Outcome, code_check_request, execute, frame_request, CallResult, call_refusal, handle_request}
use Rattle.outcome.proofs.Peripherals.{peripheral_cases}
use Rattle.outcome.proofs.BatchEntries.{entry_cases}
use Rattle.outcome.proofs.Outcomes.{os_cases, execute_cases}
use Rattle.outcome.proofs.Calls.{call_cases, accepted_sound}
use Rattle.node.proofs.Nodes.{node_ram, ram_sound, lamps_sound, node_lamps, node_fits}

-- with another sound node
with_node_sound : (st : State) → SoundState st → {n : Node} → node_ok n ≡ true → SoundState (with_node st n)
with_node_sound st h e = record { node_valid = e; eeprom_sized = h.eeprom_sized; external_sized = h.external_sized }

-- a lights request keeps the node sound
lights_sound : (n : Node) (pcmd : ℕ) (d : List ℕ) → node_ok n ≡ true → node_ok (with_lamps n (lights_request n.settings pcmd d n.lamps).after) ≡ true
lights_sound n pcmd d e =
    lamps_sound n (lights_request n.settings pcmd d n.lamps).after e (lamps_stay n.settings d n.lamps pcmd ∙ node_lamps n e)
    (λ k h. request_keeps n.settings d n.lamps (node_lamps n e) pcmd k (node_fits n e k h))

-- a reply and an outcome that leave a sound state
abbrev ReplySound : Reply State → Type 0
ReplySound a = SoundState a.after

abbrev OutcomeSound : Outcome → Type 0
OutcomeSound a = SoundState a.after

-- in a sound state each memory has its size
memory_size : (m : Memory) (st : State) → SoundState st → length (memory_of m st) ≡ size_of m
memory_size Memory.Eeprom st h = h.eeprom_sized
memory_size Memory.Ram st h = node_ram st.node h.node_valid
memory_size Memory.External st h = h.external_sized

-- with other bytes of the same size in a memory
with_memory_sound : (m : Memory) (st : State) → SoundState st → (bytes : List ℕ) → length bytes ≡ size_of m → SoundState (with_memory m st bytes)
with_memory_sound Memory.Eeprom st h bytes e = record { node_valid = h.node_valid; eeprom_sized = e; external_sized = h.external_sized }
with_memory_sound Memory.Ram st h bytes e = with_node_sound st h (ram_sound st.node bytes h.node_valid e)
with_memory_sound Memory.External st h bytes e = record { node_valid = h.node_valid; eeprom_sized = h.eeprom_sized; external_sized = e }

-- a request to a peripheral keeps the state sound
pub peripheral_sound : (pnum pcmd : ℕ) (d : List ℕ) (st : State) → SoundState st → ReplySound (peripheral_request pnum pcmd d st)
peripheral_sound pnum pcmd d st h =
    peripheral_cases pnum pcmd d st ReplySound
    (λ m. let size = memory_size m st h in with_memory_sound m st h _ (request_length m d (memory_of m st) pcmd size ∙ size))
    (with_node_sound st h (lights_sound st.node pcmd d h.node_valid))
    (λ e. h)

-- an entry of a batch keeps the state sound
pub entry_sound : (i : Request) (st : State) → SoundState st → SoundState (entry_after i st)
entry_sound i st h = entry_cases i st ReplySound (peripheral_sound i.pnum i.pcmd i.pdata st h) h

-- executing a request keeps the state sound
pub execute_sound : (i : Request) (st : State) → SoundState st → OutcomeSound (execute i st)
unfolding code_check_request
execute_sound i st h =
    execute_cases OutcomeSound st (λ e. h) i
    (os_cases OutcomeSound st (λ e. h) i.pcmd i.pdata
    (λ list. entries_keep entry_after SoundState entry_sound (reading list).entries st h) (λ _ _ _. h) h h)
    (peripheral_sound i.pnum i.pcmd i.pdata st h)

-- every call keeps the state sound
pub request_sound : (f : List ℕ) (st : State) (o : List ℕ) → SoundState st → SoundState (handle_request f st o).after
request_sound f st o h =
    let k = execute_sound (frame_request f) st h in
    call_cases (λ (a : CallResult). SoundState a.after) f st o (λ _. h) (λ _. k) (λ _. k)

-- every call keeps the node sound, also if a memory has another size
pub request_node_sound : (f : List ℕ) (st : State) (o : List ℕ) → node_ok st.node ≡ true → node_ok (handle_request f st o).after.node ≡ true
request_node_sound f st o e =
    let sound : call_refusal f st o ≡ 0 → node_ok (execute (frame_request f) st).after.node ≡ true =
    λ z. (execute_sound (frame_request f) st (accepted_sound st.node st.eeprom st.external (length f) (length o) z)).node_valid in
    call_cases (λ (a : CallResult). node_ok a.after.node ≡ true) f st o (λ _. e) sound sound
