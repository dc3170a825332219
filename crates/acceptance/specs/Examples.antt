-- Document 01, "Worked examples": all that are marked P as one statement about what the contracts say that the calls compute.
-- Then examples of our own. Proved by computation in proofs/Examples.
use Rattle.std.specs.Prelude.{ℕ, ◌≤◌, ◌≡◌, false, ◌||◌, List, [], ◌∷◌, ◌++◌, map, length, get_or, take, replicate, eqb}
use Rattle.dpa.specs.Frame.{any_hwpid, frame, header_bytes}
use Rattle.dpa.specs.NodeSet.{node_set_of}
use Rattle.dpa.specs.Pnum.{os_pnum, lights_pnum}
use Rattle.checksum.specs.Sums.{sums, start, checksum}
use Rattle.lights.specs.Lamp.{lamp, off, actual_level}
use Rattle.batch.specs.Batch.{request_of, batch_pcmd}
use Rattle.batch.specs.Selective.{selective_pcmd}
use Rattle.timing.specs.declared.slot.Network.TheVariants.{Std}
use Rattle.timing.specs.Slot.{send_of}
use Rattle.node.specs.State.{State}
use Rattle.node.specs.Examples.{settings, fresh_state}
use Rattle.outcome.specs.Request.{fault_report, Outcome, unanswered_outcome, execute, CallResult, unanswered_result, handle_request}
use Rattle.book.specs.declared.step.Step.{Step}
use Rattle.book.specs.Examples.{book}
use Rattle.entries.specs.Join.{entries_of}
use Rattle.output.specs.Requests.{selected_entry_limit}
use Rattle.output.specs.Output.{min_output}
use Rattle.scene.specs.Call.{output_in_buffer, compile_for, compile_selected}

-- a lights request, and a batch, with the HWPID of the example node
abbrev pub lights : ℕ → List ℕ → State → Outcome
lights pcmd pdata st = execute (request_of lights_pnum pcmd 0x2471 pdata) st

abbrev pub batch : List ℕ → State → Outcome
batch pdata st = execute (request_of os_pnum batch_pcmd 0x2471 pdata) st

-- three lamps, step 1: a set, then a raise
abbrev pub after_set : Outcome
after_set = lights 0x00 (0x05 ∷ 0x00 ∷ 0x00 ∷ 0x00 ∷ 0x0A ∷ 0xE4 ∷ 0x02 ∷ []) (fresh_state 3 1)

abbrev pub after_raise : Outcome
after_raise = lights 0x01 (0x03 ∷ 0x00 ∷ 0x00 ∷ 0x00 ∷ 0x8A ∷ 0x03 ∷ 0x32 ∷ []) after_set.after

-- one lamp, step 10: requests of a PCMD and a power byte each, and the requested level after each of them
pub record PowerRequest : Type 0 where
  pub pcmd : ℕ
  pub power : ℕ

abbrev power_request : ℕ → ℕ → PowerRequest
power_request c p = record { pcmd = c; power = p }

abbrev pub levels_after : List PowerRequest → State → List ℕ
levels_after [] st = []
levels_after (a ∷ rest) st =
    let next = (lights a.pcmd (0x01 ∷ 0x00 ∷ 0x00 ∷ 0x00 ∷ a.power ∷ []) st).after in
    (get_or next.node.lamps 0 off).level ∷ levels_after rest next

-- set 15, +6, -10, -9, -100, +0
abbrev pub six_levels : List ℕ
six_levels =
    levels_after (
    power_request 0 15 ∷ power_request 1 6 ∷ power_request 2 10 ∷ power_request 2 9 ∷ power_request 2 100 ∷ power_request 1 0 ∷ []
    ) (fresh_state 1 10)

-- the ErrN of a set request for lamp 0 with these bytes after the bitmap
abbrev pub set_error : List ℕ → ℕ
set_error entry = (lights 0x00 (0x01 ∷ 0x00 ∷ 0x00 ∷ 0x00 ∷ entry) (fresh_state 3 1)).error

-- the checksum of bytes with an initial value
abbrev pub sum_from : ℕ → List ℕ → ℕ
sum_from first bytes = checksum (sums (start first) bytes)

-- the output of scene 0 of the book
abbrev pub book_output : List ℕ
book_output =
    0x01 ∷ 0x13 ∷ 0x01 ∷ 0x00 ∷ 0x02 ∷ 0x05 ∷ 0xFF ∷ 0xFF ∷ 0x0C ∷ 0x71 ∷ 0x00 ∷ 0xFF ∷ 0xFF
    ∷ 0x05 ∷ 0x00 ∷ 0x00 ∷ 0x00 ∷ 0x0A ∷ 0xE4 ∷ 0x02 ∷ 0x00 ∷ []

pub record WorkedExamples : Type 0 where
  pub set_answers : after_set.bytes ≡ 0x00 ∷ 0x00 ∷ []
  pub raise_answers : after_raise.bytes ≡ 0x0A ∷ 0x00 ∷ []
  pub raise_leaves : take 3 after_raise.after.node.lamps ≡ lamp 20 180 ∷ lamp 50 0 ∷ lamp 100 120 ∷ []
  pub table_requested : six_levels ≡ 15 ∷ 21 ∷ 11 ∷ 2 ∷ 0 ∷ 0 ∷ []
  pub table_actual : map (actual_level (settings 1 10)) six_levels ≡ 20 ∷ 30 ∷ 20 ∷ 10 ∷ 0 ∷ 0 ∷ []
  pub power_65 : set_error (0x65 ∷ []) ≡ 6
  pub power_64 : set_error (0x64 ∷ []) ≡ 0
  pub time_80 : set_error (0x80 ∷ 0x80 ∷ []) ≡ 6
  pub sum_00 : sum_from 1 (0x00 ∷ []) ≡ 0x0101
  pub sum_ff : sum_from 1 (0xFF ∷ []) ≡ 0x0101
  pub sum_fe : sum_from 1 (0xFE ∷ []) ≡ 0xFFFF
  pub sum_64_zeros : sum_from 1 (replicate 64 0x00) ≡ 0x4001
  pub sum_20_zeros : sum_from 3 (replicate 20 0x00) ≡ 0x3C03
  pub batch_00 : (batch (0x00 ∷ []) (fresh_state 3 1)).error ≡ 0
  pub batch_04_00 : (batch (0x04 ∷ 0x00 ∷ []) (fresh_state 3 1)).error ≡ 6
  -- hops 2 and 3, PData 5 and 20, delay 20
  pub wait_340 : send_of 2 5 20 3 20 Std false ≡ record { refusal = 0; milliseconds = 340 }
  -- scene 0 for address 1 and the default HWPID, in any buffer with room
  pub book_compiles : (out : List ℕ) → min_output ≤ length out → compile_for book 0 1 any_hwpid out ≡ output_in_buffer book_output out

-- ---- examples of our own, not in document 01

-- a batch of three entries: an OS request inside a batch, the profile of another node, a set with power byte 65 hex
abbrev pub refused_entries : Outcome
refused_entries =
    batch (
    0x05 ∷ 0x02 ∷ 0x05 ∷ 0xFF ∷ 0xFF
    ∷ 0x05 ∷ 0x71 ∷ 0x3E ∷ 0x00 ∷ 0x00
    ∷ 0x0A ∷ 0x71 ∷ 0x00 ∷ 0xFF ∷ 0xFF ∷ 0x01 ∷ 0x00 ∷ 0x00 ∷ 0x00 ∷ 0x65
    ∷ 0x00 ∷ []
    ) (fresh_state 3 1)

-- a selective batch with this list to the nodes of a set, executed by the example node, whose address is 1
abbrev pub selective : List ℕ → List ℕ → Outcome
selective nodes list = execute (request_of os_pnum selective_pcmd 0x2471 (nodes ++ list)) (fresh_state 3 1)

-- the set of nodes 1 and 9, and that of node 9
abbrev pub nodes1and9 : List ℕ
nodes1and9 = 0x02 ∷ 0x02 ∷ replicate 28 0x00

abbrev pub node9 : List ℕ
node9 = 0x00 ∷ 0x02 ∷ replicate 28 0x00

-- the call with a selective batch of an empty list, sent to address 1
abbrev pub to_node1 : List ℕ → CallResult
to_node1 nodes = handle_request (header_bytes (frame 1 os_pnum selective_pcmd 0x2471) ++ (nodes ++ (0x00 ∷ []))) (fresh_state 3 1) (replicate 64 0xEE)

-- lamps 0 to 8 to 50, for a minute each
abbrev pub nine_steps : List Step
nine_steps = map (λ lamp. record { kind = 0; target = lamp; value = 50; time = 1 }) (0 ∷ 1 ∷ 2 ∷ 3 ∷ 4 ∷ 5 ∷ 6 ∷ 7 ∷ 8 ∷ [])

-- the output of scene 0 of the book for nodes 1 and 9
abbrev pub selected_output : List ℕ
selected_output =
    0x01 ∷ 0x31 ∷ 0xFF ∷ 0x00 ∷ 0x02 ∷ 0x0B ∷ 0xFF ∷ 0xFF
    ∷ (nodes1and9 ++ (0x0C ∷ 0x71 ∷ 0x00 ∷ 0xFF ∷ 0xFF ∷ 0x05 ∷ 0x00 ∷ 0x00 ∷ 0x00 ∷ 0x0A ∷ 0xE4 ∷ 0x02 ∷ 0x00 ∷ []))

pub record OwnExamples : Type 0 where
  -- the entries have errors although the batch has none: that no entry has an error says more than the batch's ErrN
  pub entry_errors : refused_entries.entries ≡ 3 ∷ 7 ∷ 6 ∷ []
  pub batch_error : refused_entries.error ≡ 0
  pub unchanged : refused_entries.after ≡ fresh_state 3 1
  -- nodes 1 and 9, written as a set
  pub nodes_written : node_set_of (λ a. eqb a 1 || eqb a 9) ≡ nodes1and9
  -- the shortest PData, with an empty list
  pub selected_empty : (selective nodes1and9 (0x00 ∷ [])).error ≡ 0
  -- a list that cannot be read: its place counts in PData; a node that is not selected does not look at it
  pub selected_fault : (selective nodes1and9 (0x04 ∷ 0x00 ∷ [])).report ≡ fault_report 1 30
  pub selected_error : (selective nodes1and9 (0x04 ∷ 0x00 ∷ [])).error ≡ 6
  pub not_selected : selective node9 (0x04 ∷ 0x00 ∷ []) ≡ unanswered_outcome (fresh_state 3 1)
  -- without a list ErrN 5, whether the node is selected or not
  pub selected_short : (selective nodes1and9 []).error ≡ 5
  pub not_selected_short : (selective node9 []).error ≡ 5
  -- at its own address the node answers with PCMD 8B if it is selected, and not at all if not
  pub selected_answers : take 8 (to_node1 nodes1and9).response ≡ 0x01 ∷ 0x00 ∷ 0x02 ∷ 0x8B ∷ 0x71 ∷ 0x24 ∷ 0x00 ∷ 0x00 ∷ []
  pub selected_length : (to_node1 nodes1and9).length ≡ 8
  pub not_selected_silent : to_node1 node9 ≡ unanswered_result (unanswered_outcome (fresh_state 3 1)) (replicate 64 0xEE)
  -- nine steps for lamps with a time: eight make 20 bytes of PData, the ninth opens an entry
  pub eight_in_an_entry : map length (entries_of selected_entry_limit nine_steps) ≡ 8 ∷ 1 ∷ []
  -- scene 0 for nodes 1 and 9 and the default HWPID, in any buffer with room
  pub book_selected : (out : List ℕ) → min_output ≤ length out → compile_selected book 0 nodes1and9 any_hwpid out ≡ output_in_buffer selected_output out
