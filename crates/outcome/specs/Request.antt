-- Document 01, "Taking a request", with document 02, changes 1 and 3: what a request does to a node and its memories, and what is sent back.
-- From the bottom up: peripherals, batch entries, OS requests, `execute`, and at the end the whole call, `handle_request`.
use Rattle.std.specs.Prelude.{ℕ, ◌+◌, List, [], ◌++◌, Bool, true, false, cond, ◌||◌, length, drop, ltb, eqb}
use Rattle.dpa.specs.declared.frame.Frame.{Frame}
use Rattle.dpa.specs.declared.settings.Settings.{Settings}
use Rattle.dpa.specs.Lists.{overwrite_front}
use Rattle.dpa.specs.Frame.{response_header_size, longest_response, broadcast_nadr, any_hwpid, header_of, pdata_of, frame_fits, response_header}
use Rattle.dpa.specs.NodeSet.{node_set_size}
use Rattle.dpa.specs.Pnum.{os_pnum, lights_pnum}
use Rattle.dpa.specs.Reply.{Reply, reply, error_reply, map_state}
use Rattle.memory.specs.declared.block.Memory.{Memory}
use Rattle.memory.specs.declared.block.Memory.TheVariants.{Eeprom, Ram, External}
use Rattle.memory.specs.Block.{memory_pnum, size_of}
use Rattle.memory.specs.Request.{memory_request}
use Rattle.lights.specs.Lights.{lights_request}
use Rattle.checksum.specs.Check.{code_check_pcmd, code_check}
use Rattle.batch.specs.Batch.{ListCheck, batch_pcmd, Request, request_of, reading, list_error, reason_of, place_of, run_entries, errors_of}
use Rattle.batch.specs.Selective.{Selection, TooShort, NotSelected, Selected, selective_pcmd, selection_of}
use Rattle.node.specs.declared.record.Node.{Node}
use Rattle.node.specs.Node.{node_ok, with_lamps}
use Rattle.node.specs.State.{State, with_node, memory_of, with_memory}
use Rattle.outcome.specs.declared.reply.Report.{Report}

-- ---- peripherals

-- a request to a memory
abbrev pub memory_request_on_state : Memory → ℕ → List ℕ → State → Reply State
memory_request_on_state m pcmd pdata st = map_state (with_memory m st) (memory_request m pcmd pdata (memory_of m st))

-- a request to the lights
abbrev pub lights_request_on_state : ℕ → List ℕ → State → Reply State
lights_request_on_state pcmd pdata st =
    map_state (with_node st) (map_state (with_lamps st.node) (lights_request st.node.settings pcmd pdata st.node.lamps))

-- the peripheral of a PNUM; any other PNUM is ErrN 3
unfoldable pub peripheral_request : ℕ → ℕ → List ℕ → State → Reply State
peripheral_request pnum pcmd pdata st =
    cond (eqb pnum (memory_pnum Eeprom)) (memory_request_on_state Eeprom pcmd pdata st)
    (cond (eqb pnum (memory_pnum External)) (memory_request_on_state External pcmd pdata st)
    (cond (eqb pnum (memory_pnum Ram)) (memory_request_on_state Ram pcmd pdata st)
    (cond (eqb pnum lights_pnum) (lights_request_on_state pcmd pdata st)
    (error_reply st 3))))

-- ---- entries of a batch

-- a HWPID is accepted if it is the node's or the wildcard
unfoldable pub hwpid_matches : Settings → ℕ → Bool
hwpid_matches settings hwpid = eqb hwpid settings.hwpid || eqb hwpid any_hwpid

-- an entry: another HWPID is ErrN 7; OS requests are not allowed, so PNUM 02 is ErrN 3
unfoldable pub execute_entry : Request → State → Reply State
execute_entry i st =
    cond (hwpid_matches st.node.settings i.hwpid) (peripheral_request i.pnum i.pcmd i.pdata st) (error_reply st 7)

-- the state after an entry, and its ErrN
abbrev pub entry_after : Request → State → State
entry_after i st = (execute_entry i st).after

abbrev pub entry_error : Request → State → ℕ
entry_error i st = (execute_entry i st).error

-- ---- requests

-- what a request reports to the caller besides the response: the load mark of the code check, or the reason and the place in PData
-- of the first fault of a list
abbrev pub load_report : Bool → Report
load_report mark = record { load = mark; reason = 0; place = 0 }

abbrev pub fault_report : ℕ → ℕ → Report
fault_report reason place = record { load = false; reason = reason; place = place }

abbrev pub no_report : Report
no_report = load_report false

-- The effect of a request: whether it gets an answer if it is sent to the node's own address, the state after it, ErrN, the response
-- data, the ErrN of each entry of a batch in order, and the report. ErrN are kept here whether they are sent or not.
pub record Outcome : Type 0 where
  pub answered : Bool
  pub after : State
  pub error : ℕ
  pub bytes : List ℕ
  pub entries : List ℕ
  pub report : Report

abbrev pub outcome : Reply State → List ℕ → Report → Outcome
outcome a entries report =
    record { answered = true; after = a.after; error = a.error; bytes = a.bytes; entries = entries; report = report }

-- the outcome of a request that ran no entry and has nothing to report
abbrev pub reply_only : Reply State → Outcome
reply_only a = outcome a [] no_report

-- the outcome of a batch that runs: its entries in order; the batch itself has ErrN 0 and no data
abbrev pub batch_outcome : List Request → State → Outcome
batch_outcome is st = outcome (reply (run_entries entry_after is st) 0 []) (errors_of entry_error entry_after is st) no_report

-- the outcome of a batch whose list cannot be read: ErrN 6; nothing runs, and the fault is reported
abbrev pub broken_outcome : ListCheck → State → Outcome
broken_outcome check st = outcome (error_reply st (list_error check)) [] (fault_report (reason_of check) (place_of check))

-- the list of a batch or of a selective batch, with its check: a list that can be read runs, the fault of any other is reported
unfoldable pub list_request : ListCheck → List ℕ → State → Outcome
list_request check list st = cond (eqb (list_error check) 0) (batch_outcome (reading list).entries st) (broken_outcome check st)

-- a batch: without PData ErrN 5, else its list
unfoldable pub batch_request : List ℕ → State → Outcome
batch_request pdata st = cond (eqb (length pdata) 0) (reply_only (error_reply st 5)) (list_request (reading pdata).check pdata st)

-- a selective batch that does not select this node: nothing changes, and there is no answer
abbrev pub unanswered_outcome : State → Outcome
unanswered_outcome st = record { answered = false; after = st; error = 0; bytes = []; entries = []; report = no_report }

-- a selective batch with this list, by what its PData is to this node: too short is ErrN 5
abbrev pub selection_outcome : Selection → List ℕ → State → Outcome
selection_outcome TooShort list st = reply_only (error_reply st 5)
selection_outcome NotSelected list st = unanswered_outcome st
selection_outcome (Selected check) list st = list_request check list st

-- a selective batch: its list is after the node set
unfoldable pub selective_request : List ℕ → State → Outcome
selective_request pdata st = selection_outcome (selection_of pdata st.node.settings.address) (drop node_set_size pdata) st

-- a code check: the state stays, and its load mark, the `after` of `code_check`, is reported
unfoldable pub code_check_request : List ℕ → State → Outcome
code_check_request pdata st =
    outcome (map_state (λ _. st) (code_check st.external pdata)) [] (load_report (code_check st.external pdata).after)

-- an OS request; any other PCMD is ErrN 2
unfoldable pub os_request : ℕ → List ℕ → State → Outcome
os_request pcmd pdata st =
    cond (eqb pcmd batch_pcmd) (batch_request pdata st)
    (cond (eqb pcmd code_check_pcmd) (code_check_request pdata st)
    (cond (eqb pcmd selective_pcmd) (selective_request pdata st)
    (reply_only (error_reply st 2))))

-- executes a request: another HWPID is ErrN 7; PNUM 02 is the OS, any other PNUM is for the peripherals
unfoldable pub execute : Request → State → Outcome
execute i st =
    cond (hwpid_matches st.node.settings i.hwpid)
    (cond (eqb i.pnum os_pnum) (os_request i.pcmd i.pdata st) (reply_only (peripheral_request i.pnum i.pcmd i.pdata st)))
    (reply_only (error_reply st 7))

-- ---- the call

-- the request of a header and PData
abbrev pub header_request : Frame → List ℕ → Request
header_request header pdata = request_of header.pnum header.pcmd header.hwpid pdata

-- the request in a frame
abbrev pub frame_request : List ℕ → Request
frame_request frame = header_request (header_of frame) (pdata_of frame)

-- The result of a call: the state after it, the refusal (0 for none), the length of the response (0 for none), the report,
-- whether the frame was addressed to this node or to all, and the response buffer.
pub record CallResult : Type 0 where
  pub after : State
  pub refusal : ℕ
  pub length : ℕ
  pub report : Report
  pub addressed : Bool
  pub response : List ℕ

-- refused, or addressed to another node: nothing changes
abbrev pub unhandled_result : State → ℕ → List ℕ → CallResult
unhandled_result st refusal buffer =
    record { after = st; refusal = refusal; length = 0; report = no_report; addressed = false; response = buffer }

-- without a response: a broadcast, or a request that is not answered
abbrev pub unanswered_result : Outcome → List ℕ → CallResult
unanswered_result done buffer =
    record { after = done.after; refusal = 0; length = 0; report = done.report; addressed = true; response = buffer }

-- a response: header and data at the front of the buffer, whose later bytes stay
abbrev pub response_result : Settings → Request → Outcome → List ℕ → CallResult
response_result settings i done buffer =
    record {
      after = done.after;
      refusal = 0;
      length = response_header_size + length done.bytes;
      report = done.report;
      addressed = true;
      response = overwrite_front (response_header settings i.pnum i.pcmd done.error ++ done.bytes) buffer;
    }

-- a request to this node gets a response if it is answered; if not, it ends like a broadcast
abbrev pub unicast_result : Settings → Request → Outcome → List ℕ → CallResult
unicast_result settings i done buffer = cond done.answered (response_result settings i done buffer) (unanswered_result done buffer)

-- a frame that was not refused, by its NADR
unfoldable pub handle_frame : List ℕ → State → List ℕ → CallResult
handle_frame frame st buffer =
    cond (eqb (header_of frame).nadr broadcast_nadr) (unanswered_result (execute (frame_request frame) st) buffer)
    (cond (eqb (header_of frame).nadr st.node.settings.address)
    (unicast_result st.node.settings (frame_request frame) (execute (frame_request frame) st) buffer)
    (unhandled_result st 0 buffer))

-- The refusal, from the node and the lengths of the frame, the memories and the response buffer, in this order:
-- 1 the node is not sound, 2 the frame's length, 3 the buffer is too short, 4 a memory's size; 0 for none.
unfoldable pub request_refusal : Node → (frame_length eeprom_length external_length response_length : ℕ) → ℕ
request_refusal node frame_length eeprom_length external_length response_length =
    cond (node_ok node)
    (cond (frame_fits frame_length)
    (cond (ltb response_length longest_response) 3
    (cond (eqb eeprom_length (size_of Eeprom))
    (cond (eqb external_length (size_of External)) 0
    4)
    4))
    2)
    1

-- the refusal of a call
abbrev pub call_refusal : List ℕ → State → List ℕ → ℕ
call_refusal frame st buffer = request_refusal st.node (length frame) (length st.eeprom) (length st.external) (length buffer)

-- the call: frame, state and response buffer
unfoldable pub handle_request : List ℕ → State → List ℕ → CallResult
handle_request frame st buffer =
    cond (eqb (call_refusal frame st buffer) 0) (handle_frame frame st buffer) (unhandled_result st (call_refusal frame st buffer) buffer)
