-- How the code's results and buffers show the outcome of a request and the result of a call, and what a request does to the memories and
-- to the lamps, each by itself.
use Rattle.std.specs.Prelude.{ℕ, ◌≡◌, List, Bool, true, false, cond, length, eqb, Option, None, Some}
use Rattle.dpa.specs.declared.frame.Frame.{Frame}
use Rattle.dpa.specs.declared.settings.Settings.{Settings}
use Rattle.dpa.specs.Lists.{overwrite_front}
use Rattle.dpa.specs.Frame.{broadcast_nadr}
use Rattle.dpa.specs.Pnum.{lights_pnum}
use Rattle.memory.specs.declared.block.Memory.TheVariants.{Eeprom, Ram, External}
use Rattle.memory.specs.Block.{memory_pnum, size_of}
use Rattle.memory.specs.Request.{memory_request}
use Rattle.lights.specs.declared.lamp.Lamp.{Lamp}
use Rattle.lights.specs.Lights.{lights_request}
use Rattle.batch.specs.Batch.{ListCheck, Sound, Broken, Request, reading, run_entries}
use Rattle.node.specs.declared.record.Node.{Node}
use Rattle.node.specs.declared.record.ReadOnly.{ReadOnly}
use Rattle.node.specs.Node.{node_from_parts}
use Rattle.outcome.specs.declared.memories.Memories as lent
use Rattle.outcome.specs.declared.request.Request as read
use Rattle.outcome.specs.declared.reply.ListCheck as made_check
use Rattle.outcome.specs.declared.reply.ListCheck.TheVariants as variant
use Rattle.outcome.specs.declared.reply.Report.{Report}
use Rattle.outcome.specs.declared.reply.RequestReply as made_reply
use Rattle.outcome.specs.declared.reply.Response.{Response}
use Rattle.outcome.specs.declared.answer.RequestAnswer.{RequestAnswer}
use Rattle.node.specs.State.{State, state}
use Rattle.outcome.specs.declared.reply.Effect.{Effect}
use Rattle.outcome.specs.declared.reply.Effect.TheVariants.{Nothing}
use Rattle.outcome.specs.Effect.{on_success}
use Rattle.outcome.specs.Request.{hwpid_matches, header_request, no_report, Outcome, CallResult, unanswered_result, unicast_result}

-- ---- the effect of a request: the node is split into parts, and the lamps change apart from the memories

-- the state, from the read-only part of the node, lamps, RAM, EEPROM and external memory
abbrev pub state_from_parts : ReadOnly → List Lamp → List ℕ → List ℕ → List ℕ → State
state_from_parts fixed lamps ram eeprom external = state (node_from_parts fixed lamps ram) eeprom external

-- the memories alone
pub record Memories : Type 0 where
  pub ram : List ℕ
  pub eeprom : List ℕ
  pub external : List ℕ

abbrev pub memories : List ℕ → List ℕ → List ℕ → Memories
memories ram eeprom external = record { ram = ram; eeprom = eeprom; external = external }

abbrev pub memories_of : State → Memories
memories_of st = memories st.node.ram st.eeprom st.external

-- the memories that are lent for a call
abbrev pub memories_in : lent.Memories → Memories
memories_in m = memories m.ram.now m.eeprom.now m.external.now

-- after a call the same references lend them
abbrev pub SameLent : lent.Memories → lent.Memories → Type 0
SameLent m n = (n.ram.ghost_name ≡ m.ram.ghost_name) × (n.eeprom.ghost_name ≡ m.eeprom.ghost_name) × (n.external.ghost_name ≡ m.external.ghost_name)

-- the state with them
abbrev pub state_with : ReadOnly → List Lamp → lent.Memories → State
state_with fixed lamps m = state_from_parts fixed lamps m.ram.now m.eeprom.now m.external.now

-- the request that the code read from a frame
abbrev pub request_seen : read.Request → Request
request_seen r = header_request r.header r.pdata.now

-- each memory has its size
pub record Sized (ms : Memories) : Type 0 where
  pub ram_sized : length ms.ram ≡ size_of Ram
  pub eeprom_sized : length ms.eeprom ≡ size_of Eeprom
  pub external_sized : length ms.external ≡ size_of External

-- the memories and the lamps after a request to a peripheral (proofs/Parts: `peripheral_memories_lem`, `peripheral_lamps_lem`)
unfoldable pub peripheral_memories : ℕ → ℕ → List ℕ → Memories → Memories
peripheral_memories pnum pcmd pdata ms =
    cond (eqb pnum (memory_pnum Eeprom)) (memories ms.ram (memory_request Eeprom pcmd pdata ms.eeprom).after ms.external)
    (cond (eqb pnum (memory_pnum External)) (memories ms.ram ms.eeprom (memory_request External pcmd pdata ms.external).after)
    (cond (eqb pnum (memory_pnum Ram)) (memories (memory_request Ram pcmd pdata ms.ram).after ms.eeprom ms.external)
    ms))

unfoldable pub peripheral_lamps : Settings → ℕ → ℕ → List ℕ → List Lamp → List Lamp
peripheral_lamps s pnum pcmd pdata ls = cond (eqb pnum lights_pnum) (lights_request s pcmd pdata ls).after ls

-- after an entry of a batch (`entry_memories_lem`, `entry_lamps_lem`)
unfoldable pub entry_memories : Settings → Request → Memories → Memories
entry_memories s i ms = cond (hwpid_matches s i.hwpid) (peripheral_memories i.pnum i.pcmd i.pdata ms) ms

unfoldable pub entry_lamps : Settings → Request → List Lamp → List Lamp
entry_lamps s i ls = cond (hwpid_matches s i.hwpid) (peripheral_lamps s i.pnum i.pcmd i.pdata ls) ls

-- after the entries of a list (`entries_memories`, `entries_lamps`)
abbrev pub list_memories : Settings → List ℕ → Memories → Memories
list_memories s list ms = run_entries (entry_memories s) (reading list).entries ms

abbrev pub list_lamps : Settings → List ℕ → List Lamp → List Lamp
list_lamps s list ls = run_entries (entry_lamps s) (reading list).entries ls

-- ---- the answer to a request

-- a reply to a request: whether it is answered, ErrN, the report, the length of the data or of the response, and the effect
pub record RequestReply : Type 0 where
  pub answered : Bool
  pub error : ℕ
  pub report : Report
  pub length : ℕ
  pub effect : Effect

-- the reply to a request with this outcome and this effect of a success; the length is that of the data, or of the response
abbrev pub reply_to : Outcome → Effect → ℕ → RequestReply
reply_to done effect size =
    record { answered = done.answered; error = done.error; report = done.report; length = size; effect = on_success done effect }

-- the reply to an error
abbrev pub error_only : ℕ → RequestReply
error_only error = record { answered = true; error = error; report = no_report; length = 0; effect = Nothing }

-- the reply without an answer
abbrev pub unanswered_only : RequestReply
unanswered_only = record { answered = false; error = 0; report = no_report; length = 0; effect = Nothing }

-- the reply of a peripheral with this effect if it succeeds, this ErrN and this length of the data
abbrev pub peripheral_only : Effect → (error size : ℕ) → RequestReply
peripheral_only effect error size =
    record { answered = true; error = error; report = no_report; length = size; effect = cond (eqb error 0) effect Nothing }

-- what an answer leaves: the reply, and the buffer for the data or the response
pub record SeenAnswer : Type 0 where
  pub reply : RequestReply
  pub out : List ℕ

abbrev pub reply_and_buffer : RequestReply → List ℕ → SeenAnswer
reply_and_buffer reply out = record { reply = reply; out = out }

-- the check of a list that the code has
abbrev pub check_of : made_check.ListCheck → ListCheck
check_of variant.Sound = Sound
check_of (variant.Broken r a) = Broken r a

-- the reply that the code has; None is no answer
abbrev pub reply_of : Option made_reply.RequestReply → RequestReply
reply_of None = unanswered_only
reply_of (Some r) = record { answered = true; error = r.error; report = r.report; length = r.length; effect = r.effect }

-- as the code has it
abbrev pub answer_seen : Option made_reply.RequestReply → List ℕ → SeenAnswer
answer_seen reply out = reply_and_buffer (reply_of reply) out

-- as the definitions have it: the data is at the front of the buffer
abbrev pub answer_in_buffer : Outcome → Effect → List ℕ → SeenAnswer
answer_in_buffer done effect out = reply_and_buffer (reply_to done effect (length done.bytes)) (overwrite_front done.bytes out)

-- a reply with another length
abbrev pub with_length : RequestReply → ℕ → RequestReply
with_length r size = record r { length = size }

-- as the code has it: the reply, with the length of the response
abbrev pub response_seen : Response → List ℕ → SeenAnswer
response_seen response out = reply_and_buffer (with_length (reply_of response.reply) response.length) out

-- to all nodes or to this one, by the NADR
abbrev pub addressed_result : Settings → Frame → Request → Outcome → List ℕ → CallResult
addressed_result settings header i done buffer =
    cond (eqb header.nadr broadcast_nadr) (unanswered_result done buffer) (unicast_result settings i done buffer)

-- the answer with the response of a call, if there is one
abbrev pub answer_in_response : Outcome → Effect → CallResult → SeenAnswer
answer_in_response done effect result = reply_and_buffer (reply_to done effect result.length) result.response

-- ---- at the public call

-- the struct that the call returns; it has the fields of the report among its own
abbrev pub request_answer : ℕ → ℕ → Report → Bool → Node → RequestAnswer
request_answer refusal size report addressed node =
    record {
      refusal = refusal;
      length = size;
      load = report.load;
      addressed = addressed;
      reason = report.reason;
      place = report.place;
      node = node;
    }

-- the report in that struct
abbrev pub answer_report : RequestAnswer → Report
answer_report answer = record { load = answer.load; reason = answer.reason; place = answer.place }

-- the result of a call, from the struct that it returns, both memories and the response buffer
abbrev pub call_result : RequestAnswer → List ℕ → List ℕ → List ℕ → CallResult
call_result answer eeprom external response =
    record {
      after = state answer.node eeprom external;
      refusal = answer.refusal;
      length = answer.length;
      report = answer_report answer;
      addressed = answer.addressed;
      response = response;
    }
