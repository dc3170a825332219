-- The numbers of a reply. ErrN is 0 or that of an error, and an error has no data. The reason is 0 or that of a fault, and with reason 0 the
-- place is 0.
use mathlib.Core.Path.{◌≡◌, refl, ap, subst}
use mathlib.Core.List.{List}
use mathlib.Core.Bool.{true}
use Prim.Native.Nat.{ℕ, ◌≤◌}
use native.Mathlib.Omega.{arith}
use Rattle.std.proofs.lemmas.Bool.Decides.{nat_tests}
use lib.ListN.{length, drop}
use Rattle.dpa.specs.declared.error.ErrN.TheVariants.{Hwpid}
use Rattle.dpa.specs.declared.settings.Settings.{Settings}
use Rattle.dpa.specs.Error.{error_number}
use Rattle.dpa.specs.Frame.{any_hwpid}
use Rattle.dpa.specs.NodeSet.{node_set_size}
use Rattle.dpa.specs.Pnum.{os_pnum}
use Rattle.dpa.specs.Reply.{Reply}
use Rattle.memory.specs.declared.block.Memory.{Memory}
use Rattle.memory.specs.declared.block.Memory.TheVariants.{Eeprom, Ram, External}
use Rattle.memory.specs.Block.{block_fault}
use Rattle.memory.specs.Request.{read_error, write_error, read_request, write_request, memory_request}
use Rattle.lights.specs.declared.lamp.Lamp.{Lamp}
use Rattle.lights.specs.declared.apply.Command.{Command}
use Rattle.lights.specs.declared.apply.Command.TheVariants.{Set, Raise, Lower}
use Rattle.lights.specs.Lights.{lights_request, enumerate_lamps, change_lamps}
use Rattle.lights.proofs.Requests.{change_cases}
use Rattle.checksum.specs.Check.{code_check, image_error}
use Rattle.batch.specs.Batch.{Request, request_of, reading, ListCheck, Sound, Broken, reason_of, place_of, shift_fault, trailing_reason}
use Rattle.batch.specs.Selective.{Selection, selection_of, check_from}
use Rattle.batch.proofs.Faults.{broken_fault, reason_range}
use Rattle.batch.proofs.Selections.{select_cases}
use Rattle.node.specs.State.{State}
use Rattle.outcome.specs.declared.reply.Effect.{Effect}
use Rattle.outcome.specs.Seen.{RequestReply, reply_to}
use Rattle.outcome.specs.Request.{peripheral_request, hwpid_matches, Outcome, list_request, batch_request, selection_outcome, selective_request, code_check_request, os_request, execute}
use Rattle.outcome.proofs.Outcomes.{execute_os, os_cases, execute_cases}
use Rattle.outcome.proofs.Errors.{execute_harmless}

-- 0, or the number of an error
abbrev pub IsErrN : ℕ → Type 0
IsErrN e = e ≤ error_number Hwpid

memory_errn : (m : Memory) (pcmd : ℕ) (d mem : List ℕ) → IsErrN (memory_request m pcmd d mem).error
unfolding memory_request read_request write_request read_error write_error block_fault
memory_errn m pcmd d mem = grind (arith, nat_tests)

lights_errn : (s : Settings) (pcmd : ℕ) (d : List ℕ) (ls : List Lamp) → IsErrN (lights_request s pcmd d ls).error
unfolding lights_request enumerate_lamps
lights_errn s pcmd d ls =
    let change : (c : Command) → IsErrN (change_lamps s c d ls).error =
    λ c. change_cases s d ls c (λ (a : Reply (List Lamp)). IsErrN a.error) (omega arith) (λ es h e. omega arith) in
    let set = change Set in
    let raise = change Raise in
    let lower = change Lower in
    grind (arith, nat_tests)

peripheral_errn : (pnum pcmd : ℕ) (d : List ℕ) (st : State) → IsErrN (peripheral_request pnum pcmd d st).error
unfolding peripheral_request
peripheral_errn pnum pcmd d st =
    let eeprom = memory_errn Eeprom pcmd d st.eeprom in
    let external = memory_errn External pcmd d st.external in
    let ram = memory_errn Ram pcmd d st.node.ram in
    let lights = lights_errn st.node.settings pcmd d st.node.lamps in
    grind (arith, nat_tests)

list_errn : (x : ListCheck) (l : List ℕ) (st : State) → IsErrN (list_request x l st).error
unfolding list_request
list_errn Sound l st = omega arith
list_errn (Broken r a) l st = omega arith

os_errn : (pcmd : ℕ) (d : List ℕ) (st : State) → IsErrN (os_request pcmd d st).error
unfolding os_request batch_request selective_request code_check_request code_check image_error
os_errn pcmd d st =
    let batch = list_errn (reading d).check d st in
    let selective : IsErrN (selection_outcome (selection_of d st.node.settings.address) (drop node_set_size d) st).error =
    select_cases d st.node.settings.address (λ (x : Selection). IsErrN (selection_outcome x (drop node_set_size d) st).error)
    (omega arith) (omega arith) (λ _ _. list_errn (check_from node_set_size d) (drop node_set_size d) st) in
    grind (arith, nat_tests)

execute_errn : (i : Request) (st : State) → IsErrN (execute i st).error
unfolding execute
execute_errn i st =
    let os = os_errn i.pcmd i.pdata st in
    let peripheral = peripheral_errn i.pnum i.pcmd i.pdata st in
    grind (arith, nat_tests)

-- the reason is 0 or that of a fault; with reason 0 the place is 0
abbrev pub IsReport : (reason place : ℕ) → Type 0
IsReport reason place = (reason ≤ trailing_reason) × (reason ≡ 0 → place ≡ 0)

list_report : (n : ℕ) (d : List ℕ) → IsReport (reason_of (check_from n d)) (place_of (check_from n d))
list_report n d = read (reading (drop n d)).check refl
  where
    read : (x : ListCheck) → (reading (drop n d)).check ≡ x → IsReport (reason_of (shift_fault n x)) (place_of (shift_fault n x))
    read Sound e = (omega arith, λ z. refl)
    read (Broken r a) e = let range = reason_range (broken_fault (drop n d) e) in (range.1, λ z. absurd (omega (arith, range.0)))

execute_report : (i : Request) (st : State) → IsReport (execute i st).report.reason (execute i st).report.place
unfolding code_check_request
execute_report i st =
    let none : IsReport 0 0 = (omega arith, λ z. refl) in
    let Reported : Outcome → Type 0 = λ a. IsReport a.report.reason a.report.place in
    execute_cases Reported st (λ e. none) i
    (os_cases Reported st (λ e. none) i.pcmd i.pdata (λ l. none) (λ n e h. list_report n i.pdata) none none)
    none

-- what holds of the numbers of a reply, whose length is that of its data
pub record NamedReply (r : RequestReply) : Type 0 where
  pub error : IsErrN r.error
  pub no_data : (r.error ≡ 0 → ⊥) → r.length ≡ 0
  pub report : IsReport r.report.reason r.report.place

-- the reply to a request
pub reply_named : (i : Request) (st : State) (effect : Effect) → NamedReply (reply_to (execute i st) effect (length (execute i st).bytes))
reply_named i st effect =
    record {
      error = execute_errn i st;
      no_data = λ n. ap (λ (a : Outcome). length a.bytes) (execute_harmless i st n);
      report = execute_report i st;
    }

-- the reply to an OS request
pub os_reply_named : (pcmd : ℕ) (d : List ℕ) (st : State) (effect : Effect) → NamedReply (reply_to (os_request pcmd d st) effect (length (os_request pcmd d st).bytes))
unfolding hwpid_matches
os_reply_named pcmd d st effect =
    let i = request_of os_pnum pcmd any_hwpid d in
    let accepted : hwpid_matches st.node.settings any_hwpid ≡ true = grind (arith, nat_tests) in
    subst (λ (a : Outcome). NamedReply (reply_to a effect (length a.bytes))) (execute_os i st accepted refl) (reply_named i st effect)
