-- The assumptions of condition 3 can be met: by a node with lit lamps, running timers and filled memories, another node, a set that
-- names the first and not the second, and a book with steps of every kind. Then what condition 3 says about them, in numbers.
use mathlib.Core.Path.{◌≡◌, refl, ◌∙◌}
use mathlib.Core.Logic.{inl, inr}
use mathlib.Core.Bool.{true, false, ◌||◌}
use mathlib.Core.List.{List, [], ◌∷◌, ◌++◌, map}
use Prim.Native.Nat.{ℕ}
use native.Mathlib.Omega.{arith}
use lib.Dec.{eqb}
use lib.ListN.{length, replicate, length-replicate}
use Rattle.dpa.specs.Frame.{broadcast_nadr, any_hwpid}
use Rattle.dpa.specs.Lists.{all_below}
use Rattle.dpa.specs.NodeSet.{node_set_size, selects, byte_of, tabulate, node_set_of}
use Rattle.dpa.specs.Settings.{step_ok, settings_ok}
use Rattle.memory.specs.declared.block.Memory.TheVariants.{External}
use Rattle.memory.specs.Block.{size_of}
use Rattle.lights.specs.declared.lamp.Lamp.{Lamp}
use Rattle.lights.specs.Lamp.{lamp, off, lamp_ok, lamp_zero, lamp_fits}
use Rattle.lights.specs.Lights.{time_ok}
use Rattle.batch.specs.Batch.{entry_bytes, entries_bytes, batch_pcmd}
use Rattle.batch.specs.Selective.{selective_pcmd}
use Rattle.node.specs.Node.{shape_ok, lamps_ok, node_ok}
use Rattle.node.specs.State.{State, state, SoundState}
use Rattle.book.specs.Book.{chained, book_ok, scene_of}
use Rattle.step.specs.Step.{step_time_ok, lamp_fault, byte_fault, step_fault}
use Rattle.step.specs.Machine.{time_formed, step_formed, machine_level, machine_seconds, machine_lamps, machine_effect, machine_step, machine}
use Rattle.entries.specs.Entry.{power_bytes, entry_data, pnum_of, pcmd_of}
use Rattle.entries.specs.Join.{follows}
use Rattle.output.specs.Requests.{batches_of, entry_limit, list_limit, scene_requests, selected_requests}
use Rattle.output.specs.Output.{min_output, requests_in}
use Rattle.scene.specs.Call.{output_of, compile_for, compile_selected}
use Rattle.scene.specs.Refusals.{Addressable, SceneRule}
use Rattle.scene.proofs.Refusals.{compile_refusals, selected_refusals}
use Rattle.acceptance.specs.SceneTheorem.{Given, MatchesMachine, after_calls, StaysUnchanged}
use Rattle.acceptance.proofs.Scenes.{condition_3}

-- five lamps, step 10; the parameters are what the scene changes
abbrev node_with : List Lamp → List ℕ → List ℕ → State
node_with lamps ram eeprom =
    state (record {
      settings = record { address = 7; hwpid = 0x2471; dpa_value = 3; lamp_count = 5; step = 10 };
      lamps = lamps ++ replicate 27 off;
      ram = replicate 44 0xAA ++ ram;
    }) (replicate 190 0x55 ++ eeprom) (replicate (size_of External) 0x11)

-- the node before the scene
abbrev before : State
before =
    node_with (lamp 30 90 ∷ lamp 0 0 ∷ lamp 100 7620 ∷ lamp 15 0 ∷ lamp 1 1 ∷ [])
    (1 ∷ 2 ∷ 3 ∷ 4 ∷ []) (5 ∷ 6 ∷ [])

-- a book with an empty scene and a scene of ten steps: +80 at lamp 0; +5 for 2 minutes at lamp 2; lamp 2 to 0 for 5 seconds;
-- lamps 3 and 31 to 40 for 7 seconds; -1 at lamp 4; two adjacent RAM bytes; two EEPROM bytes, the later one first
abbrev book : List ℕ
book =
    0x02 ∷ 0x07 ∷ 0x00 ∷ 0x00 ∷ 0x07 ∷ 0x00 ∷ 0x0A
    ∷ 1 ∷ 0 ∷ 80 ∷ 0 ∷ 1 ∷ 2 ∷ 5 ∷ 2 ∷ 0 ∷ 2 ∷ 0 ∷ 0x85
    ∷ 0 ∷ 3 ∷ 40 ∷ 0x87 ∷ 0 ∷ 31 ∷ 40 ∷ 0x87 ∷ 2 ∷ 4 ∷ 1 ∷ 0
    ∷ 3 ∷ 45 ∷ 0x21 ∷ 0 ∷ 3 ∷ 46 ∷ 0x22 ∷ 0 ∷ 4 ∷ 191 ∷ 0x23 ∷ 0 ∷ 4 ∷ 190 ∷ 0x24 ∷ 0 ∷ []

-- a different response buffer for each call
abbrev buffers : ℕ → List ℕ
buffers k = k ∷ replicate 63 0xEE

-- the assumptions hold for the node's address and profile
pub given_own : Given before buffers 7 0x2471
unfolding node_ok shape_ok settings_ok step_ok lamps_ok all_below lamp_fits lamp_ok lamp_zero
given_own =
    record {
      sound = record { node_valid = refl; eeprom_sized = refl; external_sized = refl };
      room = λ k. omega arith;
      address = inl refl;
      profile = inl refl;
    }

-- and for broadcast and any profile
pub given_all : Given before buffers broadcast_nadr any_hwpid
given_all = let g = given_own in record { sound = g.sound; room = g.room; address = inr refl; profile = inr refl }

-- the scene has no fault
pub faultless : SceneRule book 1
unfolding book_ok chained scene_of step_fault lamp_fault byte_fault step_time_ok time_ok
faultless =
    record {
      is_well_formed = refl;
      known = omega arith;
      fault_free = (refl, (refl, (refl, (refl, (refl, (refl, (refl, (refl, (refl, (refl, tt))))))))));
    }

-- an output buffer with other bytes in it; no compile call is refused
abbrev out : List ℕ
out = replicate min_output 0xCC

accepted : (a h : ℕ) → Addressable a → (compile_for book 1 a h out).refusal ≡ 0
accepted a h ad = (compile_refusals book 1 a h out).none.1 (ad, faultless, omega (arith, length-replicate {A = ℕ} min_output 0xCC))

-- the scene is compiled into two requests
pub two_requests : length (scene_requests 7 0x2471 (scene_of book 1)) ≡ 2
unfolding scene_of power_bytes entry_data pnum_of pcmd_of follows entry_bytes entries_bytes
two_requests = refl

-- of five entries and of one
pub several_entries : map length (batches_of entry_limit list_limit 0x2471 (scene_of book 1)) ≡ 5 ∷ 1 ∷ []
unfolding scene_of power_bytes entry_data pnum_of pcmd_of follows entry_bytes entries_bytes
several_entries = refl

-- the state that the step machine reaches
abbrev afterwards : State
afterwards =
    node_with (lamp 100 0 ∷ lamp 0 0 ∷ lamp 0 0 ∷ lamp 40 7 ∷ lamp 0 0 ∷ [])
    (1 ∷ 0x21 ∷ 0x22 ∷ 4 ∷ []) (0x24 ∷ 0x23 ∷ [])

machine_leaves : machine (scene_of book 1) before ≡ afterwards
unfolding scene_of time_formed step_formed machine_level machine_seconds machine_lamps machine_effect machine_step
machine_leaves = refl

-- condition 3 for the requests of the compiling rule
pub done_own : MatchesMachine batch_pcmd 7 buffers (scene_requests 7 0x2471 (scene_of book 1)) (scene_of book 1) before
done_own = (condition_3.for_address before buffers book 1 7 0x2471 given_own).rule faultless

-- for broadcast
pub done_all : MatchesMachine batch_pcmd broadcast_nadr buffers (scene_requests broadcast_nadr any_hwpid (scene_of book 1)) (scene_of book 1) before
done_all = (condition_3.for_address before buffers book 1 broadcast_nadr any_hwpid given_all).rule faultless

-- and for those in the output
pub buffer_own : MatchesMachine batch_pcmd 7 buffers (requests_in (output_of (compile_for book 1 7 0x2471 out))) (scene_of book 1) before
buffer_own = (condition_3.for_address before buffers book 1 7 0x2471 given_own).buffer out (accepted 7 0x2471 (inl (omega arith, omega arith)))

-- for broadcast
pub buffer_all : MatchesMachine batch_pcmd broadcast_nadr buffers (requests_in (output_of (compile_for book 1 broadcast_nadr any_hwpid out))) (scene_of book 1) before
buffer_all = (condition_3.for_address before buffers book 1 broadcast_nadr any_hwpid given_all).buffer out (accepted broadcast_nadr any_hwpid (inr refl))

-- the node ends with these lamps, timers and bytes
pub calls_leave : after_calls buffers (scene_requests 7 0x2471 (scene_of book 1)) before ≡ afterwards
calls_leave = done_own.final ∙ machine_leaves

-- ---- the same scene for a set of nodes

-- nodes 7 and 9
abbrev nodes : List ℕ
nodes = node_set_of (λ a. eqb a 7 || eqb a 9)

-- a node with another address and another profile
abbrev other : State
other =
    state (record {
      settings = record { address = 12; hwpid = 0x1234; dpa_value = 0; lamp_count = 3; step = 1 };
      lamps = lamp 50 60 ∷ lamp 0 0 ∷ lamp 7 0 ∷ replicate 29 off;
      ram = replicate 48 0x66;
    }) (replicate 192 0x77) (replicate (size_of External) 0x88)

-- the set names the first node and not the second; the scene has the wildcard HWPID, which both accept, so only the set decides
named : selects nodes 7 ≡ true
unfolding selects byte_of tabulate
named = refl

not_named : selects nodes 12 ≡ false
unfolding selects byte_of tabulate
not_named = refl

set_size : length nodes ≡ node_set_size
unfolding tabulate
set_size = refl

-- the second node is sound
other_sound : SoundState other
unfolding node_ok shape_ok settings_ok step_ok lamps_ok all_below lamp_fits lamp_ok lamp_zero
other_sound = record { node_valid = refl; eeprom_sized = refl; external_sized = refl }

-- the compile call is not refused
selected_accepted : (compile_selected book 1 nodes any_hwpid out).refusal ≡ 0
unfolding selects byte_of tabulate
selected_accepted =
    (selected_refusals book 1 nodes any_hwpid out).none.1 (
      record { zero_clear = refl; address = 7; address_min = omega arith; address_max = omega arith; named = refl },
      faultless,
      omega (arith, length-replicate {A = ℕ} min_output 0xCC),
    )

-- one list of requests: the scene, read back from the output
abbrev selected_list : List (List ℕ)
selected_list = requests_in (output_of (compile_selected book 1 nodes any_hwpid out))

-- the compiling rule gives three requests; the second has a list of 26 bytes, the longest allowed
pub selected_requests_lem : map length (selected_requests nodes any_hwpid (scene_of book 1)) ≡ 49 ∷ 62 ∷ 59 ∷ []
unfolding tabulate scene_of power_bytes entry_data pnum_of pcmd_of follows entry_bytes entries_bytes
selected_requests_lem = refl

-- node 7 does what the scene says
pub selected_done : MatchesMachine selective_pcmd broadcast_nadr buffers selected_list (scene_of book 1) before
selected_done = (condition_3.selected before buffers book 1 nodes any_hwpid given_all set_size named).buffer out selected_accepted

-- with these lamps, timers and bytes
pub selected_leaves : after_calls buffers selected_list before ≡ afterwards
selected_leaves = selected_done.final ∙ machine_leaves

-- node 12 stays as it is
pub other_stays : StaysUnchanged buffers selected_list other
other_stays = (condition_3.not_selected other buffers book 1 nodes any_hwpid other_sound given_own.room set_size not_named).buffer out selected_accepted
