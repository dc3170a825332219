-- The worked examples, proved by computation.
use mathlib.Core.Path.{refl}
use lib.ListN.{length}
use borrow.Author.Tests.{le-ltb}
use Rattle.dpa.specs.Frame.{frame_fits}
use Rattle.dpa.specs.Lists.{all_below}
use Rattle.dpa.specs.Settings.{step_ok, address_ok, settings_ok}
use Rattle.dpa.specs.NodeSet.{selects, selects_any, node_set_ok, byte_of, tabulate}
use Rattle.checksum.specs.Sums.{add_with_carry, add_byte, sums}
use Rattle.lights.specs.Bits.{bits, bitmap}
use Rattle.lights.specs.Lamp.{actual_level, lamp_ok, lamp_zero, lamp_fits}
use Rattle.lights.specs.Lights.{power_ok, time_ok, seconds_of, lamp_after, lamps_after, levels_before, change_lamps, lights_request}
use Rattle.batch.specs.Batch.{entry_bytes, entries_bytes, next_entry, reading_from, run_entries, errors_of}
use Rattle.batch.specs.Selective.{selection_of}
use Rattle.timing.specs.Slot.{base_slot, network_extra, slot_of, direction_time, earliest_of, send_of}
use Rattle.node.specs.Node.{shape_ok, lamps_ok, node_ok}
use Rattle.outcome.specs.Request.{peripheral_request, hwpid_matches, execute_entry, list_request, batch_request, selective_request, os_request, execute, handle_frame, request_refusal, handle_request}
use Rattle.book.specs.Book.{chained, book_ok, scene_of}
use Rattle.step.specs.Step.{step_time_ok, lamp_fault, byte_fault, step_fault}
use Rattle.entries.specs.Entry.{power_bytes, entry_data, pnum_of, pcmd_of}
use Rattle.entries.specs.Join.{follows}
use Rattle.output.specs.Output.{min_output}
use Rattle.scene.specs.Call.{compile_scene, compile_to}
use Rattle.acceptance.specs.Examples.{WorkedExamples, OwnExamples}

-- those of document 01
pub worked_examples : WorkedExamples
unfolding bits bitmap actual_level power_ok time_ok seconds_of lamp_after lamps_after levels_before change_lamps lights_request add_with_carry add_byte sums next_entry reading_from base_slot network_extra slot_of direction_time earliest_of send_of peripheral_request hwpid_matches list_request batch_request os_request execute entry_bytes entries_bytes chained book_ok scene_of step_time_ok lamp_fault byte_fault step_fault power_bytes entry_data pnum_of pcmd_of follows address_ok compile_scene compile_to
worked_examples =
    record {
      set_answers = refl;
      raise_answers = refl;
      raise_leaves = refl;
      table_requested = refl;
      table_actual = refl;
      power_65 = refl;
      power_64 = refl;
      time_80 = refl;
      sum_00 = refl;
      sum_ff = refl;
      sum_fe = refl;
      sum_64_zeros = refl;
      sum_20_zeros = refl;
      batch_00 = refl;
      batch_04_00 = refl;
      wait_340 = refl;
      book_compiles = λ out room. rw (le-ltb (length out) min_output room);
    }

-- those of our own
pub own_examples : OwnExamples
unfolding bits bitmap actual_level power_ok time_ok seconds_of lamp_after lamps_after levels_before change_lamps lights_request next_entry reading_from run_entries errors_of peripheral_request hwpid_matches execute_entry list_request batch_request selective_request os_request execute handle_frame request_refusal handle_request frame_fits step_ok settings_ok lamp_fits lamp_ok lamp_zero shape_ok lamps_ok node_ok all_below selects selects_any node_set_ok byte_of tabulate selection_of entry_bytes entries_bytes chained book_ok scene_of step_time_ok lamp_fault byte_fault step_fault power_bytes entry_data pnum_of pcmd_of follows compile_scene compile_to
own_examples =
    record {
      entry_errors = refl;
      batch_error = refl;
      unchanged = refl;
      nodes_written = refl;
      selected_empty = refl;
      selected_fault = refl;
      selected_error = refl;
      not_selected = refl;
      selected_short = refl;
      not_selected_short = refl;
      selected_answers = refl;
      selected_length = refl;
      not_selected_silent = refl;
      eight_in_an_entry = refl;
      book_selected = λ out room. rw (le-ltb (length out) min_output room);
    }
