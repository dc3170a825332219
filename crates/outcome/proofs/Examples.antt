-- The examples, proved by computation.
use mathlib.Core.Path.{refl}
use Rattle.dpa.specs.Frame.{frame_fits}
use Rattle.dpa.specs.Lists.{all_below, fold}
use Rattle.dpa.specs.Settings.{step_ok, address_ok, settings_ok}
use Rattle.dpa.specs.NodeSet.{selects}
use Rattle.memory.specs.Block.{block_fault}
use Rattle.memory.specs.Request.{address_of, read_error, write_error, read_request, write_request, memory_request}
use Rattle.lights.specs.Lamp.{lamp_ok, lamp_zero, lamp_fits}
use Rattle.lights.specs.Lights.{lights_request}
use Rattle.checksum.specs.Sums.{add_with_carry, add_byte, sums}
use Rattle.checksum.specs.Check.{size_of_block, initial_low_of, image_error, image_matches, code_check}
use Rattle.batch.specs.Batch.{next_entry, reading_from}
use Rattle.batch.specs.Selective.{selection_of}
use Rattle.node.specs.Node.{shape_ok, lamps_ok, node_ok}
use Rattle.outcome.specs.Request.{peripheral_request, hwpid_matches, list_request, batch_request, selective_request, code_check_request, os_request, execute, handle_frame, request_refusal, handle_request}
use Rattle.outcome.specs.Examples.{RequestExamples, CallExamples}

pub request_examples : RequestExamples
unfolding fold block_fault address_of read_error write_error read_request write_request memory_request lights_request add_with_carry add_byte sums size_of_block initial_low_of image_error image_matches code_check peripheral_request selects selection_of hwpid_matches batch_request selective_request code_check_request os_request execute
request_examples =
    record {
      hwpid_first = refl;
      hwpid_first_os = refl;
      hwpid_first_selective = refl;
      pnum_second = refl;
      eeprom_pcmd = refl;
      external_pcmd = refl;
      lights_pcmd = refl;
      os_pcmd = refl;
      wildcard_accepted = refl;
      not_selected = refl;
      batch_empty = refl;
      batch_unreported = refl;
      eeprom_written = refl;
      ram_written = refl;
      external_written = refl;
      match_loads = refl;
      match_unloaded = refl;
      mismatch_unloaded = refl;
      match_answers = refl;
    }

pub call_examples : CallExamples
unfolding frame_fits all_below step_ok address_ok settings_ok lamp_ok lamp_zero lamp_fits shape_ok lamps_ok node_ok block_fault address_of read_error read_request memory_request next_entry reading_from peripheral_request hwpid_matches list_request batch_request os_request execute handle_frame request_refusal handle_request
call_examples =
    record {
      data_answered = refl;
      error_answered = refl;
      broadcast_silent = refl;
      broadcast_error = refl;
      broadcast_fault = refl;
      other_node = refl;
      other_high_byte = refl;
      refused_node = refl;
      refused_frame = refl;
      refused_buffer = refl;
      refused_memories = refl;
      shortest_accepted = refl;
      longest_accepted = refl;
      longer_refused = refl;
      eeprom_refused = refl;
      external_refused = refl;
    }
