-- The worked examples, computed.
use mathlib.Core.Path.{refl}
use lib.Count.{ones, ones_in}
use Rattle.dpa.specs.Frame.{frame_fits}
use Rattle.dpa.specs.Lists.{all_below}
use Rattle.dpa.specs.NodeSet.{selects}
use Rattle.dpa.specs.Settings.{address_ok}
use Rattle.timing.specs.Slot.{base_slot, network_of, network_extra, slot_of, direction_time, earliest_of}
use Rattle.timing.specs.Confirm.{response_hops_sent}
use Rattle.queue.specs.Queue.{new_queue, wait_after, confirmation_of, all_zero, widths_ok, waiting_ok, empty_ok, place_ok, places_ok, queue_ok, clock_ok, due}
use Rattle.bonds.specs.Bonds.{bonded_node, bond_count, can_add, can_send, bonds_ok}
use Rattle.gateway.specs.Gateway.{gateway_ok, change_of, clear_of, bond_count_of, bond_bitmap_of, send_refusal, send_request, release_refusal, release_effect, release_of}
use Rattle.gateway.specs.History.{after_all, released_all}
use Rattle.gateway.specs.Examples.{call_refusals, GatewayExamples}

pub gateway_examples : GatewayExamples
unfolding new_queue bonded_node change_of send_request send_refusal release_of release_refusal release_effect gateway_ok bonds_ok bond_count clear_of bond_count_of bond_bitmap_of can_add can_send queue_ok places_ok place_ok widths_ok waiting_ok empty_ok all_zero all_below selects address_ok frame_fits clock_ok due wait_after confirmation_of base_slot network_of network_extra slot_of direction_time earliest_of response_hops_sent ones ones_in after_all released_all call_refusals
gateway_examples =
    record {
      second_waits = refl;
      mixed_released = refl;
      freed_released = refl;
      bonds_left = (refl, refl);
      bonds_counted = (refl, refl, refl, refl, refl, refl);
      broken_refused = (refl, refl);
      mixed_refused = refl;
      full_refused = refl;
      freed_refused = refl;
      frames_refused = refl;
      bonds_refused = refl;
    }
