-- The record of a receiver that the code works on.
use Rattle.std.specs.Prelude.{eqb}
use Rattle.uart.specs.declared.receiver.Receiver.{Receiver}
use Rattle.uart.specs.declared.progress.Progress.{Progress}
use Rattle.uart.specs.Receiver.{after_escape, phase_number, receiver_from, Event, frame_event}

abbrev pub receiver_of : Progress → Receiver
receiver_of p = receiver_from p.limit (phase_number p.phase) p.count p.bytes

-- what a flag ends
abbrev pub ended : Progress → Event
ended p = frame_event p.limit p.count (eqb (phase_number p.phase) after_escape) p.bytes
