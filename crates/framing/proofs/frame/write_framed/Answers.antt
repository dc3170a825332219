-- `frame::write_framed` meets its contract: there is room for flag, message, check byte and flag.
use Rattle.std.proofs.Common.{ℕ, arith, length-set}
use Rattle.framing.proofs.Escapes.{framed_room}
use Rattle.framing.proofs.frame.write_framed.Goals as goal

pub write_escaped_all-after_message-requires : goal.write_escaped_all-after_message-requires
write_escaped_all-after_message-requires c = omega (arith, framed_room _ _ c.requires.0 _ c.requires.1, length-set {A = ℕ})

pub write_escaped-last-requires : goal.write_escaped-last-requires
write_escaped-last-requires c = omega (arith, framed_room _ _ c.requires.0 _ c.requires.1, length-set {A = ℕ}, c.write_escaped_all-after_message.ensures.0)

pub bounds-out-last : goal.bounds-out-last
bounds-out-last c = omega (arith, framed_room _ _ c.requires.0 _ c.requires.1, length-set {A = ℕ}, c.write_escaped_all-after_message.ensures.0, c.write_escaped-last.ensures.0)
