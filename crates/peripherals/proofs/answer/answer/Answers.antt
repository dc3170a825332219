-- A sound node has RAM of its size, and settings and lamps as the lights ask for them.
use Rattle.node.proofs.Nodes.{node_settings, node_levels, node_ram}
use Rattle.peripherals.proofs.answer.answer.Goals as goal

pub answer-requires-in-5 : goal.answer-requires-in-5
answer-requires-in-5 c = (node_ram _ c.requires.0.node_valid, c.requires.1)

pub request-requires : goal.request-requires
request-requires c = (node_settings _ c.requires.0.node_valid, node_levels _ c.requires.0.node_valid, c.requires.1)
