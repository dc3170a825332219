-- Document 01, "Node and lamps": the node record and the node rule, start, actual levels, the tick.
use Rattle.std.specs.Prelude.{ℕ, ◌≤◌, ◌<◌, ◌≡◌, Bool, true, cond, ◌&&◌, List, map, replicate, get_or, length, eqb, Result, Ok, Err}
use Rattle.dpa.specs.declared.settings.Settings.{Settings}
use Rattle.dpa.specs.declared.refusal.Refusal.{Refusal}
use Rattle.dpa.specs.Lists.{all_below}
use Rattle.dpa.specs.Refusal.{refusal_number}
use Rattle.dpa.specs.Settings.{max_lamps, settings_ok}
use Rattle.dpa.specs.Sizes.{ram_size}
use Rattle.lights.specs.declared.lamp.Lamp.{Lamp}
use Rattle.lights.specs.Lamp.{off, LampRule, lamp_fits, actual_level, tick_lamp}
use Rattle.node.specs.declared.record.Node.{Node}
use Rattle.node.specs.declared.record.ReadOnly.{ReadOnly}
use Rattle.node.specs.declared.record.NodeAnswer.{NodeAnswer}
use Rattle.node.specs.declared.levels.LevelsAnswer.{LevelsAnswer}

-- the part of a node that a request only reads
abbrev pub read_only_of : Node → ReadOnly
read_only_of n = record { settings = n.settings }

-- the node with that part, these lamps and these RAM bytes
abbrev pub node_from_parts : ReadOnly → List Lamp → List ℕ → Node
node_from_parts fixed ls bytes = record { settings = fixed.settings; lamps = ls; ram = bytes }

-- a node with other lamps
abbrev pub with_lamps : Node → List Lamp → Node
with_lamps n ls = node_from_parts (read_only_of n) ls n.ram

-- a node with other RAM
abbrev pub with_ram : Node → List ℕ → Node
with_ram n bytes = node_from_parts (read_only_of n) n.lamps bytes

-- thirty-two lamps and 48 bytes of RAM, as in every node record of the code, whose arrays have these lengths
unfoldable pub shape_ok : Node → Bool
shape_ok n = eqb (length n.lamps) max_lamps && eqb (length n.ram) ram_size

-- each lamp follows the rule for its place
unfoldable pub lamps_ok : ℕ → List Lamp → Bool
lamps_ok count ls = all_below max_lamps (λ k. lamp_fits count k (get_or ls k off))

-- the node rule
unfoldable pub node_ok : Node → Bool
node_ok n = shape_ok n && settings_ok n.settings && lamps_ok n.settings.lamp_count n.lamps

-- the same rule as facts (proofs/Nodes: `node_facts`, `node_test`)
pub record NodeRule (n : Node) : Type 0 where
  pub lamps_length : length n.lamps ≡ max_lamps
  pub ram_length : length n.ram ≡ ram_size
  pub settings_valid : settings_ok n.settings ≡ true
  pub implemented : (k : ℕ) → k < n.settings.lamp_count → LampRule (get_or n.lamps k off)
  pub unimplemented : (k : ℕ) → n.settings.lamp_count ≤ k → k < max_lamps → get_or n.lamps k off ≡ off

abbrev pub node_answer : ℕ → Node → NodeAnswer
node_answer refusal n = record { refusal = refusal; node = n }

-- the answer for an outcome; a refused call answers the node n
abbrev pub node_seen : Node → Result Node Refusal → NodeAnswer
node_seen n (Ok m) = node_answer 0 m
node_seen n (Err e) = node_answer (refusal_number e) n

-- a node with every lamp and RAM byte 0
abbrev pub fresh : Settings → Node
fresh s = record { settings = s; lamps = replicate max_lamps off; ram = replicate ram_size 0 }

-- a record of zeros
abbrev pub blank : Node
blank = fresh (record { address = 0; hwpid = 0; dpa_value = 0; lamp_count = 0; step = 0 })

-- `start`: refusal 1 and a record of zeros for settings out of range
unfoldable pub start_of : Settings → NodeAnswer
start_of s = cond (settings_ok s) (node_answer 0 (fresh s)) (node_answer 1 blank)

-- each lamp's actual level
unfoldable pub actual_levels : Settings → List Lamp → List ℕ
actual_levels s ls = map (λ (l : Lamp). actual_level s l.level) ls

abbrev pub levels_answer : ℕ → List ℕ → LevelsAnswer
levels_answer refusal vs = record { refusal = refusal; levels = vs }

-- the answer for an outcome; a refused call answers zeros
abbrev pub levels_seen : Result (List ℕ) Refusal → LevelsAnswer
levels_seen (Ok vs) = levels_answer 0 vs
levels_seen (Err e) = levels_answer (refusal_number e) (replicate max_lamps 0)

-- `actual_levels`: refusal 1 and zeros for a node that breaks the node rule
unfoldable pub levels_of : Node → LevelsAnswer
levels_of n = cond (node_ok n) (levels_answer 0 (actual_levels n.settings n.lamps)) (levels_answer 1 (replicate max_lamps 0))

-- each lamp one second later
unfoldable pub tick_lamps : List Lamp → List Lamp
tick_lamps ls = map tick_lamp ls

-- a node one second later
unfoldable pub tick_node : Node → Node
tick_node n = with_lamps n (tick_lamps n.lamps)

-- `tick`: refusal 1 and the same node for one that breaks the node rule
unfoldable pub tick_of : Node → NodeAnswer
tick_of n = cond (node_ok n) (node_answer 0 (tick_node n)) (node_answer 1 n)
