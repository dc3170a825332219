-- Document 01, "FRC": the two-bit answer to a command, given user data and two hardware masks.
use Rattle.std.specs.Prelude.{ℕ, ◌%◌, Bool, true, false, cond, not, ◌&&◌, ◌||◌, List, get_or, length, leb, ltb, eqb, Option, Some, None, Result, Ok, Err}
use Rattle.dpa.specs.Lists.{bit_of}
use Rattle.dpa.specs.declared.refusal.Refusal.{Refusal}
use Rattle.dpa.specs.Pnum.{lights_pnum}
use Rattle.dpa.specs.Refusal.{refusal_number}
use Rattle.lights.specs.Lamp.{off, actual_level}
use Rattle.node.specs.declared.record.Node.{Node}
use Rattle.node.specs.declared.frc.Command.{Command}
use Rattle.node.specs.declared.frc.Command.TheVariants.{On, Alarm}
use Rattle.node.specs.declared.frc.FrcAnswer.{FrcAnswer}
use Rattle.node.specs.declared.frc.FrcValue.{FrcValue}
use Rattle.node.specs.declared.frc.FrcValue.TheVariants.{NotImplemented, No, Yes}
use Rattle.node.specs.declared.frc.UnknownCommand.{UnknownCommand}
use Rattle.node.specs.Node.{node_ok}

-- the commands: is the lamp on, and is its alarm set?
abbrev pub on_command : ℕ
on_command = 0x10

abbrev pub alarm_command : ℕ
alarm_command = 0x11

-- the value if the command or the lamp is not implemented
abbrev pub not_implemented : ℕ
not_implemented = 1

-- the value otherwise: 3 for yes, 2 for no
abbrev pub two_bits : Bool → ℕ
two_bits b = cond b 3 2

-- bit i of a mask, for lamp i
unfoldable pub bit_set : ℕ → ℕ → Bool
bit_set mask i = bit_of mask i

-- the lamp that is asked about: the low five bits of the second byte
abbrev pub lamp_index_range : ℕ
lamp_index_range = 32

abbrev pub lamp_asked : List ℕ → ℕ
lamp_asked user = get_or user 1 0 % lamp_index_range

-- one of the two commands
unfoldable pub is_command : ℕ → Bool
is_command command = eqb command on_command || eqb command alarm_command

-- one of these commands, at least two bytes of user data, the first the PNUM of the lights, and a lamp below the count
unfoldable pub asks_lamp : ℕ → ℕ → List ℕ → Bool
asks_lamp count command user =
    is_command command && leb 2 (length user) && eqb (get_or user 0 0) lights_pnum && ltb (lamp_asked user) count

-- a lamp's actual level is not 0, or its stuck bit is set
unfoldable pub is_on : Node → ℕ → ℕ → Bool
is_on n k stuck = not (eqb (actual_level n.settings (get_or n.lamps k off).level) 0) || bit_set stuck k

-- not asked; else the answer to the command
unfoldable pub frc_value : Node → (command : ℕ) → List ℕ → (stuck alarm : ℕ) → ℕ
frc_value n command user stuck alarm =
    cond (asks_lamp n.settings.lamp_count command user)
    (two_bits (cond (eqb command on_command) (is_on n (lamp_asked user) stuck) (bit_set alarm (lamp_asked user))))
    not_implemented

abbrev pub frc_answer : ℕ → ℕ → FrcAnswer
frc_answer refusal v = record { refusal = refusal; value = v }

-- `frc`: refusal 1 for a node that breaks the node rule
unfoldable pub frc_of : Node → (command : ℕ) → List ℕ → (stuck alarm : ℕ) → FrcAnswer
frc_of n command user stuck alarm = cond (node_ok n) (frc_answer 0 (frc_value n command user stuck alarm)) (frc_answer 1 0)

-- ---- results of inner functions of the code

-- the command of a number
abbrev pub command_read : ℕ → Result Command UnknownCommand
command_read number =
    cond (eqb number on_command) (Ok On) (cond (eqb number alarm_command) (Ok Alarm) (Err (record { 0 = number })))

-- the lamp that user data asks about, if it is one of the first `count`
abbrev pub asked_lamp : ℕ → List ℕ → Option ℕ
asked_lamp count user =
    cond (leb 2 (length user) && eqb (get_or user 0 0) lights_pnum && ltb (lamp_asked user) count) (Some (lamp_asked user)) None

-- the number of a value
abbrev pub value_number : FrcValue → ℕ
value_number NotImplemented = not_implemented
value_number No = two_bits false
value_number Yes = two_bits true

-- the answer for an outcome; a refused call answers 0
abbrev pub frc_seen : Result FrcValue Refusal → FrcAnswer
frc_seen (Ok v) = frc_answer 0 (value_number v)
frc_seen (Err e) = frc_answer (refusal_number e) 0
