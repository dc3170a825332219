-- Document 01, "Lights 71": set, raise and lower by a list of power entries, and enumerate. Document 02, change 2: keep with a time.
use Rattle.std.specs.Prelude.{ℕ, zero, suc, ◌+◌, ◌-◌, ◌*◌, ◌%◌, min, List, [], ◌∷◌, Bool, true, false, cond, not, ◌&&◌, ◌||◌, length, drop, ltb, leb, eqb, Option, Some, None, Result, Ok, Err}
use Rattle.dpa.specs.Reply.{Reply, reply, error_reply}
use Rattle.dpa.specs.declared.error.ErrN.{ErrN}
use Rattle.dpa.specs.declared.error.ErrN.TheVariants.{Pcmd}
use Rattle.dpa.specs.declared.settings.Settings.{Settings}
use Rattle.lights.specs.Bits.{bitmap_size, count, bitmap}
use Rattle.lights.specs.Lamp.{max_level, changed, actual_level}
use Rattle.lights.specs.declared.lamp.Lamp.{Lamp}
use Rattle.lights.specs.declared.power.PowerEntry.{PowerEntry}
use Rattle.lights.specs.declared.apply.Command.{Command}
use Rattle.lights.specs.declared.apply.Command.TheVariants.{Set, Raise, Lower}

-- the PCMD of each command
abbrev pub command_pcmd : Command → ℕ
command_pcmd Set = 0x00
command_pcmd Raise = 0x01
command_pcmd Lower = 0x02

abbrev pub enumerate_pcmd : ℕ
enumerate_pcmd = 0x3E

-- ---- one power entry

-- the power that keeps a lamp's level
abbrev pub keep_power : ℕ
keep_power = 127

-- the low seven bits of a power byte: a level, or keep
unfoldable pub power_ok : ℕ → Bool
power_ok p = leb p max_level || eqb p keep_power

-- the top bit of a power byte: a time byte follows; of a time byte: seconds, not minutes
abbrev pub bit7 : ℕ
bit7 = 128

-- a time byte: any but 00 and 80 hex
unfoldable pub time_ok : ℕ → Bool
time_ok t = not (eqb (t % bit7) 0)

-- the seconds of a time byte: minutes up to 7F hex, else the low seven bits are seconds
unfoldable pub seconds_of : ℕ → ℕ
seconds_of t = cond (ltb t bit7) (60 * t) (t % bit7)

-- a power entry: what it changes, and its size; the seconds are 0 exactly if it has no time byte (proofs/PowerEntries: `untimed_exact`)
abbrev pub power_entry : (power seconds size : ℕ) → PowerEntry
power_entry p s n = record { power = p; seconds = s; size = n }

-- the power entry of power p whose time byte comes next
abbrev pub timed_power_entry : ℕ → List ℕ → Option PowerEntry
timed_power_entry p [] = None
timed_power_entry p (t ∷ xs) = cond (time_ok t) (Some (power_entry p (seconds_of t) 2)) None

-- the power entry at the front of the bytes: a power byte and, if bit 7 is set, a time byte; none if it is invalid
abbrev pub first_power_entry : List ℕ → Option PowerEntry
first_power_entry [] = None
first_power_entry (b ∷ xs) =
    cond (power_ok (b % bit7))
    (cond (ltb b bit7) (Some (power_entry (b % bit7) 0 1)) (timed_power_entry (b % bit7) xs))
    None

-- ---- all power entries, checked before any lamp changes

-- malformed: an invalid power entry, too few bytes or too many
pub data PowerEntries : Type 0 where
  all_valid : List PowerEntry → PowerEntries
  malformed : PowerEntries

abbrev pub prepend : PowerEntry → PowerEntries → PowerEntries
prepend e (all_valid es) = all_valid (e ∷ es)
prepend e malformed = malformed

-- a power entry and the power entries after it; `rest` takes its size
abbrev pub followed_by : Option PowerEntry → (ℕ → PowerEntries) → PowerEntries
followed_by (Some e) rest = prepend e (rest e.size)
followed_by None rest = malformed

-- exactly n valid power entries, and no byte after them
abbrev pub power_entries : ℕ → List ℕ → PowerEntries
power_entries zero [] = all_valid []
power_entries zero (x ∷ xs) = malformed
power_entries (suc n) xs = followed_by (first_power_entry xs) (λ size. power_entries n (drop size xs))

-- ---- a lamp after its power entry

-- raise and lower start from the requested level and stay within 0 to 100
abbrev pub new_level : Command → ℕ → ℕ → ℕ
new_level Set level power = power
new_level Raise level power = min (level + power) max_level
new_level Lower level power = level - power

-- a lamp gets a level and a time for it, 0 for none; no timer runs at level 0
abbrev pub with_timer : Lamp → ℕ → ℕ → Lamp
with_timer l level seconds = changed l level (cond (eqb level 0) 0 seconds)

-- keep: the level stays; a time is for that level and replaces the seconds left, and without a time they stay too
-- (proofs/Keep: `kept_level`, `kept_untimed`, `kept_lit`, `kept_off`; in a request proofs/Requests: `kept_at`)
abbrev pub kept : Lamp → ℕ → Lamp
kept l seconds = cond (eqb seconds 0) l (with_timer l l.level seconds)

-- any other power gives a new level with the time of the power entry; without a time the timer stops
unfoldable pub lamp_after : Command → Lamp → ℕ → ℕ → Lamp
lamp_after c l power seconds = cond (eqb power keep_power) (kept l seconds) (with_timer l (new_level c l.level power) seconds)

-- ---- all lamps, of which the first n are implemented; the lowest selected lamp takes the first power entry
-- (lamp by lamp in proofs/Requests: `lamp_at`, `level_at`)

-- a power entry for an unimplemented lamp has no effect
unfoldable pub lamps_after : Command → ℕ → List ℕ → List PowerEntry → List Lamp → List Lamp
lamps_after c n [] es ls = ls
lamps_after c n (b ∷ bs) es [] = []
lamps_after c n (zero ∷ bs) es (l ∷ ls) = l ∷ lamps_after c (n - 1) bs es ls
lamps_after c n (suc b ∷ bs) [] (l ∷ ls) = l ∷ ls
lamps_after c n (suc b ∷ bs) (e ∷ es) (l ∷ ls) =
    cond (ltb 0 n) (lamp_after c l e.power e.seconds) l ∷ lamps_after c (n - 1) bs es ls

-- the response data: the actual level of each selected lamp before the change, 0 for an unimplemented one
unfoldable pub levels_before : Settings → ℕ → List ℕ → List Lamp → List ℕ
levels_before s n [] ls = []
levels_before s n (b ∷ bs) [] = []
levels_before s n (zero ∷ bs) (l ∷ ls) = levels_before s (n - 1) bs ls
levels_before s n (suc b ∷ bs) (l ∷ ls) = cond (ltb 0 n) (actual_level s l.level) 0 ∷ levels_before s (n - 1) bs ls

-- ---- the request

-- the ErrN of each case of a power entry
abbrev pub power_entry_error : Option PowerEntry → ℕ
power_entry_error (Some e) = 0
power_entry_error None = 6

-- the ErrN of a request with a missing bitmap, or with power entries of which one is invalid or missing or that do not fill PData
abbrev pub malformed_error : ℕ
malformed_error = power_entry_error None

-- the reply to set, raise and lower
abbrev pub levels_reply : Settings → Command → List ℕ → List Lamp → PowerEntries → Reply (List Lamp)
levels_reply s c bs ls (all_valid es) =
    reply (lamps_after c s.lamp_count bs es ls) 0 (levels_before s s.lamp_count bs ls)
levels_reply s c bs ls malformed = error_reply ls malformed_error

-- PData of set, raise and lower: the bitmap, then a power entry for each selected lamp
unfoldable pub change_lamps : Settings → Command → List ℕ → List Lamp → Reply (List Lamp)
change_lamps s c xs ls =
    cond (ltb (length xs) bitmap_size) (error_reply ls malformed_error)
    (levels_reply s c (bitmap xs) ls (power_entries (count (bitmap xs)) (drop bitmap_size xs)))

-- enumerate: no PData, and the lamp count in the response
unfoldable pub enumerate_lamps : Settings → List ℕ → List Lamp → Reply (List Lamp)
enumerate_lamps s xs ls = cond (eqb (length xs) 0) (reply ls 0 (s.lamp_count ∷ [])) (error_reply ls 5)

-- a request by its PCMD; an unknown one is error 2
unfoldable pub lights_request : Settings → ℕ → List ℕ → List Lamp → Reply (List Lamp)
lights_request s pcmd xs ls =
    cond (eqb pcmd (command_pcmd Set)) (change_lamps s Set xs ls)
    (cond (eqb pcmd (command_pcmd Raise)) (change_lamps s Raise xs ls)
    (cond (eqb pcmd (command_pcmd Lower)) (change_lamps s Lower xs ls)
    (cond (eqb pcmd enumerate_pcmd) (enumerate_lamps s xs ls)
    (error_reply ls 2))))

-- ---- results of inner functions of the code

-- a power entry is valid if it has no error
abbrev pub is_valid : Option PowerEntry → Bool
is_valid entry = eqb (power_entry_error entry) 0

-- all power entries are valid, and they fill PData
abbrev pub are_valid : PowerEntries → Bool
are_valid (all_valid es) = true
are_valid malformed = false

-- the changes of the power entries; none if they are malformed
abbrev pub changes_of : PowerEntries → List PowerEntry
changes_of (all_valid es) = es
changes_of malformed = []

-- PData of set, raise and lower is well formed: the bitmap, a valid power entry for each selected lamp, and no byte after them
unfoldable pub well_formed : List ℕ → Bool
well_formed xs = cond (ltb (length xs) bitmap_size) false (are_valid (power_entries (count (bitmap xs)) (drop bitmap_size xs)))

-- a request changes lamps: set, raise or lower with well-formed PData
unfoldable pub changes_lamps : ℕ → List ℕ → Bool
changes_lamps pcmd xs = leb pcmd (command_pcmd Lower) && well_formed xs

-- the command of a PCMD up to lower's
unfoldable pub command_of : ℕ → Command
command_of pcmd = cond (eqb pcmd (command_pcmd Set)) Set (cond (eqb pcmd (command_pcmd Raise)) Raise Lower)

-- the same for any PCMD: one above lower's is none of the three
unfoldable pub command_read : ℕ → Result Command ErrN
command_read pcmd = cond (leb pcmd (command_pcmd Lower)) (Ok (command_of pcmd)) (Err Pcmd)
