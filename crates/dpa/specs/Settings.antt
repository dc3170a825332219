-- Document 01, "Node and lamps": the settings and their ranges.
use Rattle.std.specs.Prelude.{ℕ, ◌≤◌, ◌≡◌, Bool, true, ◌&&◌, ◌||◌, leb, eqb}
use Rattle.dpa.specs.declared.settings.Settings.{Settings}
use Rattle.dpa.specs.Frame.{broadcast_nadr}

-- the valid dimming steps
unfoldable pub step_ok : ℕ → Bool
step_ok s = eqb s 1 || eqb s 2 || eqb s 4 || eqb s 5 || eqb s 10 || eqb s 20 || eqb s 25 || eqb s 50 || eqb s 100

-- the highest address that a node can have
abbrev pub last_address : ℕ
last_address = 239

-- the highest number of lamps that a node can have
abbrev pub max_lamps : ℕ
max_lamps = 32

-- an address that a node can have: 1 to 239
abbrev pub node_address : ℕ → Bool
node_address a = leb 1 a && leb a last_address

-- an address that a request can have: a node's, or the broadcast address
unfoldable pub address_ok : ℕ → Bool
address_ok a = eqb a broadcast_nadr || node_address a

-- a node address, a lamp count of 1 to 32, a valid dimming step; any HWPID and DpaValue
unfoldable pub settings_ok : Settings → Bool
settings_ok s =
    node_address s.address && leb 1 s.lamp_count && leb s.lamp_count max_lamps && step_ok s.step

-- the same ranges as facts (proofs/Ranges: `settings_facts`, `settings_test`)
pub record SettingsRule (s : Settings) : Type 0 where
  pub address_min : 1 ≤ s.address
  pub address_max : s.address ≤ last_address
  pub count_min : 1 ≤ s.lamp_count
  pub count_max : s.lamp_count ≤ max_lamps
  pub step_valid : step_ok s.step ≡ true
