-- What a request changes: an answer is found first, and then the request has an effect on the node and the memories.
use Rattle.std.specs.Prelude.{◌≡◌, Bool, true, cond, ◌&&◌, ℕ, ◌≤◌, length, drop, eqb}
use Rattle.dpa.specs.NodeSet.{node_set_size}
use Rattle.dpa.specs.Pnum.{os_pnum, lights_pnum}
use Rattle.lights.specs.declared.apply.Command.TheVariants.{Lower}
use Rattle.lights.specs.Lights.{command_pcmd, changes_lamps}
use Rattle.batch.specs.Batch.{batch_pcmd, Request, reading, run_entries}
use Rattle.batch.specs.Selective.{selective_pcmd}
use Rattle.node.specs.State.{State}
use Rattle.outcome.specs.declared.reply.Effect.{Effect}
use Rattle.outcome.specs.declared.reply.Effect.TheVariants.{Nothing, Lamps, Alone, Batch, Selective}
use Rattle.outcome.specs.Request.{Outcome, peripheral_request, entry_after}

-- a request that is answered and has no error
abbrev pub succeeded : Outcome → Bool
succeeded done = done.answered && eqb done.error 0

-- without success there is no effect
unfoldable pub on_success : Outcome → Effect → Effect
on_success done effect = cond (succeeded done) effect Nothing

-- the effect of an OS request that succeeded: a batch and a selective batch run their lists, any other changes nothing
abbrev pub os_effect : ℕ → Effect
os_effect pcmd = cond (eqb pcmd batch_pcmd) Batch (cond (eqb pcmd selective_pcmd) Selective Nothing)

-- the effect of a request to a peripheral that succeeded: it acts by itself, on the lamps if it is for the lights
abbrev pub peripheral_effect : ℕ → Effect
peripheral_effect pnum = cond (eqb pnum lights_pnum) Lamps Alone

-- the effect of a request that succeeded
abbrev pub request_effect : Request → Effect
request_effect i = cond (eqb i.pnum os_pnum) (os_effect i.pcmd) (peripheral_effect i.pnum)

-- the effect of a request with this outcome
abbrev pub effect_of : Request → Outcome → Effect
effect_of i done = on_success done (request_effect i)

-- the state after an effect
abbrev pub after_effect : Effect → Request → State → State
after_effect Nothing i st = st
after_effect Lamps i st = (peripheral_request i.pnum i.pcmd i.pdata st).after
after_effect Alone i st = (peripheral_request i.pnum i.pcmd i.pdata st).after
after_effect Batch i st = run_entries entry_after (reading i.pdata).entries st
after_effect Selective i st = run_entries entry_after (reading (drop node_set_size i.pdata)).entries st

-- what the answer found out: which requests are for the lights, set, raise and lower have valid power entries, and a selective batch has
-- a node set
pub record EffectKnown (effect : Effect) (i : Request) : Type 0 where
  pub lights : effect ≡ Lamps → i.pnum ≡ lights_pnum
  pub changes : effect ≡ Lamps → i.pcmd ≤ command_pcmd Lower → changes_lamps i.pcmd i.pdata ≡ true
  pub not_lights : effect ≡ Alone → i.pnum ≡ lights_pnum → ⊥
  pub node_set : effect ≡ Selective → node_set_size ≤ length i.pdata
