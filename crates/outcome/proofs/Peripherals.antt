-- Requests to peripherals, by PNUM.
use mathlib.Core.Path.{◌≡◌, refl, ap}
use mathlib.Core.List.{List}
use Prim.Native.Nat.{ℕ}
use lib.Dec.{eqb}
use borrow.Author.Tests.{ne_eqb}
use Rattle.dpa.specs.Pnum.{lights_pnum}
use Rattle.dpa.specs.Reply.{Reply, error_reply}
use Rattle.dpa.proofs.Bool.{by_cond}
use Rattle.memory.specs.declared.block.Memory.{Memory}
use Rattle.memory.specs.declared.block.Memory.TheVariants.{Eeprom, Ram, External}
use Rattle.memory.specs.Block.{memory_pnum}
use Rattle.node.specs.State.{State, memory_of, with_memory}
use Rattle.outcome.specs.Request.{memory_request_on_state, lights_request_on_state, peripheral_request}

module _ (pnum pcmd : ℕ) (d : List ℕ) (st : State) where
  -- the PNUM of a memory
  pub peripheral_memory : (m : Memory) → pnum ≡ memory_pnum m → peripheral_request pnum pcmd d st ≡ memory_request_on_state m pcmd d st
  unfolding peripheral_request
  peripheral_memory Memory.Eeprom e = ap (λ (p : ℕ). peripheral_request p pcmd d st) e
  peripheral_memory Memory.Ram e = ap (λ (p : ℕ). peripheral_request p pcmd d st) e
  peripheral_memory Memory.External e = ap (λ (p : ℕ). peripheral_request p pcmd d st) e

  -- the PNUM of the lights
  pub peripheral_lights : pnum ≡ lights_pnum → peripheral_request pnum pcmd d st ≡ lights_request_on_state pcmd d st
  unfolding peripheral_request
  peripheral_lights e = ap (λ (p : ℕ). peripheral_request p pcmd d st) e

  -- any other PNUM
  pub peripheral_unknown : (pnum ≡ memory_pnum Eeprom → ⊥) → (pnum ≡ memory_pnum External → ⊥) → (pnum ≡ memory_pnum Ram → ⊥) → (pnum ≡ lights_pnum → ⊥)
      → peripheral_request pnum pcmd d st ≡ error_reply st 3
  unfolding peripheral_request
  peripheral_unknown a b c e = simp (ne_eqb pnum (memory_pnum Eeprom) a, ne_eqb pnum (memory_pnum External) b, ne_eqb pnum (memory_pnum Ram) c, ne_eqb pnum lights_pnum e)

  -- a property of replies holds for every PNUM if it holds for each memory, for the lights and for every error
  pub peripheral_cases : (P : Reply State → Type 0) → ((m : Memory) → P (memory_request_on_state m pcmd d st)) → P (lights_request_on_state pcmd d st)
      → ((e : ℕ) → P (error_reply st e)) → P (peripheral_request pnum pcmd d st)
  unfolding peripheral_request
  peripheral_cases P memory lights error =
      by_cond P (eqb pnum (memory_pnum Eeprom)) _ _ (λ _. memory Eeprom)
      (λ _. by_cond P (eqb pnum (memory_pnum External)) _ _ (λ _. memory External)
      (λ _. by_cond P (eqb pnum (memory_pnum Ram)) _ _ (λ _. memory Ram)
      (λ _. by_cond P (eqb pnum lights_pnum) _ _ (λ _. lights) (λ _. error 3))))

-- putting back the bytes of a memory changes nothing
pub memory_same : (m : Memory) (st : State) → with_memory m st (memory_of m st) ≡ st
memory_same Memory.Eeprom st = refl
memory_same Memory.Ram st = refl
memory_same Memory.External st = refl
