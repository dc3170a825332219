-- What a request does to the settings, the memories and the lamps, each by itself.
use mathlib.Core.Path.{◌≡◌, refl, ap, ◌∙◌}
use mathlib.Core.List.{List}
use mathlib.Core.Bool.{false}
use Prim.Native.Nat.{ℕ}
use lib.Dec.{eqb}
use lib.ListN.{length}
use borrow.Author.Tests.{eqb-true}
use Rattle.dpa.specs.declared.settings.Settings.{Settings}
use Rattle.dpa.specs.Pnum.{lights_pnum}
use Rattle.dpa.specs.Reply.{Reply}
use Rattle.dpa.proofs.Bool.{by_cond, by_test}
use Rattle.memory.specs.declared.block.Memory.{Memory}
use Rattle.memory.specs.declared.block.Memory.TheVariants.{Eeprom, Ram, External}
use Rattle.memory.specs.Block.{memory_pnum, size_of}
use Rattle.memory.specs.Request.{memory_request}
use Rattle.memory.proofs.Requests.{request_length}
use Rattle.lights.specs.declared.lamp.Lamp.{Lamp}
use Rattle.node.proofs.Nodes.{node_ram}
use Rattle.batch.specs.Batch.{Request, reading, run_entries}
use Rattle.batch.proofs.Running.{entries_keep, entries_part}
use Rattle.node.specs.State.{State, SoundState, with_memory}
use Rattle.outcome.specs.Request.{peripheral_request, hwpid_matches, entry_after}
use Rattle.outcome.specs.Seen.{Memories, memories_of, Sized, peripheral_memories, peripheral_lamps, entry_memories, entry_lamps, list_memories, list_lamps}
use Rattle.outcome.proofs.Peripherals.{peripheral_lights, peripheral_cases}
use Rattle.outcome.proofs.BatchEntries.{entry_match, entry_mismatch, entry_cases}

-- ---- a request to a peripheral

module _ (pnum pcmd : ℕ) (d : List ℕ) (st : State) where
  -- the settings stay
  pub peripheral_settings : (peripheral_request pnum pcmd d st).after.node.settings ≡ st.node.settings
  peripheral_settings = peripheral_cases pnum pcmd d st (λ (x : Reply State). x.after.node.settings ≡ st.node.settings) (λ m. memory m _) refl (λ _. refl)
    where
      memory : (m : Memory) (b : List ℕ) → (with_memory m st b).node.settings ≡ st.node.settings
      memory Memory.Eeprom b = refl
      memory Memory.Ram b = refl
      memory Memory.External b = refl

  -- the memories change by themselves
  pub peripheral_memories_lem : memories_of (peripheral_request pnum pcmd d st).after ≡ peripheral_memories pnum pcmd d (memories_of st)
  unfolding peripheral_request peripheral_memories
  peripheral_memories_lem =
      by_test (eqb pnum (memory_pnum Eeprom)) (λ a. rw a)
      (λ a. by_test (eqb pnum (memory_pnum External)) (λ b. rw (a, b))
      (λ b. by_test (eqb pnum (memory_pnum Ram)) (λ c. rw (a, b, c))
      (λ c. by_test (eqb pnum lights_pnum) (λ e. rw (a, b, c, e)) (λ e. rw (a, b, c, e)))))

  -- only the lights change lamps
  others_leave_lamps : eqb pnum lights_pnum ≡ false → (peripheral_request pnum pcmd d st).after.node.lamps ≡ st.node.lamps
  unfolding peripheral_request
  others_leave_lamps h =
      by_test (eqb pnum (memory_pnum Eeprom)) (λ a. rw a)
      (λ a. by_test (eqb pnum (memory_pnum External)) (λ b. rw (a, b))
      (λ b. by_test (eqb pnum (memory_pnum Ram)) (λ c. rw (a, b, c)) (λ c. rw (a, b, c, h))))

  -- the lamps change by themselves
  pub peripheral_lamps_lem : (peripheral_request pnum pcmd d st).after.node.lamps ≡ peripheral_lamps st.node.settings pnum pcmd d st.node.lamps
  unfolding peripheral_lamps
  peripheral_lamps_lem =
      by_test (eqb pnum lights_pnum)
      (λ h. rw h (ap (λ (x : Reply State). x.after.node.lamps) (peripheral_lights pnum pcmd d st (eqb-true _ _ h))))
      (λ h. rw h (others_leave_lamps h))

-- ---- entries of a batch

module _ (i : Request) (st : State) where
  entry_settings : (entry_after i st).node.settings ≡ st.node.settings
  entry_settings = entry_cases i st (λ (x : Reply State). x.after.node.settings ≡ st.node.settings) (peripheral_settings i.pnum i.pcmd i.pdata st) refl

  -- an entry changes the memories by themselves
  pub entry_memories_lem : memories_of (entry_after i st) ≡ entry_memories st.node.settings i (memories_of st)
  unfolding entry_memories
  entry_memories_lem =
      let part : Reply State → Memories = λ (x : Reply State). memories_of x.after in
      by_test (hwpid_matches st.node.settings i.hwpid)
      (λ e. rw e (ap part (entry_match i st e) ∙ peripheral_memories_lem i.pnum i.pcmd i.pdata st))
      (λ e. rw e (ap part (entry_mismatch i st e)))

  -- an entry changes the lamps by themselves
  pub entry_lamps_lem : (entry_after i st).node.lamps ≡ entry_lamps st.node.settings i st.node.lamps
  unfolding entry_lamps
  entry_lamps_lem =
      let part : Reply State → List Lamp = λ (x : Reply State). x.after.node.lamps in
      by_test (hwpid_matches st.node.settings i.hwpid)
      (λ e. rw e (ap part (entry_match i st e) ∙ peripheral_lamps_lem i.pnum i.pcmd i.pdata st))
      (λ e. rw e (ap part (entry_mismatch i st e)))

-- the memories of a sound state have their sizes
pub sound_sized : (st : State) → SoundState st → Sized (memories_of st)
sound_sized st h = record { ram_sized = node_ram st.node h.node_valid; eeprom_sized = h.eeprom_sized; external_sized = h.external_sized }

-- a request to a peripheral keeps the sizes of the memories
pub peripheral_keeps_sizes : (pnum pcmd : ℕ) (d : List ℕ) (ms : Memories) → Sized ms → Sized (peripheral_memories pnum pcmd d ms)
unfolding peripheral_memories
peripheral_keeps_sizes pnum pcmd d ms h =
    let stays : (m : Memory) (b : List ℕ) → length b ≡ size_of m → length (memory_request m pcmd d b).after ≡ size_of m =
    λ m b e. request_length m d b pcmd e ∙ e in
    by_cond Sized (eqb pnum (memory_pnum Eeprom)) _ _
    (λ _. record { ram_sized = h.ram_sized; eeprom_sized = stays Eeprom ms.eeprom h.eeprom_sized; external_sized = h.external_sized })
    (λ _. by_cond Sized (eqb pnum (memory_pnum External)) _ _
    (λ _. record { ram_sized = h.ram_sized; eeprom_sized = h.eeprom_sized; external_sized = stays External ms.external h.external_sized })
    (λ _. by_cond Sized (eqb pnum (memory_pnum Ram)) _ _
    (λ _. record { ram_sized = stays Ram ms.ram h.ram_sized; eeprom_sized = h.eeprom_sized; external_sized = h.external_sized })
    (λ _. h)))

-- and so does an entry
pub entry_keeps_sizes : (s : Settings) (i : Request) (ms : Memories) → Sized ms → Sized (entry_memories s i ms)
unfolding entry_memories
entry_keeps_sizes s i ms h =
    by_cond Sized (hwpid_matches s i.hwpid) _ _ (λ _. peripheral_keeps_sizes i.pnum i.pcmd i.pdata ms h) (λ _. h)

-- the state has these settings
abbrev With : Settings → State → Type 0
With s st = st.node.settings ≡ s

with_kept : (s : Settings) (i : Request) (st : State) → With s st → With s (entry_after i st)
with_kept s i st k = entry_settings i st ∙ k

module _ (list : List ℕ) (st : State) where
  abbrev settings : Settings
  settings = st.node.settings

  -- a list leaves the settings
  pub entries_settings : (run_entries entry_after (reading list).entries st).node.settings ≡ settings
  entries_settings = entries_keep entry_after (With settings) (with_kept settings) (reading list).entries st refl

  -- a list changes the memories by themselves
  pub entries_memories : memories_of (run_entries entry_after (reading list).entries st) ≡ list_memories settings list (memories_of st)
  entries_memories =
      entries_part entry_after (entry_memories settings) memories_of (With settings) (with_kept settings)
      (λ i x k. entry_memories_lem i x ∙ ap (λ (s : Settings). entry_memories s i (memories_of x)) k) (reading list).entries st refl

  -- a list changes the lamps by themselves
  pub entries_lamps : (run_entries entry_after (reading list).entries st).node.lamps ≡ list_lamps settings list st.node.lamps
  entries_lamps =
      entries_part entry_after (entry_lamps settings) (λ (x : State). x.node.lamps) (With settings) (with_kept settings)
      (λ i x k. entry_lamps_lem i x ∙ ap (λ (s : Settings). entry_lamps s i x.node.lamps) k) (reading list).entries st refl
