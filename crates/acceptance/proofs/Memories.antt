-- A memory write of a group of adjacent byte steps: it writes the bytes as the step machine does, one step after another.
use mathlib.Core.Path.{◌≡◌, refl, sym, ◌∙◌}
use mathlib.Core.List.{List, [], ◌∷◌}
use Prim.Native.Nat.{ℕ, suc, ◌+◌, ◌≤◌, ◌<◌}
use native.Mathlib.Omega.{arith}
use lib.ListN.{length, set}
use lib.Seq.{sets}
use Rattle.dpa.specs.Reply.{reply}
use Rattle.memory.specs.declared.block.Memory.{Memory}
use Rattle.memory.specs.declared.block.Memory.TheVariants.{Eeprom, Ram}
use Rattle.memory.specs.Block.{memory_pnum, size_of, longest_of, address_bytes, write_command}
use Rattle.memory.proofs.Blocks.{BlockFits}
use Rattle.memory.proofs.Overwrite.{overwrite_sets}
use Rattle.memory.proofs.Requests.{write_byte_address}
use Rattle.node.specs.State.{State, memory_of, with_memory}
use Rattle.outcome.specs.Request.{memory_request_on_state, peripheral_request}
use Rattle.outcome.proofs.Peripherals.{memory_same, peripheral_memory}
use Rattle.book.specs.declared.step.Step.{Step}
use Rattle.step.specs.Step.{ram_kind, eeprom_kind}
use Rattle.step.specs.Machine.{machine_effect, machine_step, machine}
use Rattle.step.proofs.Faults.{Good, ram_good, eeprom_good, good_formed}
use Rattle.entries.specs.Entry.{values, pnum_of, pcmd_of}
use Rattle.entries.specs.EntrySize.{address_length}

-- the bytes that were put into a memory
bytes_with : (m : Memory) (st : State) (bytes : List ℕ) → memory_of m (with_memory m st bytes) ≡ bytes
bytes_with Memory.Eeprom st bytes = refl
bytes_with Memory.Ram st bytes = refl
bytes_with Memory.External st bytes = refl

-- the last bytes that were put into a memory replace earlier ones
with_with : (m : Memory) (st : State) (first bytes : List ℕ) → with_memory m (with_memory m st first) bytes ≡ with_memory m st bytes
with_with Memory.Eeprom st first bytes = refl
with_with Memory.Ram st first bytes = refl
with_with Memory.External st first bytes = refl

-- steps of kind k write memory m, in the step machine and as an entry
pub record Writes (k : ℕ) (m : Memory) : Type 0 where
  pub in_range : (s : Step) → Good s → s.kind ≡ k → s.target < size_of m
  pub step : (s : Step) (st : State) → Good s → s.kind ≡ k → machine_step s st ≡ with_memory m st (set (memory_of m st) s.target s.value)
  pub entry : (d : List ℕ) (st : State) → peripheral_request (pnum_of k) (pcmd_of k) d st ≡ memory_request_on_state m (write_command m) d st
  pub address : address_bytes m ≡ address_length
  pub block : (n : ℕ) → n ≤ longest_of Eeprom → n ≤ size_of m → n ≤ longest_of m

-- a step of kind RAM writes RAM
pub writes_ram : Writes ram_kind Ram
unfolding machine_step machine_effect pnum_of pcmd_of
writes_ram =
    record {
      in_range = λ s g e. (ram_good s g e).target_max;
      step = λ s st g e. rw ((good_formed s).0 g, e);
      entry = λ d st. peripheral_memory (memory_pnum Ram) (write_command Ram) d st Ram refl;
      address = refl;
      block = λ n h l. l;
    }

-- a step of kind EEPROM writes EEPROM
pub writes_eeprom : Writes eeprom_kind Eeprom
unfolding machine_step machine_effect pnum_of pcmd_of
writes_eeprom =
    record {
      in_range = λ s g e. (eeprom_good s g (omega arith)).1.target_max;
      step = λ s st g e. rw ((good_formed s).0 g, e);
      entry = λ d st. peripheral_memory (memory_pnum Eeprom) (write_command Eeprom) d st Eeprom refl;
      address = refl;
      block = λ n h l. h;
    }

-- good steps of kind k at adjacent targets from i on
abbrev pub ByteGroup : ℕ → ℕ → List Step → Type 0
ByteGroup k i [] = Unit {0}
ByteGroup k i (s ∷ ss) = Good s × (s.kind ≡ k) × (s.target ≡ i) × ByteGroup k (suc i) ss

module _ (k : ℕ) (m : Memory) (w : Writes k m) where
  group_ends : (i : ℕ) (ss : List Step) → ByteGroup k i ss → i ≤ size_of m → i + length (values ss) ≤ size_of m
  group_ends i [] r h = omega arith
  group_ends i (s ∷ ss) r h = omega (arith, group_ends (suc i) ss r.3 (omega (arith, r.2, w.in_range s r.0 r.1)))

  -- the step machine over a group
  pub machine_byte_group : (i : ℕ) (ss : List Step) (st : State) → ByteGroup k i ss → machine ss st ≡ with_memory m st (sets (memory_of m st) i (values ss))
  machine_byte_group i [] st r = sym (memory_same m st)
  machine_byte_group i (s ∷ ss) st r =
      rw (w.step s st r.0 r.1, r.2)
      (rw (machine_byte_group (suc i) ss _ r.3, bytes_with, with_with))

  -- the entry of a group: no error, and the state that the step machine reaches
  pub entry_byte_group : (i : ℕ) (s : Step) (ss : List Step) (st : State)
      → length (memory_of m st) ≡ size_of m → length (values (s ∷ ss)) ≤ longest_of Eeprom → ByteGroup k i (s ∷ ss)
      → peripheral_request (pnum_of k) (pcmd_of k) (i ∷ values (s ∷ ss)) st ≡ reply (machine (s ∷ ss) st) 0 []
  entry_byte_group i s ss st size length_max r =
      let d = values (s ∷ ss) in
      let start : i < size_of m = omega (arith, r.2, w.in_range s r.0 r.1) in
      let end_inside : i + length d ≤ size_of m = group_ends i (s ∷ ss) r (omega arith) in
      let fits : BlockFits (size_of m) (longest_of m) i (length d) =
      record { length_max = w.block (length d) length_max (omega arith); start_inside = start; end_inside = end_inside } in
      w.entry (i ∷ d) st
      ∙ rw (write_byte_address m (memory_of m st) i d w.address (omega arith) fits, overwrite_sets (memory_of m st) i d (omega arith), machine_byte_group i (s ∷ ss) st r)
