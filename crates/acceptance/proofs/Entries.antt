-- One entry of joined steps: it has no error, and ends in the state that the step machine reaches.
use mathlib.Core.Path.{◌≡◌, refl, sym, ap, subst, ◌∙◌}
use mathlib.Core.Bool.{true}
use mathlib.Core.List.{List, [], ◌∷◌}
use Prim.Native.Nat.{ℕ, suc, ◌≤◌, ◌<◌}
use native.Mathlib.Omega.{arith}
use lib.Dec.{ltb, eqb}
use lib.ListN.{length}
use borrow.Author.Tests.{lt-ltb, le-ltb, ltb-true, ltb-false, eqb-true, eqb-false}
use Rattle.dpa.specs.Frame.{pdata_max}
use Rattle.dpa.specs.Reply.{Reply}
use Rattle.dpa.proofs.Bool.{by_test, and_left, and_right}
use Rattle.memory.specs.declared.block.Memory.{Memory}
use Rattle.memory.specs.declared.block.Memory.TheVariants.{Eeprom, Ram}
use Rattle.memory.specs.Block.{size_of}
use Rattle.node.specs.State.{State, SoundState, memory_of}
use Rattle.node.proofs.Nodes.{node_lamps, node_ram}
use Rattle.outcome.specs.Request.{hwpid_matches, peripheral_request, execute_entry}
use Rattle.outcome.proofs.BatchEntries.{entry_match}
use Rattle.book.specs.declared.step.Step.{Step}
use Rattle.step.specs.Step.{ram_kind, eeprom_kind}
use Rattle.step.specs.Machine.{machine}
use Rattle.step.proofs.Faults.{eeprom_good}
use Rattle.entries.specs.Entry.{entry_data, pnum_of, pcmd_of, joined_entry}
use Rattle.entries.specs.Join.{follows}
use Rattle.entries.proofs.EntryGroups.{Linked, EntryGroup}
use Rattle.output.specs.Requests.{Limits}
use Rattle.acceptance.proofs.Lamps.{LampGroup, entry_lamp_group}
use Rattle.acceptance.proofs.Memories.{Writes, writes_ram, writes_eeprom, ByteGroup, entry_byte_group}

-- the targets of joined lamp steps ascend
lamp_group : (k : ℕ) → k < ram_kind → (p : Step) (ss : List Step) → p.kind ≡ k → Linked p ss → LampGroup k (suc p.target) ss
unfolding follows
lamp_group k h p [] e l = tt
lamp_group k h p (s ∷ ss) e l =
    let same : s.kind ≡ k = eqb-true _ _ (and_left _ _ l.1) ∙ e in
    let up : p.target < s.target = ltb-true _ _ (rw (e, lt-ltb k ram_kind h) at (and_right (eqb s.kind p.kind) _ l.1)) in
    (l.0, same, up, lamp_group k h s ss same l.2)

-- those of memory steps are adjacent
byte_group : (k : ℕ) → ram_kind ≤ k → (p : Step) (ss : List Step) → p.kind ≡ k → Linked p ss → ByteGroup k (suc p.target) ss
unfolding follows
byte_group k h p [] e l = tt
byte_group k h p (s ∷ ss) e l =
    let same : s.kind ≡ k = eqb-true _ _ (and_left _ _ l.1) ∙ e in
    let next : s.target ≡ suc p.target = eqb-true _ _ (rw (e, le-ltb k ram_kind h) at (and_right (eqb s.kind p.kind) _ l.1)) in
    (l.0, same, next, rw next at (byte_group k h s ss same l.2))

-- no error, and this state
abbrev Leaves : State → Reply State → Type 0
Leaves st a = (a.error ≡ 0) × (a.after ≡ st)

module _ (limit : ℕ) (fits-frame : limit ≤ pdata_max) (s : Step) (ss : List Step) (st : State) (r : EntryGroup limit (s ∷ ss)) where
  abbrev done : Reply State
  done = peripheral_request (pnum_of s.kind) (pcmd_of s.kind) (entry_data s ss) st

  -- a lamp entry
  lamps_perform : s.kind < ram_kind → SoundState st → Leaves (machine (s ∷ ss) st) done
  unfolding entry_data
  lamps_perform h k =
      let q : LampGroup s.kind 0 (s ∷ ss) = (r.0, refl, omega arith, lamp_group s.kind h s ss refl r.1) in
      rw (lt-ltb s.kind ram_kind h, entry_lamp_group s.kind h (s ∷ ss) st (node_lamps st.node k.node_valid) q) (refl, refl)

  -- a memory entry
  bytes_perform : (m : Memory) → Writes s.kind m → ram_kind ≤ s.kind → length (memory_of m st) ≡ size_of m → Leaves (machine (s ∷ ss) st) done
  unfolding entry_data
  bytes_perform m w h size =
      let q : ByteGroup s.kind s.target (s ∷ ss) = (r.0, refl, refl, byte_group s.kind h s ss refl r.1) in
      let length_max = rw (le-ltb s.kind ram_kind h) at r.2 in
      rw (le-ltb s.kind ram_kind h, entry_byte_group s.kind m w s.target s ss st size (omega arith) q) (refl, refl)

  -- an entry of any kind
  kinds_perform : SoundState st → Leaves (machine (s ∷ ss) st) done
  kinds_perform k =
      by_test (ltb s.kind ram_kind) (λ t. lamps_perform (ltb-true s.kind ram_kind t) k)
      (λ t. by_test (eqb s.kind ram_kind)
      (λ u. let e : s.kind ≡ ram_kind = eqb-true s.kind ram_kind u in
      bytes_perform Ram (subst (λ (j : ℕ). Writes j Ram) (sym e) writes_ram) (ltb-false s.kind ram_kind t) (node_ram st.node k.node_valid))
      (λ u. let h : ram_kind < s.kind = omega (arith, ltb-false s.kind ram_kind t, eqb-false s.kind ram_kind u) in
      let e : s.kind ≡ eeprom_kind = (eeprom_good s r.0 h).0 in
      bytes_perform Eeprom (subst (λ (j : ℕ). Writes j Eeprom) (sym e) writes_eeprom) (omega arith) k.eeprom_sized))

-- an entry that joining makes, for a profile that the node accepts: no error, and the state that the step machine reaches
pub group_performs : {entry_max list_max : ℕ} {front : List ℕ} → Limits entry_max list_max front → (h : ℕ) (group : List Step) (st : State)
    → EntryGroup entry_max group → SoundState st → hwpid_matches st.node.settings h ≡ true
    → ((execute_entry (joined_entry h group) st).error ≡ 0) × ((execute_entry (joined_entry h group) st).after ≡ machine group st)
group_performs limits h [] st r k f = absurd r
group_performs {entry_max} limits h (s ∷ ss) st r k f =
    let e = entry_match (joined_entry h (s ∷ ss)) st f in
    let d = kinds_perform entry_max (omega (arith, limits.list, limits.frame)) s ss st r k in
    (ap (λ (a : Reply State). a.error) e ∙ d.0, ap (λ (a : Reply State). a.after) e ∙ d.1)
