-- `Bonds::change`: one bit more or less in the byte of the address.
use mathlib.Core.Path.{◌≡◌, sym, ap, ap₂, ◌∙◌}
use mathlib.Core.Bool.{true, false}
use Prim.Native.Nat.{ℕ, ◌+◌, ◌-◌, ◌/◌}
use native.Mathlib.Omega.{arith}
use lib.ListN.{get_or, set}
use Rattle.dpa.proofs.NodeSets.{added_small, named_min}
use Rattle.bonds.specs.declared.addresses.BondChange.{BondChange}
use Rattle.bonds.specs.Bonds.{adds, can_change, changed_bonds, bonds_ok}
use Rattle.bonds.proofs.Bonds.{bonds_facts, add_facts, remove_facts, node_inside, changed_inside, changed_sound}
use Rattle.bonds.proofs.addresses.Bonds.change.Goals.{in-Add, in-Remove}
use Rattle.bonds.proofs.addresses.Bonds.change.Goals as goal

pub bounds-bytes-from : goal.bounds-bytes-from
bounds-bytes-from c = let a = c.args in omega (arith, changed_inside (adds a.change) a.self.bytes a.address c.requires)

pub overflow_add-byte : goal.overflow_add-byte
overflow_add-byte c =
    let b = c.args.self.bytes in
    let a = c.args.address in
    let asked : can_change true b a ≡ true = rw c.in-Add.is at c.requires in
    let f = add_facts b a asked in
    record { fits = rw (c.from.ensures, c.bit_of.ensures) (added_small b a (node_inside b a c.args.self.sound f.0) ((bonds_facts b c.args.self.sound).bytes (a / 8)) f.1) }

pub overflow_sub-byte : goal.overflow_sub-byte
overflow_sub-byte c =
    let b = c.args.self.bytes in
    let a = c.args.address in
    let asked : can_change false b a ≡ true = rw c.in-Remove.is at c.requires in
    rw (c.from.ensures, c.bit_of-in-Remove.ensures) (named_min b a (remove_facts b a asked).1)

pub invariant_of-result : goal.invariant_of-result
invariant_of-result c =
    let a = c.args in
    let b = a.self.bytes in
    let next : c.match-change.bytes ≡ changed_bonds (adds a.change) b a.address =
    elim c.match-change.branch [
      | in-Add w ↦ w.bytes-is ∙ ap₂ (λ (i x : ℕ). set b i (get_or b i 0 + x)) c.from.ensures w.bit_of.ensures ∙ sym (ap (λ (k : BondChange). changed_bonds (adds k) b a.address) w.in-Add.is)
      | in-Remove w ↦ w.bytes-is ∙ ap₂ (λ (i x : ℕ). set b i (get_or b i 0 - x)) c.from.ensures w.bit_of-in-Remove.ensures ∙ sym (ap (λ (k : BondChange). changed_bonds (adds k) b a.address) w.in-Remove.is)
    ] in
    record { sound = ap bonds_ok next ∙ changed_sound (adds a.change) b a.address a.self.sound c.requires }
