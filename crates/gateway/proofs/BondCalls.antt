-- Laws of the calls on the bonds: `bond` and `unbond` undo each other, and the count and the bitmap agree.
use mathlib.Core.Path.{◌≡◌, refl, ap, ◌∙◌}
use mathlib.Core.Bool.{Bool, true, false, cond, not}
use mathlib.Core.List.{List}
use Prim.Native.Nat.{ℕ}
use native.Mathlib.Omega.{arith}
use Rattle.dpa.specs.Lists.{number_below}
use Rattle.dpa.specs.NodeSet.{selects}
use Rattle.dpa.proofs.Bool.{and_left, and_right, both}
use Rattle.gateway.specs.declared.record.Gateway.{Gateway}
use Rattle.gateway.specs.declared.record.BondAnswer.{BondAnswer}
use Rattle.bonds.specs.Bonds.{can_change, changed_bonds, bonds_ok}
use Rattle.queue.specs.Queue.{queue_ok}
use Rattle.gateway.specs.Gateway.{gateway_from, gateway_ok, bonds_answer, bond_refused, change_of, bond_count_of, bond_bitmap_of}
use Rattle.bonds.proofs.Bonds.{changed_sound, changed_back, changed_undone, count_bonded}

-- a gateway that is sound has sound bonds
pub gateway_bonds : (g : Gateway) → gateway_ok g ≡ true → bonds_ok g.bonds ≡ true
unfolding gateway_ok
gateway_bonds g ok = and_left _ (queue_ok g.queue) ok

-- a sound gateway with other sound bonds is sound
pub gateway_with : (g : Gateway) (b : List ℕ) → gateway_ok g ≡ true → bonds_ok b ≡ true → gateway_ok (gateway_from b g.queue) ≡ true
unfolding gateway_ok
gateway_with g b ok e = both e (and_right (bonds_ok g.bonds) _ ok)

module _ (add : Bool) (g : Gateway) (a : ℕ) where
  -- if a `bond` or `unbond` is not refused, the gateway is sound and the address can be changed
  pub change_taken : (change_of add g a).refusal ≡ 0 → (gateway_ok g ≡ true) × (can_change add g.bonds a ≡ true)
  unfolding change_of
  change_taken = not_refused (gateway_ok g) (can_change add g.bonds a)
    where
      not_refused : (ok can : Bool)
          → (cond (not ok) (bond_refused 1 g) (cond (not can) (bond_refused 12 g) (bonds_answer g (changed_bonds add g.bonds a)))).refusal ≡ 0
          → (ok ≡ true) × (can ≡ true)
      not_refused true true e = (refl, refl)
      not_refused true false e = absurd (omega arith)
      not_refused false can e = absurd (omega arith)

  -- its answer
  pub change_answer : gateway_ok g ≡ true → can_change add g.bonds a ≡ true → change_of add g a ≡ bonds_answer g (changed_bonds add g.bonds a)
  unfolding change_of
  change_answer ok e = rw (ok, e)

-- `unbond` undoes `bond`, and `bond` undoes `unbond`: gateway and count are those before
pub change_undone : (add : Bool) (g : Gateway) (a : ℕ) → (change_of add g a).refusal ≡ 0
    → change_of (not add) (change_of add g a).gateway a ≡ bonds_answer g g.bonds
change_undone add g a e =
    let t = change_taken add g a e in
    let ok = gateway_bonds g t.0 in
    let b = changed_bonds add g.bonds a in
    ap (λ (x : BondAnswer). change_of (not add) x.gateway a) (change_answer add g a t.0 t.1)
    ∙ change_answer (not add) (gateway_from b g.queue) a (gateway_with g b t.0 (changed_sound add g.bonds a ok t.1)) (changed_back add g.bonds a ok t.1)
    ∙ ap (bonds_answer g) (changed_undone add g.bonds a ok t.1)

-- the count is the number of addresses that the bitmap names
pub count_bitmap : (g : Gateway) → gateway_ok g ≡ true → (bond_count_of g).count ≡ number_below 256 (selects (bond_bitmap_of g).bitmap)
unfolding bond_count_of bond_bitmap_of
count_bitmap g ok = rw ok (count_bonded g.bonds (gateway_bonds g ok))

-- the count in the answer of a `bond` or `unbond` is that of the gateway in it
pub change_counted : (add : Bool) (g : Gateway) (a : ℕ) → (change_of add g a).refusal ≡ 0 → (change_of add g a).count ≡ (bond_count_of (change_of add g a).gateway).count
unfolding bond_count_of
change_counted add g a e =
    let t = change_taken add g a e in
    let b = changed_bonds add g.bonds a in
    let ok = gateway_with g b t.0 (changed_sound add g.bonds a (gateway_bonds g t.0) t.1) in
    rw (change_answer add g a t.0 t.1, ok)
