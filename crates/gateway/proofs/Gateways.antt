-- Laws of the gateway: its rule as a test and as facts, and every call keeps it.
use Prim.Native.Nat.{ℕ}
use mathlib.Core.Path.{◌≡◌, subst}
use mathlib.Core.Bool.{Bool, true, false}
use mathlib.Core.List.{List, [], ◌∷◌}
use Rattle.dpa.specs.Lists.{All}
use Rattle.dpa.proofs.Bool.{and_left, both}
use Rattle.gateway.specs.declared.record.Gateway.{Gateway}
use Rattle.bonds.specs.Bonds.{bonds_ok}
use Rattle.queue.specs.Queue.{new_queue, queue_ok, QueueRule}
use Rattle.gateway.specs.Gateway.{gateway_ok, GatewayRule, new_gateway}
use Rattle.gateway.specs.History.{Call, bond, unbond, clear, count, bitmap, send, release, InRange, after, after_all}
use Rattle.bonds.proofs.Bonds.{bonds_facts, bonds_test, add_sound, remove_sound, none_sound}
use Rattle.gateway.proofs.Calls.{queue_rule, change_cases, clear_cases, send_cases, release_cases, by_effect}
use Rattle.queue.proofs.Rules.{queue_test, new_rule}
use Rattle.queue.proofs.Changes.{place_rule, at_rule, with_rule, after_rule, due_facts}

-- a gateway that passes the test follows the rule
pub gateway_facts : (g : Gateway) → gateway_ok g ≡ true → GatewayRule g
unfolding gateway_ok
gateway_facts g e = record { bonds = bonds_facts g.bonds (and_left _ (queue_ok g.queue) e); queue = queue_rule g e }

-- a gateway that follows the rule passes the test
pub gateway_test : (g : Gateway) → GatewayRule g → gateway_ok g ≡ true
unfolding gateway_ok
gateway_test g r = both (bonds_test g.bonds r.bonds) (queue_test g.queue r.queue)

-- a call keeps the queue rule
pub after_queue : (g : Gateway) (c : Call) → InRange c → QueueRule g.queue → QueueRule (after g c).queue
after_queue g c i f =
    by_effect (λ q ins outs late. QueueRule q) g f
    (λ t late r ok none. at_rule g.queue r t ok)
    (λ h r ok u o. after_rule g.queue r h.time ok (due_facts g.queue h.time u).0)
    c
    (λ r t e s.
    let w = subst InRange e i in
    with_rule g.queue f t s.time r s.free (place_rule r s.fits s.address w.0 w.1 w.2))

-- a call keeps the rule of the bonds
pub after_bonds : (g : Gateway) (c : Call) → bonds_ok g.bonds ≡ true → bonds_ok (after g c).bonds ≡ true
after_bonds g (bond a) e = change_cases (λ x. bonds_ok x.gateway.bonds ≡ true) g (λ k. e) true a (λ s. add_sound g.bonds a e)
after_bonds g (unbond a) e = change_cases (λ x. bonds_ok x.gateway.bonds ≡ true) g (λ k. e) false a (λ s. remove_sound g.bonds a e)
after_bonds g clear e = clear_cases (λ x. bonds_ok x.gateway.bonds ≡ true) g (λ k. e) (λ s. none_sound)
after_bonds g count e = e
after_bonds g bitmap e = e
after_bonds g (send r t) e = send_cases g r t (λ x. bonds_ok x.gateway.bonds ≡ true) (λ k n. e) (λ s. e)
after_bonds g (release t o) e = release_cases g t o (λ x. bonds_ok x.answer.gateway.bonds ≡ true) (λ k n. e) (λ s i u. e) (λ s i u. e)

-- a new gateway is sound
pub start_sound : (lp : Bool) (dpa_value : ℕ) → gateway_ok (new_gateway lp dpa_value) ≡ true
unfolding gateway_ok
start_sound lp dpa_value = both none_sound (queue_test (new_queue lp dpa_value) (new_rule lp dpa_value))

-- a sound gateway is sound after a call
pub after_sound : (g : Gateway) (c : Call) → InRange c → gateway_ok g ≡ true → gateway_ok (after g c) ≡ true
unfolding gateway_ok
after_sound g c i e =
    both (after_bonds g c (and_left _ (queue_ok g.queue) e)) (queue_test (after g c).queue (after_queue g c i (queue_rule g e)))

-- and after any calls in a row
pub all_sound : (g : Gateway) (cs : List Call) → All InRange cs → gateway_ok g ≡ true → gateway_ok (after_all g cs) ≡ true
unfolding after_all
all_sound g [] i e = e
all_sound g (c ∷ cs) i e = all_sound (after g c) cs i.1 (after_sound g c i.0 e)
