-- Laws of the step machine: what a step does to one lamp or one byte, and what it leaves unchanged.
use mathlib.Core.Bool.{cond, ◌&&◌}
use mathlib.Core.List.{List, [], ◌∷◌, ◌++◌}
use mathlib.Core.Path.{◌≡◌, refl, ◌∙◌}
use Prim.Native.Nat.{ℕ, ◌<◌}
use native.Mathlib.Omega.{arith}
use lib.Dec.{ltb, eqb}
use lib.ListN.{length, get_or, set, length-set}
use lib.Seq.{get_or-set_same, get_or-set_other}
use borrow.Author.Tests.{eqb-true, eqb-false, ne_eqb, ltb-true}
use Rattle.dpa.proofs.Bool.{by_cond, by_test}
use Rattle.lights.specs.Lamp.{off}
use Rattle.lights.specs.declared.lamp.Lamp.{Lamp}
use Rattle.node.specs.State.{State}
use Rattle.book.specs.declared.step.Step.{Step}
use Rattle.step.specs.Step.{ram_kind, eeprom_kind, is_lamp}
use Rattle.step.specs.Machine.{step_formed, machine_lamp, machine_lamps, machine_effect, machine_step, machine}
use Rattle.step.proofs.Faults.{formed_eeprom}

-- lamp k of a node with `count` lamps after a step, from lamp k before it
unfoldable pub lamp_after_step : Step → ℕ → ℕ → Lamp → Lamp
lamp_after_step s count k l =
    cond (step_formed s && (is_lamp s.kind && (ltb s.target count && eqb k s.target))) (machine_lamp s l) l

-- byte k of the memory that this kind writes after a step, from byte k before it
unfoldable pub byte_after_step : ℕ → Step → ℕ → ℕ → ℕ
byte_after_step kind s k b = cond (step_formed s && (eqb s.kind kind && eqb k s.target)) s.value b

set_at_index : {A : Type 0} (l : List A) (i k : ℕ) (a d : A) → k < length l → get_or (set l i a) k d ≡ cond (eqb k i) a (get_or l k d)
set_at_index l i k a d h =
    by_test (eqb k i)
    (λ e. let q : k ≡ i = eqb-true k i e in rw (e, q) (get_or-set_same l i a d (rw q at h)))
    (λ e. rw e (get_or-set_other l i k a d (eqb-false k i e)))

-- what no step changes
pub record Stays (st t : State) : Type 0 where
  pub settings : t.node.settings ≡ st.node.settings
  pub external : t.external ≡ st.external
  pub lamps_length : length t.node.lamps ≡ length st.node.lamps
  pub ram_length : length t.node.ram ≡ length st.node.ram
  pub eeprom_length : length t.eeprom ≡ length st.eeprom

-- a state that a step leaves as it is
unchanged : (st : State) → Stays st st
unchanged st = record { settings = refl; external = refl; lamps_length = refl; ram_length = refl; eeprom_length = refl }

module _ (s : Step) (st : State) where
  -- a lamp after a step
  pub step_lamp : (k : ℕ) → k < length st.node.lamps
      → get_or (machine_step s st).node.lamps k off ≡ lamp_after_step s st.node.settings.lamp_count k (get_or st.node.lamps k off)
  unfolding machine_step machine_effect machine_lamps lamp_after_step
  step_lamp k h =
      let n = st.node in
      let t = s.target in
      by_test (step_formed s)
      (λ g. rw g (by_test (is_lamp s.kind)
      (λ e. rw e (by_test (ltb t n.settings.lamp_count)
      (λ c. rw c (by_test (eqb k t)
      (λ q. let z : k ≡ t = eqb-true k t q in rw (q, z) (get_or-set_same n.lamps t (machine_lamp s (get_or n.lamps t off)) off (rw z at h)))
      (λ q. rw q (get_or-set_other n.lamps t k (machine_lamp s (get_or n.lamps t off)) off (eqb-false k t q)))))
      (λ c. rw c)))
      (λ e. rw e (by_test (eqb s.kind ram_kind) (λ r. rw r) (λ r. rw r)))))
      (λ g. rw g)

  -- a byte of RAM after a step
  pub step_ram : (k : ℕ) → k < length st.node.ram → get_or (machine_step s st).node.ram k 0 ≡ byte_after_step ram_kind s k (get_or st.node.ram k 0)
  unfolding machine_step machine_effect byte_after_step
  step_ram k h =
      by_test (step_formed s)
      (λ g. rw g (by_test (is_lamp s.kind)
      (λ e. rw (e, ne_eqb s.kind ram_kind (λ z. omega (arith, ltb-true s.kind ram_kind e))))
      (λ e. rw e (by_test (eqb s.kind ram_kind)
      (λ r. rw r (set_at_index st.node.ram s.target k s.value 0 h))
      (λ r. rw r)))))
      (λ g. rw g)

  -- a byte of EEPROM after a step
  pub step_eeprom : (k : ℕ) → k < length st.eeprom → get_or (machine_step s st).eeprom k 0 ≡ byte_after_step eeprom_kind s k (get_or st.eeprom k 0)
  unfolding machine_step machine_effect byte_after_step
  step_eeprom k h =
      by_test (step_formed s)
      (λ g. rw g (by_test (is_lamp s.kind)
      (λ e. rw (e, ne_eqb s.kind eeprom_kind (λ z. omega (arith, ltb-true s.kind ram_kind e))))
      (λ e. rw e (by_test (eqb s.kind ram_kind)
      (λ r. rw (r, ne_eqb s.kind eeprom_kind (λ z. omega (arith, eqb-true s.kind ram_kind r))))
      (λ r. rw (r, formed_eeprom s g e r) (set_at_index st.eeprom s.target k s.value 0 h))))))
      (λ g. rw g)

  -- all else is unchanged
  pub step_stays : Stays st (machine_step s st)
  unfolding machine_step machine_effect machine_lamps
  step_stays =
      by_cond (Stays st) (step_formed s) _ _
      (λ _. by_cond (Stays st) (is_lamp s.kind) _ _
      (λ _. record {
        settings = refl;
        external = refl;
        lamps_length = by_cond (λ (ls : List Lamp). length ls ≡ length st.node.lamps) (ltb s.target st.node.settings.lamp_count) _ _
            (λ _. length-set st.node.lamps s.target (machine_lamp s (get_or st.node.lamps s.target off))) (λ _. refl);
        ram_length = refl;
        eeprom_length = refl;
      })
      (λ _. by_cond (Stays st) (eqb s.kind ram_kind) _ _
      (λ _. record { settings = refl; external = refl; lamps_length = refl; ram_length = length-set st.node.ram s.target s.value; eeprom_length = refl })
      (λ _. record { settings = refl; external = refl; lamps_length = refl; ram_length = refl; eeprom_length = length-set st.eeprom s.target s.value })))
      (λ _. unchanged st)

-- steps in order leave the same unchanged
pub machine_stays : (ss : List Step) (st : State) → Stays st (machine ss st)
machine_stays [] st = unchanged st
machine_stays (s ∷ ss) st =
    let a = step_stays s st in
    let b = machine_stays ss (machine_step s st) in
    record {
      settings = b.settings ∙ a.settings;
      external = b.external ∙ a.external;
      lamps_length = b.lamps_length ∙ a.lamps_length;
      ram_length = b.ram_length ∙ a.ram_length;
      eeprom_length = b.eeprom_length ∙ a.eeprom_length;
    }

-- executing two lists is executing their concatenation
pub machine_append : (ss ts : List Step) (st : State) → machine (ss ++ ts) st ≡ machine ts (machine ss st)
machine_append [] ts st = refl
machine_append (s ∷ ss) ts st = machine_append ss ts (machine_step s st)
