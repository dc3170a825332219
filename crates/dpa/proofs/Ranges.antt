-- Laws of the ranges of settings.
use mathlib.Core.Path.{◌≡◌, refl, sym, ◌∙◌}
use mathlib.Core.Bool.{Bool, true, not, ◌&&◌, beq}
use Prim.Native.Nat.{ℕ, ◌%◌, ◌≤◌, ◌<◌}
use native.Mathlib.Omega.{arith}
use lib.Dec.{leb, eqb}
use borrow.Author.Tests.{leb-true, le-leb, eqb-true, eqb-false, not-true}
use Rattle.dpa.specs.declared.settings.Settings.{Settings}
use Rattle.dpa.specs.Lists.{all_below}
use Rattle.dpa.specs.Settings.{step_ok, last_address, max_lamps, node_address, settings_ok, SettingsRule}
use Rattle.dpa.proofs.Bool.{and_left, and_right, both, beq_eq, all_below_elim}

-- a step is valid exactly if it divides 100
same_step : ℕ → Bool
same_step s = beq (step_ok s) (not (eqb s 0) && eqb (100 % s) 0)

-- the dimming steps are the divisors of 100; proved by testing every byte
pub step_divides : (s : ℕ) → s < 256 → step_ok s ≡ (not (eqb s 0) && eqb (100 % s) 0)
unfolding same_step step_ok all_below
step_divides s l = beq_eq _ _ (all_below_elim 256 same_step refl s l)

-- a valid dimming step is not 0
pub step_positive : (s : ℕ) → s < 256 → step_ok s ≡ true → 1 ≤ s
step_positive s l e = omega (arith, eqb-false s 0 (not-true (eqb s 0) (and_left (not (eqb s 0)) (eqb (100 % s) 0) (sym (step_divides s l) ∙ e))))

-- a valid dimming step divides 100
pub step_remainder : (s : ℕ) → s < 256 → step_ok s ≡ true → 100 % s ≡ 0
step_remainder s l e = eqb-true _ _ (and_right (not (eqb s 0)) _ (sym (step_divides s l) ∙ e))

-- an address that a node can have is 1 to 239
pub node_range : (a : ℕ) → node_address a ≡ true → (1 ≤ a) × (a ≤ last_address)
node_range a e = (leb-true 1 a (and_left _ (leb a last_address) e), leb-true a last_address (and_right (leb 1 a) _ e))

module _ (s : Settings) (e : settings_ok s ≡ true) where
  first_four : (node_address s.address && leb 1 s.lamp_count && leb s.lamp_count max_lamps) ≡ true
  unfolding settings_ok
  first_four = and_left _ (step_ok s.step) e

  first_three : (node_address s.address && leb 1 s.lamp_count) ≡ true
  first_three = and_left _ (leb s.lamp_count max_lamps) first_four

  first_two : node_address s.address ≡ true
  first_two = and_left _ (leb 1 s.lamp_count) first_three

  -- the test gives the facts
  pub settings_facts : SettingsRule s
  unfolding settings_ok
  settings_facts =
      record {
        address_min = (node_range s.address first_two).0;
        address_max = (node_range s.address first_two).1;
        count_min = leb-true _ _ (and_right (node_address s.address) _ first_three);
        count_max = leb-true _ _ (and_right (node_address s.address && leb 1 s.lamp_count) _ first_four);
        step_valid =
            and_right (node_address s.address && leb 1 s.lamp_count && leb s.lamp_count max_lamps) _ e;
      }

-- the facts give the test
pub settings_test : (s : Settings) → SettingsRule s → settings_ok s ≡ true
unfolding settings_ok
settings_test s r =
    both (both (both (both (le-leb _ _ r.address_min) (le-leb _ _ r.address_max)) (le-leb _ _ r.count_min)) (le-leb _ _ r.count_max))
    r.step_valid
