-- Laws of the node: the node rule as a test and as facts, start, the tick, actual levels.
use Prim.Native.Nat.{ℕ, ◌-◌, ◌≤◌, ◌<◌}
use mathlib.Core.Path.{◌≡◌, refl, sym, ap, ◌∙◌}
use mathlib.Core.Bool.{true, false, ◌&&◌}
use mathlib.Core.List.{List, map}
use native.Mathlib.Omega.{arith}
use lib.ListN.{get_or, replicate, length, length-map, get_or-map, get_or-eq_default, get_or-replicate}
use lib.Dec.{ltb, eqb}
use borrow.Author.Tests.{eqb-true, eq-eqb, ltb-true, ltb-false}
use Rattle.dpa.specs.declared.settings.Settings.{Settings}
use Rattle.dpa.specs.Settings.{max_lamps, settings_ok}
use Rattle.dpa.specs.Sizes.{ram_size}
use Rattle.dpa.proofs.Bool.{and_left, and_right, both, by_test, all_below_intro, all_below_elim}
use Rattle.dpa.proofs.Ranges.{settings_facts}
use Rattle.lights.specs.declared.lamp.Lamp.{Lamp}
use Rattle.lights.specs.Lamp.{max_level, off, lamp_fits, LevelsInRange, SoundLevels, actual_level, tick_lamp}
use Rattle.lights.proofs.Lamps.{lamp_facts, zero_facts, off_rule, fits_below, fits_above, fits_test, fits_rule, tick_keeps, tick_seconds, tick_ends, tick_level, actual_max, actual_off}
use Rattle.node.specs.declared.record.Node.{Node}
use Rattle.node.specs.Node.{with_lamps, with_ram, shape_ok, lamps_ok, node_ok, NodeRule, node_answer, fresh, blank, start_of, actual_levels, levels_of, tick_lamps, tick_node, tick_of}

-- The node rule, as a test and as facts

-- the two lengths give the shape test
pub shape_test : (n : Node) → length n.lamps ≡ max_lamps → length n.ram ≡ ram_size → shape_ok n ≡ true
unfolding shape_ok
shape_test n a b = both (eq-eqb _ _ a) (eq-eqb _ _ b)

module _ (n : Node) (e : node_ok n ≡ true) where
  shaped : shape_ok n ≡ true
  unfolding node_ok
  shaped = and_left _ (settings_ok n.settings) (and_left _ (lamps_ok n.settings.lamp_count n.lamps) e)

  -- a sound node's settings are in range
  pub node_settings : settings_ok n.settings ≡ true
  unfolding node_ok
  node_settings = and_right (shape_ok n) _ (and_left _ (lamps_ok n.settings.lamp_count n.lamps) e)

  -- it has thirty-two lamps
  pub node_lamps : length n.lamps ≡ max_lamps
  unfolding shape_ok
  node_lamps = eqb-true _ _ (and_left _ (eqb (length n.ram) ram_size) shaped)

  -- and 48 bytes of RAM
  pub node_ram : length n.ram ≡ ram_size
  unfolding shape_ok
  node_ram = eqb-true _ _ (and_right (eqb (length n.lamps) max_lamps) _ shaped)

  -- each of its lamps follows the rule for its place
  pub node_fits : (k : ℕ) → k < max_lamps → lamp_fits n.settings.lamp_count k (get_or n.lamps k off) ≡ true
  unfolding node_ok lamps_ok
  node_fits = all_below_elim max_lamps _ (and_right (shape_ok n && settings_ok n.settings) (lamps_ok n.settings.lamp_count n.lamps) e)

  beyond : (k : ℕ) → max_lamps ≤ k → get_or n.lamps k off ≡ off
  beyond k h = get_or-eq_default n.lamps off (omega (arith, node_lamps))

  -- none of its levels is over 100
  pub node_levels_in_range : LevelsInRange n.lamps
  node_levels_in_range k =
      by_test (ltb k max_lamps)
      (λ t. (fits_rule _ k _ (node_fits k (ltb-true _ _ t))).level_max)
      (λ t. rw (beyond k (ltb-false k max_lamps t)) (omega arith))

  -- and its lamps from the count on are off
  pub node_levels : SoundLevels n.settings.lamp_count n.lamps
  node_levels =
      record {
        in_range = node_levels_in_range;
        unimplemented_off = λ k h.
            by_test (ltb k max_lamps)
            (λ t. ap (λ (l : Lamp). l.level) (zero_facts _ (sym (fits_above _ k _ h) ∙ node_fits k (ltb-true _ _ t))))
            (λ t. ap (λ (l : Lamp). l.level) (beyond k (ltb-false k max_lamps t)));
      }

  -- the test gives the facts
  pub node_facts : NodeRule n
  node_facts =
      let most : n.settings.lamp_count ≤ max_lamps = (settings_facts n.settings node_settings).count_max in
      record {
        lamps_length = node_lamps;
        ram_length = node_ram;
        settings_valid = node_settings;
        implemented = λ k h. lamp_facts _ (sym (fits_below _ k _ h) ∙ node_fits k (omega arith));
        unimplemented = λ k h l. zero_facts _ (sym (fits_above _ k _ h) ∙ node_fits k l);
      }

-- a node with the right lengths, settings in range, and lamps that follow the rule for their place is sound
pub node_sound : (n : Node) → length n.lamps ≡ max_lamps → length n.ram ≡ ram_size → settings_ok n.settings ≡ true
    → ((k : ℕ) → k < max_lamps → lamp_fits n.settings.lamp_count k (get_or n.lamps k off) ≡ true)
    → node_ok n ≡ true
unfolding node_ok lamps_ok
node_sound n a b s f = both (both (shape_test n a b) s) (all_below_intro max_lamps _ f)

-- the facts give the test
pub node_test : (n : Node) → NodeRule n → node_ok n ≡ true
node_test n r =
    node_sound n r.lamps_length r.ram_length r.settings_valid
    (λ k l. fits_test n.settings.lamp_count k (get_or n.lamps k off) (r.implemented k) (λ h. r.unimplemented k h l))

-- A sound node stays sound

-- with other lamps that follow the rule for their place
pub lamps_sound : (n : Node) (ls : List Lamp) → node_ok n ≡ true → length ls ≡ max_lamps
    → ((k : ℕ) → k < max_lamps → lamp_fits n.settings.lamp_count k (get_or ls k off) ≡ true)
    → node_ok (with_lamps n ls) ≡ true
lamps_sound n ls e l f = node_sound (with_lamps n ls) l (node_ram n e) (node_settings n e) f

-- with other RAM
pub ram_sound : (n : Node) (bytes : List ℕ) → node_ok n ≡ true → length bytes ≡ ram_size → node_ok (with_ram n bytes) ≡ true
ram_sound n bytes e l = node_sound (with_ram n bytes) (node_lamps n e) l (node_settings n e) (node_fits n e)

-- Start

-- a started node is sound
pub start_sound : (s : Settings) → settings_ok s ≡ true → node_ok (start_of s).node ≡ true
unfolding start_of
start_sound s e =
    rw e (node_sound (fresh s) refl refl e
    (λ k l. let z : get_or (replicate max_lamps off) k off ≡ off = get_or-replicate max_lamps k off off l in
    rw z (fits_test s.lamp_count k off (λ _. off_rule) (λ _. refl))))

-- a refused start returns a record of zeros
pub start_refused : (s : Settings) → settings_ok s ≡ false → start_of s ≡ node_answer 1 blank
unfolding start_of
start_refused s e = rw e

-- The tick

-- the lamp at a place after a tick
pub tick_at : (ls : List Lamp) (k : ℕ) → get_or (tick_lamps ls) k off ≡ tick_lamp (get_or ls k off)
unfolding tick_lamps tick_lamp
tick_at ls k = get_or-map tick_lamp ls k off

-- a ticked sound node is sound
pub tick_sound : (n : Node) → node_ok n ≡ true → node_ok (tick_node n) ≡ true
unfolding tick_node tick_lamps
tick_sound n e =
    lamps_sound n (tick_lamps n.lamps) e (length-map n.lamps tick_lamp ∙ node_lamps n e)
    (λ k l. rw tick_at (tick_keeps n.settings.lamp_count k (get_or n.lamps k off) (node_fits n e k l)))

-- a refused tick returns the same node
pub tick_refused : (n : Node) → node_ok n ≡ false → tick_of n ≡ node_answer 1 n
unfolding tick_of
tick_refused n e = rw e

-- a sound node is ticked
pub tick_answered : (n : Node) → node_ok n ≡ true → tick_of n ≡ node_answer 0 (tick_node n)
unfolding tick_of
tick_answered n e = rw e

-- a tick changes neither settings nor RAM
pub tick_rest : (n : Node) → tick_node n ≡ with_lamps n (tick_node n).lamps
unfolding tick_node
tick_rest n = refl

-- every running timer is lowered by one
pub timer_falls : (n : Node) (k : ℕ) → (get_or (tick_node n).lamps k off).seconds ≡ (get_or n.lamps k off).seconds - 1
unfolding tick_node
timer_falls n k = ap (λ (l : Lamp). l.seconds) (tick_at n.lamps k) ∙ tick_seconds (get_or n.lamps k off)

-- the level becomes 0 when the timer ends
pub timer_ends : (n : Node) (k : ℕ) → (get_or n.lamps k off).seconds ≡ 1 → (get_or (tick_node n).lamps k off).level ≡ 0
unfolding tick_node
timer_ends n k e = ap (λ (l : Lamp). l.level) (tick_at n.lamps k) ∙ tick_ends (get_or n.lamps k off) e

-- every other level is unchanged
pub level_stays : (n : Node) (k : ℕ) → ((get_or n.lamps k off).seconds ≡ 1 → ⊥)
    → (get_or (tick_node n).lamps k off).level ≡ (get_or n.lamps k off).level
unfolding tick_node
level_stays n k h = ap (λ (l : Lamp). l.level) (tick_at n.lamps k) ∙ tick_level (get_or n.lamps k off) h

-- The actual levels of a sound node

module _ (n : Node) (e : node_ok n ≡ true) where
  -- the value at a place is the actual level of that lamp
  pub levels_at : (k : ℕ) → get_or (levels_of n).levels k 0 ≡ actual_level n.settings (get_or n.lamps k off).level
  unfolding levels_of actual_levels
  levels_at k =
      let f : Lamp → ℕ = λ l. actual_level n.settings l.level in
      rw e (ap (λ (d : ℕ). get_or (map f n.lamps) k d) (sym (actual_off n.settings (node_settings n e))) ∙ get_or-map f n.lamps k off)

  -- there are thirty-two
  pub levels_length : length (levels_of n).levels ≡ max_lamps
  unfolding levels_of actual_levels
  levels_length = rw e (length-map n.lamps (λ (l : Lamp). actual_level n.settings l.level) ∙ node_lamps n e)

  -- none is over 100
  pub levels_max : (k : ℕ) → get_or (levels_of n).levels k 0 ≤ max_level
  levels_max k = rw levels_at (actual_max n.settings (node_settings n e) (get_or n.lamps k off).level (node_levels_in_range n e k))
