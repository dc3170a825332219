-- Laws of one lamp: its valid values, its actual level, and its timer.
use Prim.Native.Nat.{ℕ, suc, ◌+◌, ◌-◌, ◌*◌, ◌/◌, ◌%◌, ◌^◌, ◌≤◌, ◌<◌}
use mathlib.Core.Path.{◌≡◌, refl, sym, subst, ◌∙◌}
use mathlib.Core.Bool.{Bool, true, false, not, ◌&&◌, ◌||◌}
use native.Mathlib.Omega.{arith}
use native.Mathlib.Nat.{div-add-mod', mod-lt, div-le_self, div-lt_iff_lt-mul, mul-le-mul, mul-le-mul_right, mul-mod_left, suc-mul, zero-mod}
use lib.Dec.{leb, ltb, eqb}
use borrow.Author.Tests.{leb-true, le-leb, eqb-true, eqb-false, eq-eqb, ne_eqb, lt-ltb, le-ltb, ltb-true, ltb-false}
use Rattle.dpa.specs.declared.settings.Settings.{Settings}
use Rattle.dpa.specs.Settings.{step_ok, settings_ok}
use Rattle.dpa.proofs.Bool.{and_left, and_right, both, by_cond, by_test}
use Rattle.dpa.proofs.Ranges.{step_positive, step_remainder, settings_facts}
use Rattle.lights.specs.declared.lamp.Lamp.{Lamp}
use Rattle.lights.specs.Lamp.{max_level, max_seconds, lamp, off, lamp_ok, LampRule, lamp_zero, lamp_fits, actual_level, step_inverse, tick_lamp}

-- Valid values, as a test and as facts

-- the test gives the facts
pub lamp_facts : (l : Lamp) → lamp_ok l ≡ true → LampRule l
unfolding lamp_ok
lamp_facts l e =
    let ab : (leb l.level max_level && leb l.seconds max_seconds) ≡ true = and_left _ _ e in
    let c : (not (eqb l.level 0) || eqb l.seconds 0) ≡ true = and_right (leb l.level max_level && leb l.seconds max_seconds) _ e in
    record {
      level_max = leb-true _ _ (and_left _ _ ab);
      seconds_max = leb-true _ _ (and_right (leb l.level max_level) _ ab);
      seconds_off = λ z. eqb-true _ _ (rw (eq-eqb l.level 0 z) at c);
    }

off_test : (l : Lamp) → (l.level ≡ 0 → l.seconds ≡ 0) → (b : Bool) → eqb l.level 0 ≡ b → (not b || eqb l.seconds 0) ≡ true
off_test l h true e = eq-eqb _ _ (h (eqb-true _ _ e))
off_test l h false e = refl

-- the facts give the test
pub lamp_test : (l : Lamp) → LampRule l → lamp_ok l ≡ true
unfolding lamp_ok
lamp_test l r =
    both (both (le-leb _ _ r.level_max) (le-leb _ _ r.seconds_max)) (off_test l r.seconds_off (eqb l.level 0) refl)

-- a lamp that is all zero is `off`
pub zero_facts : (l : Lamp) → lamp_zero l ≡ true → l ≡ off
unfolding lamp_zero
zero_facts l e =
    let p : l.level ≡ 0 = eqb-true _ _ (and_left _ _ e) in
    let q : l.seconds ≡ 0 = eqb-true _ _ (and_right (eqb l.level 0) _ e) in
    λ i. record { level = p i; seconds = q i }

-- `off` is all zero
pub off_zero : lamp_zero off ≡ true
unfolding lamp_zero
off_zero = refl

-- `off` has valid values
pub off_rule : LampRule off
off_rule = record { level_max = omega arith; seconds_max = omega arith; seconds_off = λ _. refl }

-- Valid values of lamp k of a node

-- an implemented lamp
pub fits_below : (count k : ℕ) (l : Lamp) → k < count → lamp_fits count k l ≡ lamp_ok l
unfolding lamp_fits
fits_below count k l h = rw (lt-ltb k count h)

-- an unimplemented lamp
pub fits_above : (count k : ℕ) (l : Lamp) → count ≤ k → lamp_fits count k l ≡ lamp_zero l
unfolding lamp_fits
fits_above count k l h = rw (le-ltb k count h)

-- the facts give the test
pub fits_test : (count k : ℕ) (l : Lamp) → (k < count → LampRule l) → (count ≤ k → l ≡ off) → lamp_fits count k l ≡ true
unfolding lamp_fits
fits_test count k l p q =
    by_cond (λ (t : Bool). t ≡ true) (ltb k count) _ _
    (λ e. lamp_test l (p (ltb-true _ _ e)))
    (λ e. rw (q (ltb-false _ _ e)) off_zero)

-- implemented or not, the lamp satisfies the rule of an implemented one
pub fits_rule : (count k : ℕ) (l : Lamp) → lamp_fits count k l ≡ true → LampRule l
unfolding lamp_fits
fits_rule count k l e =
    by_test (ltb k count)
    (λ t. lamp_facts l (rw t at e))
    (λ t. rw (zero_facts l (rw t at e)) off_rule)

-- The actual level, for valid settings

step_or : (P : ℕ → Type 0) (s k : ℕ) (b : Bool) → (b ≡ true → P s) → P k → (b || eqb s k) ≡ true → P s
step_or P s k true f p e = f refl
step_or P s k false f p e = subst P (sym (eqb-true s k e)) p

-- what holds for each of the nine dimming steps holds for a valid step
step_cases : (P : ℕ → Type 0) → P 1 → P 2 → P 4 → P 5 → P 10 → P 20 → P 25 → P 50 → P 100 → (s : ℕ) → step_ok s ≡ true → P s
unfolding step_ok
step_cases P p1 p2 p4 p5 p10 p20 p25 p50 p100 s =
    step_or P s 100 _ (step_or P s 50 _ (step_or P s 25 _ (step_or P s 20 _ (step_or P s 10 _ (step_or P s 5 _ (step_or P s 4 _ (step_or P s 2 _
    (λ e. subst P (sym (eqb-true s 1 e)) p1) p2) p4) p5) p10) p20) p25) p50) p100

-- a dimming step is at most 100
step_small : (s : ℕ) → step_ok s ≡ true → s ≤ 100
step_small =
    step_cases (λ (s : ℕ). s ≤ 100)
    (omega arith) (omega arith) (omega arith) (omega arith) (omega arith) (omega arith) (omega arith) (omega arith) (omega arith)

-- the inverse of a step is not above that of step 1
pub inverse_max : (s : Settings) → step_inverse s ≤ 65537
unfolding step_inverse
inverse_max s = omega (arith, div-le_self 65536 s.step)

inverse_each : (x : ℕ) → x ≤ 199 → (s : ℕ) → step_ok s ≡ true → x * (65536 / s + 1) / 65536 ≡ x / s
inverse_each x h =
    step_cases (λ (s : ℕ). x * (65536 / s + 1) / 65536 ≡ x / s)
    (omega arith) (omega arith) (omega arith) (omega arith) (omega arith) (omega arith) (omega arith) (omega arith) (omega arith)

module _ (s : Settings) (h : settings_ok s ≡ true) where
  -- the step is at most 100
  pub step_max : s.step ≤ 100
  step_max = step_small s.step (settings_facts s h).step_valid

  -- the step is not 0
  pub step_min : 1 ≤ s.step
  step_min = step_positive s.step (omega (arith, step_max)) (settings_facts s h).step_valid

  step_of_100 : 100 % s.step ≡ 0
  step_of_100 = step_remainder s.step (omega (arith, step_max)) (settings_facts s h).step_valid

  -- the actual level is a multiple of the step
  pub actual_multiple : (level : ℕ) → actual_level s level % s.step ≡ 0
  unfolding actual_level
  actual_multiple level = mul-mod_left _ _

  -- the actual level is not below the requested level
  pub actual_above : (level : ℕ) → level ≤ actual_level s level
  unfolding actual_level
  actual_above level = omega (arith, div-add-mod' (level + (s.step - 1)) s.step, mod-lt (level + (s.step - 1)) step_min)

  -- the actual level is the least such multiple
  pub actual_least : (level m : ℕ) → m % s.step ≡ 0 → level ≤ m → actual_level s level ≤ m
  unfolding actual_level
  actual_least level m z l =
      let q : ℕ = m / s.step in
      let e : q * s.step ≡ m = omega (arith, div-add-mod' m s.step) in
      let b : (level + (s.step - 1)) / s.step < suc q = (div-lt_iff_lt-mul step_min).1 (omega (arith, suc-mul q s.step, step_min)) in
      let c : (level + (s.step - 1)) / s.step * s.step ≤ q * s.step = mul-le-mul_right s.step (omega arith) in
      omega arith

  -- the actual level is at most 100
  pub actual_max : (level : ℕ) → level ≤ max_level → actual_level s level ≤ max_level
  actual_max level l = actual_least level 100 step_of_100 l

  module _ (level : ℕ) (l : level ≤ max_level) where
    -- multiplying by the inverse of the step divides by the step
    pub inverse_divides : (level + (s.step - 1)) * step_inverse s / 65536 ≡ (level + (s.step - 1)) / s.step
    unfolding step_inverse
    inverse_divides = inverse_each (level + (s.step - 1)) (omega (arith, step_max)) s.step (settings_facts s h).step_valid

    -- the product fits four bytes
    pub inverse_product : (level + (s.step - 1)) * step_inverse s < 2 ^ 32
    inverse_product =
        let x : level + (s.step - 1) ≤ 199 = omega (arith, step_max) in
        omega (arith, mul-le-mul x (inverse_max s))

  -- the actual level of a lamp that is off is 0
  pub actual_off : actual_level s 0 ≡ 0
  actual_off = let l = actual_least 0 0 (zero-mod s.step) (omega arith) in omega arith

-- One second later

-- a running timer counts down by one; a timer at 0 stays at 0
pub tick_seconds : (l : Lamp) → (tick_lamp l).seconds ≡ l.seconds - 1
unfolding tick_lamp
tick_seconds l = by_cond (λ (t : Lamp). t.seconds ≡ l.seconds - 1) (eqb l.seconds 0) _ _ (λ e. omega (arith, eqb-true l.seconds 0 e)) (λ e. refl)

-- a lamp whose timer ends turns off
pub tick_ends : (l : Lamp) → l.seconds ≡ 1 → (tick_lamp l).level ≡ 0
unfolding tick_lamp
tick_ends l e = rw e

-- otherwise the level is unchanged
pub tick_level : (l : Lamp) → (l.seconds ≡ 1 → ⊥) → (tick_lamp l).level ≡ l.level
unfolding tick_lamp
tick_level l h =
    by_cond (λ (t : Lamp). t.level ≡ l.level) (eqb l.seconds 0) _ _ (λ e. refl)
    (λ e. rw (ne_eqb (l.seconds - 1) 0 (λ z. h (omega (arith, z, eqb-false l.seconds 0 e)))))

tick_rule : (l : Lamp) → LampRule l → LampRule (tick_lamp l)
unfolding tick_lamp
tick_rule l r =
    by_cond (λ (t : Lamp). LampRule t) (eqb l.seconds 0) _ _ (λ _. r)
    (λ a. by_cond (λ (v : ℕ). LampRule (lamp v (l.seconds - 1))) (eqb (l.seconds - 1) 0) _ _
    (λ b. record { level_max = omega arith; seconds_max = omega (arith, r.seconds_max); seconds_off = λ _. eqb-true _ _ b })
    (λ b. record { level_max = r.level_max; seconds_max = omega (arith, r.seconds_max); seconds_off = λ z. omega (arith, r.seconds_off z) }))

-- `off` stays `off`
pub tick_off : tick_lamp off ≡ off
unfolding tick_lamp
tick_off = refl

-- a lamp with valid values keeps valid values
pub tick_keeps : (count k : ℕ) (l : Lamp) → lamp_fits count k l ≡ true → lamp_fits count k (tick_lamp l) ≡ true
tick_keeps count k l e =
    fits_test count k (tick_lamp l)
    (λ _. tick_rule l (fits_rule count k l e))
    (λ a. let z : l ≡ off = zero_facts l (sym (fits_above count k l a) ∙ e) in rw z tick_off)
