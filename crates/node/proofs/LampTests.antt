-- The test of all lamps in two parts: every lamp follows the rule of an implemented one, and those from the count on are zero.
use Prim.Native.Nat.{ℕ, ◌+◌}
use native.Mathlib.Omega.{arith}
use mathlib.Core.Path.{◌≡◌, refl, sym, ap, ◌∙◌}
use mathlib.Core.Bool.{Bool, true, false, cond, ◌&&◌}
use mathlib.Core.List.{List}
use lib.ListN.{get_or}
use lib.Dec.{ltb}
use borrow.Author.Tests.{lt-ltb, le-ltb, ltb-true, ltb-false}
use Rattle.dpa.specs.Lists.{all_below}
use Rattle.dpa.specs.Settings.{max_lamps}
use Rattle.dpa.proofs.Bool.{by_test, and_right_false, all_below_next, all_below_intro, all_below_both, all_below_same}
use Rattle.lights.specs.declared.lamp.Lamp.{Lamp}
use Rattle.lights.specs.Lamp.{off, lamp_ok, lamp_zero, lamp_fits}
use Rattle.lights.proofs.Lamps.{lamp_test, zero_facts, off_rule, fits_below, fits_above}
use Rattle.node.specs.Node.{lamps_ok}

-- every lamp follows the rule of an implemented one
abbrev pub each_ok : List Lamp → Bool
each_ok ls = all_below max_lamps (λ k. lamp_ok (get_or ls k off))

-- the lamps from the count up to i are zero
abbrev pub zeros_to : ℕ → ℕ → List Lamp → Bool
zeros_to count i ls = all_below i (λ k. cond (ltb k count) true (lamp_zero (get_or ls k off)))

and_true : (a b : Bool) → b ≡ true → a ≡ (a && b)
and_true true b e = sym e
and_true false b e = refl

and_assoc : (a b c : Bool) → ((a && b) && c) ≡ (a && (b && c))
and_assoc true b c = refl
and_assoc false b c = refl

-- for one lamp both parts are the rule for its place, because a lamp of zeros follows the rule of an implemented one
both_parts : (count k : ℕ) (l : Lamp) → (lamp_ok l && cond (ltb k count) true (lamp_zero l)) ≡ lamp_fits count k l
both_parts count k l =
    by_test (ltb k count)
    (λ e. rw e (sym (and_true (lamp_ok l) true refl) ∙ sym (fits_below count k l (ltb-true _ _ e))))
    (λ e. rw e (zero_ok ∙ sym (fits_above count k l (ltb-false _ _ e))))
  where
    zero_ok : (lamp_ok l && lamp_zero l) ≡ lamp_zero l
    zero_ok =
        by_test (lamp_zero l)
        (λ z. let ok : lamp_ok l ≡ true = ap lamp_ok (zero_facts l z) ∙ lamp_test off off_rule in rw (z, ok))
        (λ z. and_right_false (lamp_ok l) (lamp_zero l) z ∙ sym z)

module _ (count : ℕ) (ls : List Lamp) where
  -- up to the count there is nothing to test
  pub zeros_none : {ok : Bool} → ok ≡ each_ok ls → ok ≡ (each_ok ls && zeros_to count (count + 0) ls)
  zeros_none e =
      e ∙ and_true (each_ok ls) (zeros_to count (count + 0) ls) (all_below_intro (count + 0) _ (λ k h. rw (lt-ltb k count (omega arith))))

  -- one more lamp
  pub zeros_next : (i : ℕ) → {ok z : Bool} → ok ≡ (each_ok ls && zeros_to count (count + i) ls) → z ≡ lamp_zero (get_or ls (count + i) off)
      → (ok && z) ≡ (each_ok ls && zeros_to count (count + (i + 1)) ls)
  zeros_next i {ok} {z} e q =
      ap (λ (b : Bool). b && z) e
      ∙ and_assoc (each_ok ls) (zeros_to count (count + i) ls) z
      ∙ ap (λ (b : Bool). each_ok ls && b) (all_below_next (count + i) _ (zeros_to count (count + i) ls) z refl (rw (le-ltb (count + i) count (omega arith)) q))
      ∙ ap (λ (j : ℕ). each_ok ls && zeros_to count j ls) (let n : count + i + 1 ≡ count + (i + 1) = omega arith in n)

  -- both parts over all lamps
  pub each_and_zeros : {i : ℕ} → i ≡ max_lamps → (each_ok ls && zeros_to count i ls) ≡ lamps_ok count ls
  unfolding lamps_ok
  each_and_zeros e =
      ap (λ (j : ℕ). each_ok ls && zeros_to count j ls) e
      ∙ all_below_both max_lamps (λ k. lamp_ok (get_or ls k off)) (λ k. cond (ltb k count) true (lamp_zero (get_or ls k off)))
      ∙ all_below_same max_lamps _ _ (λ k. both_parts count k (get_or ls k off))
