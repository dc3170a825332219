-- Power entries keep a lamp's values valid.
use mathlib.Core.Path.{◌≡◌, refl}
use mathlib.Core.Bool.{Bool, true, false, ◌||◌}
use mathlib.Core.List.{List}
use Prim.Native.Nat.{ℕ, ◌≤◌}
use native.Mathlib.Omega.{arith}
use lib.ListN.{get_or, drop}
use lib.Dec.{ltb, leb, eqb}
use borrow.Author.Tests.{leb-true, ltb-true, eqb-false}
use Rattle.dpa.proofs.Bool.{by_cond}
use Rattle.lights.specs.Lamp.{max_level, max_seconds, changed, LampRule}
use Rattle.lights.specs.Lights.{keep_power, bit7, power_ok, seconds_of, first_power_entry, all_valid, power_entries, new_level, with_timer, lamp_after}
use Rattle.lights.proofs.PowerEntries.{zero_entry, first_cases, power_entries_each}
use Rattle.lights.proofs.EachLamp.{lamp_after_entry}
use Rattle.lights.specs.declared.apply.Command.{Command}
use Rattle.lights.specs.declared.apply.Command.TheVariants.{Set, Raise, Lower}
use Rattle.lights.specs.declared.lamp.Lamp.{Lamp}
use Rattle.lights.specs.declared.power.PowerEntry.{PowerEntry}
use Rattle.std.specs.Prelude.{Some}

-- a change within its limits
pub record ChangeRule (e : PowerEntry) : Type 0 where
  pub power : power_ok e.power ≡ true
  pub seconds : e.seconds ≤ max_seconds

-- ---- parsed changes are within their limits

seconds_max : (t : ℕ) → seconds_of t ≤ max_seconds
unfolding seconds_of
seconds_max t = by_cond (λ (n : ℕ). n ≤ max_seconds) (ltb t bit7) _ _ (λ e. omega (arith, ltb-true t bit7 e)) (λ e. omega arith)

first_power_entry_rule : (xs : List ℕ) (e : PowerEntry) → first_power_entry xs ≡ Some e → ChangeRule e
first_power_entry_rule =
    first_cases (λ xs (e : PowerEntry). ChangeRule e)
    (λ b xs p. record { power = p; seconds = omega arith })
    (λ b t xs p k. record { power = p; seconds = seconds_max t })

zero_entry_rule : ChangeRule zero_entry
unfolding power_ok
zero_entry_rule = record { power = refl; seconds = omega arith }

-- every change of valid power entries is within its limits
pub power_entries_rule : (n : ℕ) (xs : List ℕ) (es : List PowerEntry) → power_entries n xs ≡ all_valid es → (i : ℕ) → ChangeRule (get_or es i zero_entry)
power_entries_rule n xs es h = (power_entries_each ChangeRule zero_entry_rule n xs es (λ j. first_power_entry_rule (drop j xs)) h).1

-- ---- a lamp after such a change

level_power : (p : ℕ) → power_ok p ≡ true → eqb p keep_power ≡ false → p ≤ max_level
unfolding power_ok
level_power p h k = go (leb p max_level) refl h
  where
    go : (b : Bool) → leb p max_level ≡ b → (b || eqb p keep_power) ≡ true → p ≤ max_level
    go true e q = leb-true p max_level e
    go false e q = let z : ◌≡◌ {A = ℕ} 0 1 = cc in absurd (omega arith)

level_max : (c : Command) (l p : ℕ) → l ≤ max_level → p ≤ max_level → new_level c l p ≤ max_level
level_max Set l p h k = k
level_max Raise l p h k = omega arith
level_max Lower l p h k = omega arith

-- a level and a time within their limits give a valid lamp
timer_rule : (l : Lamp) (v s : ℕ) → v ≤ max_level → s ≤ max_seconds → LampRule (with_timer l v s)
timer_rule l v s m n =
    by_cond (λ (t : ℕ). LampRule (changed l v t)) (eqb v 0) _ _
    (λ u. record { level_max = m; seconds_max = omega arith; seconds_off = λ z. refl })
    (λ u. record { level_max = m; seconds_max = n; seconds_off = λ z. absurd (eqb-false v 0 u z) })

-- a valid lamp stays valid
pub lamp_after_rule : (c : Command) (l : Lamp) (e : PowerEntry) → LampRule l → ChangeRule e → LampRule (lamp_after_entry c l e)
unfolding lamp_after
lamp_after_rule c l e r q =
    by_cond (λ (x : Lamp). LampRule x) (eqb e.power keep_power) _ _
    (λ t. by_cond (λ (x : Lamp). LampRule x) (eqb e.seconds 0) _ _ (λ u. r) (λ u. timer_rule l l.level e.seconds r.level_max q.seconds))
    (λ t. timer_rule l (new_level c l.level e.power) e.seconds
    (level_max c l.level e.power r.level_max (level_power e.power q.power t)) q.seconds)
