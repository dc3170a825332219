-- What the power entries of a request do to one lamp.
use mathlib.Core.Path.{◌≡◌, refl, ap, ◌∙◌}
use mathlib.Core.Bool.{Bool, true, false, cond, ◌&&◌}
use mathlib.Core.List.{List, [], ◌∷◌}
use Prim.Native.Nat.{ℕ, zero, suc, ◌-◌, ◌≤◌}
use native.Mathlib.Omega.{arith}
use lib.ListN.{length, get_or, take}
use lib.Dec.{ltb}
use borrow.Author.Tests.{lt-ltb, le-ltb, ltb-true, ltb-false}
use Rattle.dpa.specs.declared.settings.Settings.{Settings}
use Rattle.dpa.proofs.Bool.{and_right_false}
use Rattle.lights.specs.Bits.{count}
use Rattle.lights.specs.Lamp.{off, actual_level}
use Rattle.lights.specs.Lights.{lamp_after, lamps_after, levels_before}
use Rattle.lights.proofs.Bits.{is_set}
use Rattle.lights.proofs.PowerEntries.{zero_entry}
use Rattle.lights.specs.declared.apply.Command.{Command}
use Rattle.lights.specs.declared.lamp.Lamp.{Lamp}
use Rattle.lights.specs.declared.power.PowerEntry.{PowerEntry}

-- a lamp after its change
abbrev pub lamp_after_entry : Command → Lamp → PowerEntry → Lamp
lamp_after_entry c l e = lamp_after c l e.power e.seconds

ltb_less : (i n : ℕ) → ltb i (n - 1) ≡ ltb (suc i) n
ltb_less i n = go (ltb (suc i) n) refl
  where
    go : (b : Bool) → ltb (suc i) n ≡ b → ltb i (n - 1) ≡ b
    go true e = lt-ltb i (n - 1) (omega (arith, ltb-true (suc i) n e))
    go false e = le-ltb i (n - 1) (omega (arith, ltb-false (suc i) n e))

-- a selected, implemented lamp takes the change whose index is the number of selected lamps below it; any other lamp is unchanged
pub lamps_after_at : (c : Command) (n : ℕ) (bs : List ℕ) (es : List PowerEntry) (ls : List Lamp) (k : ℕ) → length bs ≤ length ls → count bs ≤ length es
    → get_or (lamps_after c n bs es ls) k off
    ≡ cond (is_set (get_or bs k 0) && ltb k n) (lamp_after_entry c (get_or ls k off) (get_or es (count (take k bs)) zero_entry)) (get_or ls k off)
unfolding lamps_after
lamps_after_at c n [] es ls k h q = refl
lamps_after_at c n (b ∷ bs) es [] k h q = absurd (omega arith)
lamps_after_at c n (zero ∷ bs) es (l ∷ ls) zero h q = refl
lamps_after_at c n (zero ∷ bs) es (l ∷ ls) (suc k) h q =
    lamps_after_at c (n - 1) bs es ls k (omega arith) q
    ∙ ap (λ (t : Bool). cond (is_set (get_or bs k 0) && t) (lamp_after_entry c (get_or ls k off) (get_or es (count (take k bs)) zero_entry)) (get_or ls k off)) (ltb_less k n)
lamps_after_at c n (suc b ∷ bs) [] (l ∷ ls) k h q = absurd (omega arith)
lamps_after_at c n (suc b ∷ bs) (e ∷ es) (l ∷ ls) zero h q = refl
lamps_after_at c n (suc b ∷ bs) (e ∷ es) (l ∷ ls) (suc k) h q =
    lamps_after_at c (n - 1) bs es ls k (omega arith) (omega arith)
    ∙ ap (λ (t : Bool). cond (is_set (get_or bs k 0) && t) (lamp_after_entry c (get_or ls k off) (get_or es (count (take k bs)) zero_entry)) (get_or ls k off)) (ltb_less k n)

-- an unimplemented lamp is unchanged
pub lamp_unimplemented : (c : Command) (n : ℕ) (bs : List ℕ) (es : List PowerEntry) (ls : List Lamp) (k : ℕ) → length bs ≤ length ls → count bs ≤ length es → n ≤ k
    → get_or (lamps_after c n bs es ls) k off ≡ get_or ls k off
lamp_unimplemented c n bs es ls k h q l =
    lamps_after_at c n bs es ls k h q
    ∙ ap (λ (t : Bool). cond t (lamp_after_entry c (get_or ls k off) (get_or es (count (take k bs)) zero_entry)) (get_or ls k off))
    (and_right_false (is_set (get_or bs k 0)) (ltb k n) (le-ltb k n l))

-- the number of lamps is unchanged
pub lamps_length : (c : Command) (n : ℕ) (bs : List ℕ) (es : List PowerEntry) (ls : List Lamp) → length (lamps_after c n bs es ls) ≡ length ls
unfolding lamps_after
lamps_length c n [] es ls = refl
lamps_length c n (b ∷ bs) es [] = refl
lamps_length c n (zero ∷ bs) es (l ∷ ls) = ap suc (lamps_length c (n - 1) bs es ls)
lamps_length c n (suc b ∷ bs) [] (l ∷ ls) = refl
lamps_length c n (suc b ∷ bs) (e ∷ es) (l ∷ ls) = ap suc (lamps_length c (n - 1) bs es ls)

-- a selected lamp's level is returned at the index that is the number of selected lamps below it
pub levels_before_at : (s : Settings) (n : ℕ) (bs : List ℕ) (ls : List Lamp) (k : ℕ) → length bs ≤ length ls → is_set (get_or bs k 0) ≡ true
    → get_or (levels_before s n bs ls) (count (take k bs)) 0 ≡ cond (ltb k n) (actual_level s (get_or ls k off).level) 0
unfolding levels_before
levels_before_at s n [] ls k h t = let z : ◌≡◌ {A = ℕ} 0 1 = cc in absurd (omega arith)
levels_before_at s n (b ∷ bs) [] k h t = absurd (omega arith)
levels_before_at s n (zero ∷ bs) (l ∷ ls) zero h t = let z : ◌≡◌ {A = ℕ} 0 1 = cc in absurd (omega arith)
levels_before_at s n (zero ∷ bs) (l ∷ ls) (suc k) h t =
    levels_before_at s (n - 1) bs ls k (omega arith) t ∙ ap (λ (b : Bool). cond b (actual_level s (get_or ls k off).level) 0) (ltb_less k n)
levels_before_at s n (suc b ∷ bs) (l ∷ ls) zero h t = refl
levels_before_at s n (suc b ∷ bs) (l ∷ ls) (suc k) h t =
    levels_before_at s (n - 1) bs ls k (omega arith) t ∙ ap (λ (b : Bool). cond b (actual_level s (get_or ls k off).level) 0) (ltb_less k n)
