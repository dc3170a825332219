-- Laws of faults: reason, position and ErrN.
use mathlib.Core.Path.{◌≡◌, refl, subst}
use mathlib.Core.List.{List}
use Prim.Native.Nat.{ℕ, ◌+◌, ◌-◌, ◌≤◌}
use native.Mathlib.Omega.{arith}
use lib.ListN.{length, drop, length-drop}
use lib.Seq.{get_or-drop}
use Rattle.batch.specs.Batch.{NextEntry, Entry, Fault, ListCheck, Sound, Broken, next_entry_error, Reading, shift_fault, fault_of, reading, list_error, FaultAt, short, past_end, unclosed, trailing}
use Rattle.batch.proofs.Entries.{next_facts_of, entry_sized}
use Rattle.batch.proofs.Lists.{reading_induction}

-- a fault of the bytes from l on is a fault of the whole list
fault_shifted : (s : List ℕ) (l r a : ℕ) → l ≤ length s → FaultAt (drop l s) r a → FaultAt s r (l + a)
fault_shifted s l r a h (short e p x y) = let n = length-drop l s in let g = get_or-drop l s a 0 in short e (omega arith) (omega arith) (omega arith)
fault_shifted s l r a h (past_end e p x y) = let n = length-drop l s in let g = get_or-drop l s a 0 in past_end e (omega arith) (omega arith) (omega arith)
fault_shifted s l r a h (unclosed e p) = let n = length-drop l s in unclosed e (omega arith)
fault_shifted s l r a h (trailing e x y z) =
    let n = length-drop l s in
    let k : (l + a) - 1 ≡ l + (a - 1) = omega arith in
    trailing e (omega arith) (omega arith) (rw (k, ← get_or-drop l s (a - 1) 0) z)

-- what the check of a list says about its bytes
abbrev CheckFacts : List ℕ → ListCheck → Type 0
CheckFacts s Sound = Unit
CheckFacts s (Broken r a) = FaultAt s r a

check_shifted : (s : List ℕ) (l : ℕ) → l ≤ length s → (x : ListCheck) → CheckFacts (drop l s) x → CheckFacts s (shift_fault l x)
check_shifted s l h Sound b = tt
check_shifted s l h (Broken r a) b = fault_shifted s l r a h b

check_facts : (s : List ℕ) → CheckFacts s (reading s).check
check_facts =
    reading_induction (λ (s : List ℕ) (r : Reading). CheckFacts s r.check)
    (λ s o. tt)
    (λ s l p c h e b. check_shifted s l (entry_sized s e).1 (reading (drop l s)).check b)
    (λ s k a o e. next_facts_of s e o)

-- a broken list has the fault that is reported
pub broken_fault : (s : List ℕ) {r a : ℕ} → (reading s).check ≡ Broken r a → FaultAt s r a
broken_fault s e = subst (CheckFacts s) e (check_facts s)

-- the reason is 1 to 4
pub reason_range : {s : List ℕ} {r a : ℕ} → FaultAt s r a → (1 ≤ r) × (r ≤ 4)
reason_range (short e p x y) = (omega arith, omega arith)
reason_range (past_end e p x y) = (omega arith, omega arith)
reason_range (unclosed e p) = (omega arith, omega arith)
reason_range (trailing e x y z) = (omega arith, omega arith)

-- the position is at most the list's length
pub position_max : {s : List ℕ} {r a : ℕ} → FaultAt s r a → a ≤ length s
position_max (short e p x y) = omega arith
position_max (past_end e p x y) = omega arith
position_max (unclosed e p) = omega arith
position_max (trailing e x y z) = omega arith

-- a broken list is ErrN 6
pub broken_error : {x : ListCheck} {r a : ℕ} → x ≡ Broken r a → list_error x ≡ 6
broken_error e = rw e refl

-- a sound list is no error
pub sound_error : {x : ListCheck} → x ≡ Sound → list_error x ≡ 0
sound_error e = rw e refl

-- a list that breaks at its front has the ErrN of that fault
pub fault_error : (n : NextEntry) → list_error (fault_of n) ≡ next_entry_error n
fault_error (Entry l p c h) = refl
fault_error (Fault r a) = refl

-- a list without an error is sound
pub error_sound : (x : ListCheck) → list_error x ≡ 0 → x ≡ Sound
error_sound Sound e = refl
error_sound (Broken r a) e = absurd (omega arith)

-- a broken list is not sound
pub broken_not_sound : {r a : ℕ} → Broken r a ≡ Sound → ⊥
broken_not_sound e = cc
