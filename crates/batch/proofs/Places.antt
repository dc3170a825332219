-- The reason and the place of a broken list: what they say, and that they are those of its first fault.
use mathlib.Core.Path.{◌≡◌, refl, sym, ap, subst, ◌∙◌}
use mathlib.Core.Logic.{◌↔◌}
use mathlib.Core.List.{List, [], ◌++◌}
use mathlib.Core.Bool.{false}
use Prim.Native.Nat.{ℕ, ◌+◌, ◌-◌, ◌≤◌, ◌<◌}
use native.Mathlib.Omega.{arith}
use lib.ListN.{length, get_or, take, drop, length-drop, take-append-drop}
use lib.Seq.{get_or-drop, take-append_seam, length-take-le}
use lib.Dec.{ltb, eqb}
use Rattle.dpa.specs.Lists.{Bytes, slice}
use Rattle.dpa.proofs.Bool.{by_cond}
use Rattle.dpa.proofs.Lists.{slice_to_end}
use Rattle.batch.specs.Batch.{NextEntry, Fault, ListCheck, Sound, Broken, entry_head_size, closing_zero, entries_bytes, at_end, next_entry, Reading, shift_fault, fault_of, reading, reason_of, place_of, FaultAt, short, past_end, unclosed, trailing, entries_end, ListFault, SoundList}
use Rattle.batch.proofs.Entries.{not_at_end, nonzero_not_at_end, next_unclosed, next_trailing, next_short, next_past_end}
use Rattle.batch.proofs.Lists.{reading_fault, reading_induction}
use Rattle.batch.proofs.Faults.{broken_fault, broken_not_sound, reason_range, position_max}
use Rattle.batch.proofs.RoundTrip.{entries_reading, round_trip, entries_then_rest, reverse_round_trip}

-- ---- a fault that the bytes have is the one that is found

module _ (s : List ℕ) (r a : ℕ) (f : ListFault s r a) where
  -- whole entries, then bytes that begin with a fault, `front` bytes before its place
  fault_after_entries : (p : ℕ) {k front : ℕ} → r ≡ k → entries_end k a ≡ p → p ≤ length s → p + front ≡ a
      → at_end (drop p s) ≡ false → next_entry (drop p s) ≡ Fault k front → (reading s).check ≡ Broken r a
  fault_after_entries p {k} {front} e z h q o n =
      let is = f.entries in
      let w : take p s ≡ entries_bytes is = ap (λ (i : ℕ). take i s) (sym (ap (λ (j : ℕ). entries_end j a) e ∙ z)) ∙ f.before in
      let size : length (entries_bytes is) ≡ p = ap length (sym w) ∙ length-take-le p s h in
      ap (λ (t : List ℕ). (reading t).check) (sym (ap (λ (t : List ℕ). t ++ drop p s) (sym w) ∙ take-append-drop p s))
      ∙ ap (λ (x : Reading). x.check) (entries_reading is (drop p s))
      ∙ ap (λ (x : Reading). shift_fault (length (entries_bytes is)) x.check) (reading_fault (drop p s) o n)
      ∙ ap (λ (i : ℕ). Broken k (i + front)) size
      ∙ ap (Broken k) q
      ∙ ap (λ (j : ℕ). Broken j a) (sym e)

  -- a list with a fault at a place is found to have it
  pub fault_found : (reading s).check ≡ Broken r a
  fault_found = at f.fault
    where
      -- the first byte from position p on
      first_byte : (p : ℕ) → get_or (drop p s) 0 0 ≡ get_or s p 0
      first_byte p = get_or-drop p s 0 0 ∙ ap (λ (i : ℕ). get_or s i 0) (omega arith)

      at : FaultAt s r a → (reading s).check ≡ Broken r a
      at (short e h x y) =
          let n = length-drop a s in
          let g = first_byte a in
          fault_after_entries a e refl (omega arith) (omega arith) (nonzero_not_at_end (drop a s) (omega arith)) (next_short (drop a s) (omega arith) (omega arith) (omega arith))
      at (past_end e h x y) =
          let n = length-drop a s in
          let g = first_byte a in
          fault_after_entries a e refl (omega arith) (omega arith) (nonzero_not_at_end (drop a s) (omega arith)) (next_past_end (drop a s) (omega arith) (omega arith) (omega arith))
      at (unclosed e h) =
          let n = length-drop a s in
          fault_after_entries a e refl (omega arith) (omega arith) (not_at_end (drop a s) (omega arith)) (next_unclosed (drop a s) (omega arith))
      at (trailing e x y z) =
          let n = length-drop (a - 1) s in
          fault_after_entries (a - 1) e refl (omega arith) (omega arith) (not_at_end (drop (a - 1) s) (omega arith)) (next_trailing (drop (a - 1) s) (omega arith) (first_byte (a - 1) ∙ z))

-- ---- a fault that is found is one that the bytes have

-- a fault at the front: with n bytes of entries before it, the entries end at n
abbrev AtFront : ListCheck → Type 0
AtFront Sound = Unit
AtFront (Broken r a) = (n : ℕ) → entries_end r (n + a) ≡ n

next_at_front : (s : List ℕ) → AtFront (fault_of (next_entry s))
unfolding next_entry
next_at_front s =
    let P : NextEntry → Type 0 = λ n. AtFront (fault_of n) in
    by_cond P (eqb (length s) 0) _ _ (λ _ n. omega arith)
    (λ _. by_cond P (eqb (get_or s 0 0) closing_zero) _ _ (λ _ n. omega arith)
    (λ _. by_cond P (ltb (get_or s 0 0) entry_head_size) _ _ (λ _ n. omega arith)
    (λ _. by_cond P (ltb (length s) (get_or s 0 0)) _ _ (λ _ n. omega arith) (λ _. tt))))

-- without entries, a fault is at the front
no_entries_front : (s : List ℕ) → (reading s).entries ≡ [] → AtFront (reading s).check
no_entries_front =
    reading_induction (λ (s : List ℕ) (r : Reading). r.entries ≡ [] → AtFront r.check)
    (λ s o i. tt)
    (λ s l p c h e ih i. let z = ap length i in absurd (omega arith))
    (λ s k a o e i. subst (λ (n : NextEntry). AtFront (fault_of n)) e (next_at_front s))

shifted_end : (n r a : ℕ) (x : ListCheck) → AtFront x → shift_fault n x ≡ Broken r a → entries_end r a ≡ n
shifted_end n r a Sound f e = absurd (broken_not_sound (sym e))
shifted_end n r a (Broken q b) f e = ap (λ (x : ListCheck). entries_end (reason_of x) (place_of x)) (sym e) ∙ f n

-- a list that is found broken has that fault at that place
pub found_fault : (s : List ℕ) → Bytes s → {r a : ℕ} → (reading s).check ≡ Broken r a → ListFault s r a
found_fault s by {r} {a} e =
    let is = (reading s).entries in
    let n = length (entries_bytes is) in
    let rest = drop n s in
    let z = entries_then_rest s by in
    let u : shift_fault n (reading rest).check ≡ Broken r a = sym (ap (λ (x : Reading). x.check) (entries_reading is rest)) ∙ ap (λ (t : List ℕ). (reading t).check) z.0 ∙ e in
    let k = shifted_end n r a (reading rest).check (no_entries_front rest z.1) u in
    record {
      entries = is;
      before = ap (λ (i : ℕ). take i s) k ∙ ap (take n) (sym z.0) ∙ take-append_seam (entries_bytes is) rest;
      fault = broken_fault s e;
    }

-- ---- what is reported

-- a list of bytes is found broken with this reason at this place exactly if it has that fault there
pub fault_exact : (s : List ℕ) → Bytes s → (r a : ℕ) → ((reading s).check ≡ Broken r a) ↔ ListFault s r a
fault_exact s by r a = (found_fault s by, fault_found s r a)

-- no place before the one that is found has a fault
pub no_earlier_fault : (s : List ℕ) {r a : ℕ} → (reading s).check ≡ Broken r a → (q b : ℕ) → b < a → ListFault s q b → ⊥
no_earlier_fault s e q b h f = let z = ap place_of (sym e ∙ fault_found s q b f) in omega arith

module _ (s : List ℕ) where
  -- a property of the check holds if it holds for a sound list and for every fault that is found
  check_cases : (P : ListCheck → Type 0) → P Sound → ((r a : ℕ) → (reading s).check ≡ Broken r a → P (Broken r a)) → P (reading s).check
  check_cases P sound broken = at (reading s).check refl
    where
      at : (x : ListCheck) → (reading s).check ≡ x → P x
      at Sound e = sound
      at (Broken r a) e = broken r a e

  -- the reason is 0 exactly if the list is found sound
  pub reason_zero : (reason_of (reading s).check ≡ 0) ↔ ((reading s).check ≡ Sound)
  reason_zero = (
    check_cases (λ x. reason_of x ≡ 0 → x ≡ Sound) (λ _. refl) (λ r a e z. let h = reason_range (broken_fault s e) in absurd (omega arith)),
    λ e. ap reason_of e,
  )

  -- the reason is 0 exactly if the bytes are whole entries and the closing zero
  pub sound_exact : Bytes s → (reason_of (reading s).check ≡ 0) ↔ SoundList s
  sound_exact by = (
    λ z. record { entries = (reading s).entries; whole = sym (reverse_round_trip s by (reason_zero.0 z)) },
    λ w. ap (λ (t : List ℕ). reason_of (reading t).check) w.whole ∙ ap (λ (x : Reading). reason_of x.check) (round_trip w.entries),
  )

  -- any other reason is that of a fault at the place
  pub reported_fault : Bytes s → ¬ (reason_of (reading s).check ≡ 0) → ListFault s (reason_of (reading s).check) (place_of (reading s).check)
  reported_fault by = check_cases (λ x. ¬ (reason_of x ≡ 0) → ListFault s (reason_of x) (place_of x)) (λ n. absurd (n refl)) (λ r a e _. found_fault s by e)

  -- the place is at most the list's length
  pub place_max : place_of (reading s).check ≤ length s
  place_max = check_cases (λ x. place_of x ≤ length s) (omega arith) (λ r a e. position_max (broken_fault s e))

-- a fault after the first n bytes of a list has its place in the list
pub place_in_list : (s : List ℕ) (n : ℕ) → n ≤ length s → {r a : ℕ} → Broken r a ≡ (reading (slice s n (length s - n))).check → n + a ≤ length s
place_in_list s n h e =
    let z = ap place_of e ∙ ap (λ (t : List ℕ). place_of (reading t).check) (slice_to_end n s) in
    omega (arith, z, place_max (drop n s), length-drop n s)
