-- A list written from entries reads as those entries, and a sound list is what its entries are written as.
use mathlib.Core.Path.{◌≡◌, refl, sym, ap, ◌∙◌}
use mathlib.Core.List.{List, [], ◌∷◌, ◌++◌, append-nil, append_assoc}
use Prim.Native.Nat.{ℕ, zero, suc, ◌+◌, ◌-◌, ◌≤◌, ◌<◌}
use native.Mathlib.Omega.{arith}
use native.Mathlib.Nat.{add-sub_cancel_left}
use lib.ListN.{length, get_or, take, drop, length-append, length-take, length-drop, take-append-drop}
use lib.Seq.{take-add, take-append_seam, drop_at, drop-drop, length-take-le}
use Rattle.dpa.specs.Lists.{Bytes, slice, All}
use Rattle.dpa.specs.Number.{low, high}
use Rattle.dpa.proofs.Numbers.{word_split, low_word, high_word, word_max}
use Rattle.batch.specs.Batch.{Entry, ListCheck, Sound, Broken, Request, request_of, entry_head_size, closing_zero, entry_bytes, entries_bytes, list_bytes, Sendable, next_entry, Reading, shift_fault, prepend_entry, reading}
use Rattle.dpa.proofs.Bytes.{bytes_nil, bytes_cons, bytes_append, bytes_take, bytes_drop}
use Rattle.batch.proofs.Entries.{NextFacts, at_end_zero, at_end_facts, next_complete, next_facts_of}
use Rattle.batch.proofs.Lists.{reading_end, reading_entry, reading_fault, reading_induction}
use Rattle.batch.proofs.Faults.{broken_not_sound}

-- ---- written, then read

module _ (i : Request) where
  -- an entry is its head and its PData
  pub entry_length_lem : length (entry_bytes i) ≡ entry_head_size + length i.pdata
  unfolding entry_bytes
  entry_length_lem = omega arith

  -- the bytes of an entry read as that entry, with any bytes after them
  pub entry_first : (t : List ℕ) → next_entry (entry_bytes i ++ t) ≡ Entry (entry_head_size + length i.pdata) i.pnum i.pcmd i.hwpid
  unfolding entry_bytes
  entry_first t =
      next_complete (entry_bytes i ++ t) (omega arith) (simp length-append (omega arith))
      ∙ ap (Entry (entry_head_size + length i.pdata) i.pnum i.pcmd) (word_split i.hwpid)

  -- the entry is read, then the bytes after it
  pub entry_reading : (t : List ℕ)
      → reading (entry_bytes i ++ t) ≡ record { entries = i ∷ (reading t).entries; check = shift_fault (entry_head_size + length i.pdata) (reading t).check }
  unfolding entry_bytes
  entry_reading t =
      let n = entry_head_size + length i.pdata in
      reading_entry (entry_bytes i ++ t) (entry_first t)
      ∙ ap (λ (u : List ℕ). prepend_entry (Entry n i.pnum i.pcmd i.hwpid) (entry_bytes i ++ t) (reading u)) (drop_at (entry_bytes i) t n entry_length_lem)
      ∙ ap (λ (d : List ℕ). record { entries = request_of i.pnum i.pcmd i.hwpid d ∷ (reading t).entries; check = shift_fault n (reading t).check })
      (ap (λ (k : ℕ). take k (i.pdata ++ t)) (add-sub_cancel_left entry_head_size (length i.pdata)) ∙ take-append_seam i.pdata t)

shift_zero : (x : ListCheck) → x ≡ shift_fault 0 x
shift_zero Sound = refl
shift_zero (Broken r a) = ap (Broken r) (omega arith)

shift_add : (m n : ℕ) (x : ListCheck) → shift_fault m (shift_fault n x) ≡ shift_fault (m + n) x
shift_add m n Sound = refl
shift_add m n (Broken r a) = ap (Broken r) (omega arith)

-- the entries are read, then the bytes after them; a fault there keeps its reason and its position
pub entries_reading : (is : List Request) (t : List ℕ)
    → reading (entries_bytes is ++ t) ≡ record { entries = is ++ (reading t).entries; check = shift_fault (length (entries_bytes is)) (reading t).check }
unfolding entries_bytes
entries_reading [] t = ap (λ (x : ListCheck). record { entries = (reading t).entries; check = x }) (shift_zero (reading t).check)
entries_reading (i ∷ is) t =
    let n = entry_head_size + length i.pdata in
    let x = (reading t).check in
    let k : n + length (entries_bytes is) ≡ length (entry_bytes i ++ entries_bytes is) = sym (length-append (entry_bytes i) (entries_bytes is) ∙ ap (λ (m : ℕ). m + length (entries_bytes is)) (entry_length_lem i)) in
    ap reading (append_assoc (entry_bytes i) (entries_bytes is) t)
    ∙ entry_reading i (entries_bytes is ++ t)
    ∙ ap (λ (r : Reading). record { entries = i ∷ r.entries; check = shift_fault n r.check }) (entries_reading is t)
    ∙ ap (λ (y : ListCheck). record { entries = i ∷ (is ++ (reading t).entries); check = y })
    (shift_add n (length (entries_bytes is)) x ∙ ap (λ (m : ℕ). shift_fault m x) k)

-- a list written from entries is sound and reads as these entries
pub round_trip : (is : List Request) → reading (list_bytes is) ≡ record { entries = is; check = Sound }
round_trip is =
    entries_reading is (closing_zero ∷ [])
    ∙ ap (λ (r : Reading). record { entries = is ++ r.entries; check = shift_fault (length (entries_bytes is)) r.check })
    (reading_end (closing_zero ∷ []) (at_end_zero (closing_zero ∷ []) refl refl))
    ∙ ap (λ (js : List Request). record { entries = js; check = Sound }) (append-nil is)

-- a list has at least the closing zero
pub list_nonempty : (is : List Request) → 0 < length (list_bytes is)
list_nonempty is = rw (length-append (entries_bytes is) (closing_zero ∷ [])) (omega arith)

-- a sendable entry is written as bytes
pub entry_bytes_lem : (i : Request) → Sendable i → Bytes (entry_bytes i)
unfolding entry_bytes
entry_bytes_lem i z zero = let n = z.size in omega arith
entry_bytes_lem i z (suc zero) = z.pnum_byte
entry_bytes_lem i z (suc (suc zero)) = z.pcmd_byte
entry_bytes_lem i z (suc (suc (suc zero))) = omega arith
entry_bytes_lem i z (suc (suc (suc (suc zero)))) = let h = z.hwpid_word in omega arith
entry_bytes_lem i z (suc (suc (suc (suc (suc k))))) = z.pdata_bytes k

-- a list of sendable entries is written as bytes
pub list_bytes_lem : (is : List Request) → All Sendable is → Bytes (list_bytes is)
unfolding entries_bytes
list_bytes_lem [] z = bytes_cons closing_zero [] (omega arith) bytes_nil
list_bytes_lem (i ∷ is) z =
    rw (append_assoc (entry_bytes i) (entries_bytes is) (closing_zero ∷ []))
    (bytes_append (entry_bytes i) (list_bytes is) (entry_bytes_lem i z.0) (list_bytes_lem is z.1))

-- ---- read, then written

head_bytes_lem : (s : List ℕ) → entry_head_size ≤ length s → take entry_head_size s ≡ get_or s 0 0 ∷ get_or s 1 0 ∷ get_or s 2 0 ∷ get_or s 3 0 ∷ get_or s 4 0 ∷ []
head_bytes_lem [] h = absurd (omega arith)
head_bytes_lem (a ∷ []) h = absurd (omega arith)
head_bytes_lem (a ∷ b ∷ []) h = absurd (omega arith)
head_bytes_lem (a ∷ b ∷ c ∷ []) h = absurd (omega arith)
head_bytes_lem (a ∷ b ∷ c ∷ d ∷ []) h = absurd (omega arith)
head_bytes_lem (a ∷ b ∷ c ∷ d ∷ e ∷ s) h = refl

one_zero : (s : List ℕ) → length s ≡ 1 → get_or s 0 0 ≡ closing_zero → closing_zero ∷ [] ≡ s
one_zero [] h z = absurd (omega arith)
one_zero (a ∷ []) h z = ap (λ (n : ℕ). n ∷ []) (sym z)
one_zero (a ∷ b ∷ s) h z = absurd (omega arith)

module _ (s : List ℕ) {l p c h : ℕ} (by : Bytes s) (e : next_entry s ≡ Entry l p c h) where
  facts : NextFacts s (Entry l p c h)
  facts = next_facts_of s e

  pdata_length_lem : length (slice s entry_head_size (l - entry_head_size)) ≡ l - entry_head_size
  pdata_length_lem = let z = facts in simp (length-take, length-drop) (omega arith)

  -- an entry that was read is written as the bytes that it was read from
  pub entry_written : entry_bytes (request_of p c h (slice s entry_head_size (l - entry_head_size))) ≡ take l s
  unfolding entry_bytes
  entry_written =
      let z = facts in
      let n = pdata_length_lem in
      let e0 : entry_head_size + length (slice s entry_head_size (l - entry_head_size)) ≡ get_or s 0 0 = omega arith in
      let e3 : low h ≡ get_or s 3 0 = ap low z.5 ∙ low_word (get_or s 3 0) (get_or s 4 0) (by 3) in
      let e4 : high h ≡ get_or s 4 0 = ap high z.5 ∙ high_word (get_or s 3 0) (get_or s 4 0) (by 3) in
      let el : entry_head_size + (l - entry_head_size) ≡ l = omega arith in
      let t : take l s ≡ take entry_head_size s ++ slice s entry_head_size (l - entry_head_size) = ap (λ (k : ℕ). take k s) (sym el) ∙ take-add entry_head_size (l - entry_head_size) s in
      rw (e0, e3, e4, z.3, z.4, t, head_bytes_lem s (omega arith))

  -- an entry that was read from bytes is sendable
  pub entry_sendable : Sendable (request_of p c h (slice s entry_head_size (l - entry_head_size)))
  entry_sendable =
      let z = facts in
      let n = pdata_length_lem in
      let b0 = by 0 in
      let b1 = by 1 in
      let b2 = by 2 in
      let w = word_max (get_or s 3 0) (get_or s 4 0) (by 3) (by 4) in
      record {
        pnum_byte = omega arith;
        pcmd_byte = omega arith;
        hwpid_word = omega arith;
        pdata_bytes = bytes_take (l - entry_head_size) (drop entry_head_size s) (bytes_drop entry_head_size s by);
        size = omega arith;
      }

-- s is the entries of r, then a rest with no entry at its front
abbrev pub EntriesThenRest : List ℕ → Reading → Type 0
EntriesThenRest s r =
    let rest = drop (length (entries_bytes r.entries)) s in
    (entries_bytes r.entries ++ rest ≡ s) × ((reading rest).entries ≡ [])

shift_sound : (l : ℕ) (x : ListCheck) → shift_fault l x ≡ Sound → x ≡ Sound
shift_sound l Sound e = refl
shift_sound l (Broken r a) e = absurd (broken_not_sound e)

-- every list of bytes is the entries that are read, then bytes with no entry at their front
pub entries_then_rest : (s : List ℕ) → Bytes s → EntriesThenRest s (reading s)
unfolding entries_bytes
entries_then_rest =
    reading_induction (λ (s : List ℕ) (r : Reading). Bytes s → EntriesThenRest s r)
    (λ s o by. (refl, ap (λ (x : Reading). x.entries) (reading_end s o)))
    (λ s l p c h e ih by.
    let i = request_of p c h (slice s entry_head_size (l - entry_head_size)) in
    let es = entries_bytes (reading (drop l s)).entries in
    let z = ih (bytes_drop l s by) in
    let w = entry_written s by e in
    let n : length (entry_bytes i ++ es) ≡ l + length es = length-append (entry_bytes i) es ∙ ap (λ (k : ℕ). k + length es) (ap length w ∙ length-take-le l s (next_facts_of s e).1) in
    let d : drop (length (entry_bytes i ++ es)) s ≡ drop (length es) (drop l s) = ap (λ (k : ℕ). drop k s) n ∙ sym (drop-drop (length es) l s) in (
      append_assoc (entry_bytes i) es (drop (length (entry_bytes i ++ es)) s)
          ∙ ap (λ (x : List ℕ). entry_bytes i ++ (es ++ x)) d
          ∙ ap (λ (x : List ℕ). entry_bytes i ++ x) z.0
          ∙ ap (λ (x : List ℕ). x ++ drop l s) w
          ∙ take-append-drop l s,
      ap (λ (x : List ℕ). (reading x).entries) d ∙ z.1,
    ))
    (λ s k a o e by. (refl, ap (λ (x : Reading). x.entries) (reading_fault s o e)))

-- a sound list without entries is the closing zero
no_entries_zero : (s : List ℕ) → (reading s).entries ≡ [] → (reading s).check ≡ Sound → closing_zero ∷ [] ≡ s
no_entries_zero =
    reading_induction (λ (s : List ℕ) (r : Reading). r.entries ≡ [] → r.check ≡ Sound → closing_zero ∷ [] ≡ s)
    (λ s o i t. let z = at_end_facts s o in one_zero s z.0 z.1)
    (λ s l p c h e ih i t. let z = ap length i in absurd (omega arith))
    (λ s k a o e i t. absurd (broken_not_sound t))

-- a sound list is exactly what its entries are written as
pub reverse_round_trip : (s : List ℕ) → Bytes s → (reading s).check ≡ Sound → list_bytes (reading s).entries ≡ s
reverse_round_trip s by t =
    let is = (reading s).entries in
    let z = entries_then_rest s by in
    let rest = drop (length (entries_bytes is)) s in
    let u = sym (ap (λ (r : Reading). r.check) (entries_reading is rest)) ∙ ap (λ (x : List ℕ). (reading x).check) z.0 ∙ t in
    ap (λ (x : List ℕ). entries_bytes is ++ x) (no_entries_zero rest z.1 (shift_sound (length (entries_bytes is)) (reading rest).check u)) ∙ z.0

-- all entries that are read from bytes are sendable
pub read_sendable : (s : List ℕ) → Bytes s → All Sendable (reading s).entries
read_sendable =
    reading_induction (λ (s : List ℕ) (r : Reading). Bytes s → All Sendable r.entries)
    (λ s o by. tt)
    (λ s l p c h e ih by. (entry_sendable s by e, ih (bytes_drop l s by)))
    (λ s k a o e by. tt)
