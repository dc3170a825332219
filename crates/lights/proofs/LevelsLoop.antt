-- The invariant of the loop in `write_levels`, and how each path through its body keeps it.
use mathlib.Core.Path.{◌≡◌, sym, ap, ◌∙◌}
use mathlib.Core.Bool.{true}
use mathlib.Core.List.{List, ◌++◌, append-nil}
use Prim.Native.Nat.{ℕ, ◌+◌, ◌^◌, ◌≤◌, ◌<◌}
use native.Mathlib.Numerals.{add-one}
use native.Mathlib.Omega.{arith}
use lib.ListN.{length, get_or, take, drop, set, length-set}
use lib.Seq.{take_all, take-suc-set, append_snoc}
use Rattle.std.proofs.lemmas.List.{nil_from_length}
use lib.Dec.{ltb}
use borrow.Author.Tests.{ltb-false}
use Rattle.dpa.specs.Settings.{max_lamps, settings_ok}
use Rattle.dpa.proofs.Bool.{by_test}
use Rattle.dpa.specs.Lists.{Bytes, overwrite_front}
use Rattle.dpa.specs.declared.settings.Settings.{Settings}
use Rattle.lights.specs.Bits.{bits, count, bitmap, mask_of, lowest_lamp, without_lowest}
use Rattle.lights.specs.Lamp.{off, SoundLevels, actual_level}
use Rattle.lights.proofs.Lamps.{actual_off}
use Rattle.lights.specs.Lights.{levels_before}
use Rattle.lights.proofs.Bits.{count_none, bits_length, mask_max, bits_mask, lowest_less, lowest_counts}
use Rattle.lights.proofs.Selected.{bitmap_length}
use Rattle.lights.proofs.Replies.{levels_length}
use Rattle.lights.proofs.Remaining.{level_of_lamp, levels_lowest}
use Rattle.lights.specs.declared.lamp.Lamp.{Lamp}

-- With the mask m remaining and the first k of the items written: these and the levels of the remaining lamps are the result.
pub record LevelsLoop (s : Settings) (ls : List Lamp) (result items : List ℕ) (m k : ℕ) : Type 0 where
  pub left : k + count (bits max_lamps m) ≡ length items
  pub mask_max : m < 2 ^ max_lamps
  pub levels : result ≡ take k items ++ levels_before s s.lamp_count (bits max_lamps m) ls

-- the number of 1-bits is the length of the result
pub levels_counted : (s : Settings) (src : List ℕ) (ls : List Lamp) (mask : ℕ) → length ls ≡ max_lamps → Bytes src → mask ≡ mask_of src
    → count (bits max_lamps mask) ≡ length (levels_before s s.lamp_count (bitmap src) ls)
levels_counted s src ls mask full small e =
    ap (λ (m : ℕ). count (bits max_lamps m)) e
    ∙ ap count (bits_mask src small)
    ∙ sym (levels_length s s.lamp_count (bitmap src) ls (omega (arith, bitmap_length src)))

-- the invariant holds before the loop
pub levels_start : (s : Settings) (src : List ℕ) (ls : List Lamp) (items : List ℕ) (mask : ℕ) → Bytes src → mask ≡ mask_of src
    → count (bits max_lamps mask) ≡ length items
    → LevelsLoop s ls (levels_before s s.lamp_count (bitmap src) ls) items mask 0
levels_start s src ls items mask small e n =
    record { left = omega (arith, n); mask_max = rw e (mask_max src small); levels = rw (e, bits_mask src small) }

module _ {s : Settings} {ls : List Lamp} {result items : List ℕ} {m k : ℕ} (w : LevelsLoop s ls result items m k) where
  -- a lamp remains for each item that is not written
  pub levels_some : k < length items → m ≡ 0 → ⊥
  levels_some h z = omega (arith, w.left, ap (λ (j : ℕ). count (bits max_lamps j)) z, count_none max_lamps)

  -- after the loop the items are the result
  levels_end : length ls ≡ max_lamps → length items ≤ k → result ≡ items
  levels_end full h =
      let rest = levels_before s s.lamp_count (bits max_lamps m) ls in
      let n : length rest ≡ 0 = omega (arith, levels_length s s.lamp_count (bits max_lamps m) ls (omega (arith, bits_length max_lamps m)), w.left) in
      w.levels ∙ rw (nil_from_length rest n, append-nil, take_all k items h)

  -- and the bytes after them are still those of the lent buffer
  pub levels_written : length ls ≡ max_lamps → length items ≤ k → (n : ℕ) (old : List ℕ) → length items ≡ n → items ++ drop n old ≡ overwrite_front result old
  levels_written full h n old e = rw (levels_end full h, ← e)

  module _ (valid : settings_ok s ≡ true) (sound : SoundLevels s.lamp_count ls) (full : length ls ≡ max_lamps) where
    -- an unimplemented lamp has the level of a lamp that is off
    level_at : (i : ℕ) → actual_level s (get_or ls i off).level ≡ level_of_lamp s s.lamp_count ls i
    level_at i =
        by_test (ltb i s.lamp_count) (λ t. rw t)
        (λ t. rw t (ap (actual_level s) (sound.unimplemented_off i (ltb-false _ _ t)) ∙ actual_off s valid))

    -- the level of the lowest lamp is written
    pub levels_next : (v i : ℕ) → k < length items → i ≡ lowest_lamp m → v ≡ actual_level s (get_or ls i off).level
        → LevelsLoop s ls result (set items k v) (without_lowest m) (k + 1)
    levels_next v i h j e =
        let some = levels_some h in
        let x : v ≡ level_of_lamp s s.lamp_count ls (lowest_lamp m) = e ∙ level_at i ∙ ap (level_of_lamp s s.lamp_count ls) j in
        record {
          left = omega (arith, w.left, length-set items k v, lowest_counts max_lamps m some w.mask_max);
          mask_max = omega (arith, w.mask_max, lowest_less max_lamps m some w.mask_max);
          levels = w.levels
              ∙ ap (λ (x : List ℕ). take k items ++ x) (levels_lowest s max_lamps m some w.mask_max s.lamp_count ls full)
              ∙ rw (← x, add-one k, take-suc-set, append_snoc);
        }
