-- Changing the remaining lamps one after another: each step leaves the lamps at the end what they are.
use mathlib.Core.Path.{◌≡◌, sym, ap, ap₂, ◌∙◌}
use mathlib.Core.Bool.{true}
use mathlib.Core.List.{List}
use Prim.Native.Nat.{ℕ, suc, ◌+◌, ◌-◌, ◌≤◌, ◌<◌}
use native.Mathlib.Omega.{arith}
use lib.ListN.{length, get_or, drop, set, length-drop, drop_of_length-le}
use lib.Seq.{drop-drop}
use borrow.Author.Tests.{lt-ltb, le-ltb}
use Rattle.dpa.specs.Settings.{max_lamps}
use Rattle.dpa.specs.declared.settings.Settings.{Settings}
use Rattle.dpa.specs.Lists.{Bytes}
use Rattle.dpa.specs.Reply.{Reply}
use Rattle.dpa.proofs.Bytes.{bytes_drop}
use Rattle.lights.specs.Bits.{bitmap_size, bits, count, lowest_lamp, without_lowest}
use Rattle.lights.specs.Lamp.{off}
use Rattle.lights.specs.Lights.{PowerEntries, first_power_entry, is_valid, prepend, power_entries, are_valid, changes_of, lamp_after, lamps_after, lights_request, changes_lamps, command_of}
use Rattle.lights.specs.Remaining.{remaining_entries, remaining_lamps, Remaining, walk_end, walk_start, lamp_changed, LampStep}
use Rattle.lights.proofs.Bits.{mask_max, bits_mask, lowest_inside, lowest_less, lowest_counts}
use Rattle.lights.proofs.PowerEntries.{first_valid, first_size_lem, valid_prepend, changes_prepend}
use Rattle.lights.proofs.WellFormed.{entries_in, bitmap_there, entries_valid, changes_command, changes_well_formed}
use Rattle.lights.proofs.Replies.{change_applied, known_pcmd}
use Rattle.lights.proofs.Remaining.{lamps_lowest, lamps_none}
use Rattle.lights.specs.declared.apply.Command.{Command}
use Rattle.lights.specs.declared.lamp.Lamp.{Lamp}
use Rattle.lights.specs.declared.power.PowerEntry.{PowerEntry}
use Rattle.std.specs.Prelude.{Some}
use Rattle.lights.specs.declared.walk.LampWalk.{LampWalk}

-- a request that changes lamps, at its start
module _ (pcmd : ℕ) (src : List ℕ) (start : ℕ) (h : changes_lamps pcmd (drop start src) ≡ true) where
  abbrev pdata : List ℕ
  pdata = drop start src

  -- it has a bitmap
  pub start_room : start + bitmap_size ≤ length src
  start_room =
      let z : bitmap_size ≤ length pdata = bitmap_there pdata (changes_well_formed pcmd pdata h) in
      let n : length pdata ≡ length src - start = length-drop start src in
      omega arith

  module _ (small : Bytes src) where
    pdata_small : Bytes pdata
    pdata_small = bytes_drop start src small

    entries_start : remaining_entries src (walk_start pcmd src start) ≡ entries_in pdata
    entries_start = rw (bits_mask pdata pdata_small, ← drop-drop bitmap_size start src)

    -- its power entries remain
    pub start_remains : Remaining src (walk_start pcmd src start)
    start_remains =
        record {
          mask_max = mask_max pdata pdata_small;
          at_max = start_room;
          entries_valid = ap are_valid entries_start ∙ entries_valid pdata (changes_well_formed pcmd pdata h);
        }

    -- and give the lamps after it
    pub start_lamps : (s : Settings) (ls : List Lamp) → remaining_lamps s.lamp_count src (walk_start pcmd src start) ls ≡ (lights_request s pcmd pdata ls).after
    unfolding remaining_lamps
    start_lamps s ls =
        let c = command_of pcmd in
        ap₂ (λ (bs : List ℕ) (es : PowerEntries). lamps_after c s.lamp_count bs (changes_of es) ls) (bits_mask pdata pdata_small) entries_start
        ∙ sym (change_applied s c pdata ls (changes_well_formed pcmd pdata h))
        ∙ sym (ap (λ (x : Reply (List Lamp)). x.after) (known_pcmd s pcmd pdata ls (changes_command pcmd pdata h)))

-- at the end of a request nothing remains
pub end_remains : (src : List ℕ) (end : ℕ) → end ≡ length src → Remaining src (walk_end end)
unfolding bits
end_remains src end e =
    record { mask_max = omega arith; at_max = omega arith; entries_valid = ap (λ (xs : List ℕ). are_valid (power_entries 0 xs)) (drop_of_length-le src {i = end} (omega arith)) }

module _ (n : ℕ) (src : List ℕ) (w : LampWalk) where
  -- without a remaining lamp the lamps are those at the end
  pub end_lamps : w.remaining ≡ 0 → (ls : List Lamp) → remaining_lamps n src w ls ≡ ls
  unfolding remaining_lamps
  end_lamps z ls =
      ap (λ (m : ℕ). lamps_after w.command n (bits max_lamps m) (changes_of (remaining_entries src w)) ls) z
      ∙ lamps_none w.command max_lamps n (changes_of (remaining_entries src w)) ls

-- a lamp remains: the lowest of them is next
module _ {src : List ℕ} {w : LampWalk} (g : Remaining src w) (some : w.remaining ≡ 0 → ⊥) where
  abbrev bytes : List ℕ
  bytes = drop w.at src

  entries_first : remaining_entries src w ≡ power_entries (suc (count (bits max_lamps (without_lowest w.remaining)))) bytes
  entries_first = ap (λ (k : ℕ). power_entries k bytes) (lowest_counts max_lamps w.remaining some g.mask_max)

  -- its power entry is valid
  pub next_valid : is_valid (first_power_entry bytes) ≡ true
  next_valid =
      first_valid (first_power_entry bytes) (λ size. power_entries (count (bits max_lamps (without_lowest w.remaining))) (drop size bytes))
      (ap are_valid (sym entries_first) ∙ g.entries_valid)

  module _ (e : PowerEntry) (q : first_power_entry bytes ≡ Some e) where
    -- it has a byte and ends inside the request
    pub next_room : (0 < e.size) × (w.at + e.size ≤ length src)
    next_room =
        let f = first_size_lem bytes e q in
        let n : length bytes ≡ length src - w.at = length-drop w.at src in
        (f.0, omega (arith, g.at_max))

    -- the walk after it
    abbrev after : LampWalk
    after = record { command = w.command; remaining = without_lowest w.remaining; at = w.at + e.size }

    entries_next : remaining_entries src w ≡ prepend e (remaining_entries src after)
    entries_next = entries_first ∙ rw (q, drop-drop)

    after_valid : are_valid (remaining_entries src after) ≡ true
    after_valid = sym (valid_prepend e (remaining_entries src after)) ∙ ap are_valid (sym entries_next) ∙ g.entries_valid

    -- the lamp is changed, then those above it
    pub next_step : LampStep src w (record { lamp = lowest_lamp w.remaining; power = e.power; seconds = e.seconds; rest = after })
    unfolding remaining_lamps
    next_step =
        record {
          lamp_max = lowest_inside max_lamps w.remaining some g.mask_max;
          remains = record {
            mask_max = omega (arith, lowest_less max_lamps w.remaining some g.mask_max, g.mask_max);
            at_max = next_room.1;
            entries_valid = after_valid;
          };
          further = omega (arith, next_room.0);
          lamps = λ n ls l.
              sym
              (ap (λ (es : List PowerEntry). lamps_after w.command n (bits max_lamps w.remaining) es ls)
              (ap changes_of entries_next ∙ changes_prepend e (remaining_entries src after) after_valid)
              ∙ lamps_lowest w.command max_lamps w.remaining some g.mask_max n e (changes_of (remaining_entries src after)) ls l);
        }

module _ (c : Command) (n i power seconds : ℕ) (ls : List Lamp) where
  -- an implemented lamp is replaced
  pub changed_implemented : (r : Lamp) → i < n → r ≡ lamp_after c (get_or ls i off) power seconds → set ls i r ≡ lamp_changed c n i power seconds ls
  unfolding lamp_changed
  changed_implemented r h e = rw (lt-ltb i n h, e)

  -- an unimplemented lamp stays
  pub changed_unimplemented : n ≤ i → ls ≡ lamp_changed c n i power seconds ls
  unfolding lamp_changed
  changed_unimplemented h = rw (le-ltb i n h)
