-- Laws of a request's reply, one for each return of the code.
use mathlib.Core.Path.{◌≡◌, refl, sym, ap, ◌∙◌}
use mathlib.Core.List.{List, [], ◌∷◌}
use Prim.Native.Nat.{ℕ, zero, suc, ◌-◌, ◌≤◌, ◌<◌}
use mathlib.Core.Bool.{true, false}
use native.Mathlib.Omega.{arith}
use lib.ListN.{length}
use lib.Dec.{ltb}
use borrow.Author.Tests.{le-ltb, ltb-false, ne_eqb}
use Rattle.dpa.specs.Lists.{overwrite_front}
use Rattle.dpa.specs.Reply.{Reply, reply, error_reply, reply_seen, outcome_seen, reply_in_buffer}
use Rattle.std.specs.Prelude.{Err}
use Rattle.dpa.specs.Error.{error_number}
use Rattle.dpa.specs.declared.error.ErrN.{ErrN}
use Rattle.dpa.specs.declared.settings.Settings.{Settings}
use Rattle.dpa.proofs.Bool.{by_test}
use Rattle.lights.specs.Bits.{bitmap_size, count, bitmap}
use Rattle.lights.specs.Lights.{command_pcmd, enumerate_pcmd, malformed_error, lamps_after, levels_before, levels_reply, well_formed, command_of, change_lamps, lights_request}
use Rattle.lights.proofs.PowerEntries.{valid_changes, not_valid_malformed}
use Rattle.lights.proofs.WellFormed.{entries_in, changes_in, well_formed_entries, bitmap_there, entries_valid}
use Rattle.lights.specs.declared.apply.Command.{Command}
use Rattle.lights.specs.declared.apply.Command.TheVariants.{Set, Raise, Lower}
use Rattle.lights.specs.declared.lamp.Lamp.{Lamp}

-- a refused request leaves the lent buffer
pub refused : (x : Reply (List Lamp)) (e : ErrN) (ls : List Lamp) (o : List ℕ) → x ≡ error_reply ls (error_number e)
    → outcome_seen x.after (Err e) o ≡ reply_in_buffer x o
refused x e ls o q = rw q

-- there is a level for each selected lamp
pub levels_length : (s : Settings) (n : ℕ) (bs : List ℕ) (ls : List Lamp) → length bs ≤ length ls → length (levels_before s n bs ls) ≡ count bs
unfolding levels_before
levels_length s n [] ls h = refl
levels_length s n (b ∷ bs) [] h = absurd (omega arith)
levels_length s n (zero ∷ bs) (l ∷ ls) h = levels_length s (n - 1) bs ls (omega arith)
levels_length s n (suc b ∷ bs) (l ∷ ls) h = ap suc (levels_length s (n - 1) bs ls (omega arith))

module _ (s : Settings) (c : Command) (xs : List ℕ) (ls : List Lamp) where
  -- with a bitmap the reply depends on the power entries after it
  change_entries : bitmap_size ≤ length xs → change_lamps s c xs ls ≡ levels_reply s c (bitmap xs) ls (entries_in xs)
  unfolding change_lamps
  change_entries h = rw (le-ltb (length xs) bitmap_size h)

  -- PData that is not well formed is refused
  pub change_malformed : well_formed xs ≡ false → change_lamps s c xs ls ≡ error_reply ls malformed_error
  unfolding change_lamps
  change_malformed e =
      by_test (ltb (length xs) bitmap_size) (λ t. rw t)
      (λ t. let h : bitmap_size ≤ length xs = ltb-false _ _ t in
      change_entries h ∙ ap (levels_reply s c (bitmap xs) ls) (not_valid_malformed (entries_in xs) (sym (well_formed_entries xs h) ∙ e)))

  module _ (w : well_formed xs ≡ true) where
    change_done : change_lamps s c xs ls
        ≡ reply (lamps_after c s.lamp_count (bitmap xs) (changes_in xs) ls) 0 (levels_before s s.lamp_count (bitmap xs) ls)
    change_done = change_entries (bitmap_there xs w) ∙ ap (levels_reply s c (bitmap xs) ls) (valid_changes (entries_in xs) (entries_valid xs w))

    -- well-formed PData changes the lamps
    pub change_applied : (change_lamps s c xs ls).after ≡ lamps_after c s.lamp_count (bitmap xs) (changes_in xs) ls
    change_applied = ap (λ (x : Reply (List Lamp)). x.after) change_done

    -- and is answered with the levels before the change
    pub change_answered : (k : ℕ) (out old : List ℕ)
        → k ≡ length (levels_before s s.lamp_count (bitmap xs) ls)
        → out ≡ overwrite_front (levels_before s s.lamp_count (bitmap xs) ls) old
        → reply_seen (change_lamps s c xs ls).after 0 k out ≡ reply_in_buffer (change_lamps s c xs ls) old
    change_answered k out old p q = rw (change_done, p, q)

-- set, raise and lower
pub known_pcmd : (s : Settings) (p : ℕ) (xs : List ℕ) (ls : List Lamp) → p ≤ command_pcmd Lower → lights_request s p xs ls ≡ change_lamps s (command_of p) xs ls
unfolding lights_request command_of
known_pcmd s zero xs ls h = refl
known_pcmd s (suc zero) xs ls h = refl
known_pcmd s (suc (suc zero)) xs ls h = refl
known_pcmd s (suc (suc (suc p))) xs ls h = absurd (omega arith)

-- an unknown PCMD is refused
pub unknown_pcmd : (s : Settings) (p : ℕ) (xs : List ℕ) (ls : List Lamp) → command_pcmd Lower < p → (p ≡ enumerate_pcmd → ⊥) → lights_request s p xs ls ≡ error_reply ls 2
unfolding lights_request
unknown_pcmd s p xs ls h d =
    rw (ne_eqb p (command_pcmd Set) (λ e. omega arith), ne_eqb p (command_pcmd Raise) (λ e. omega arith), ne_eqb p (command_pcmd Lower) (λ e. omega arith), ne_eqb p enumerate_pcmd d)
