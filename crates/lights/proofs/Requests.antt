-- Laws of a lights request as a whole.
use mathlib.Core.Path.{◌≡◌, refl, sym, ap, ◌∙◌}
use mathlib.Core.Bool.{true, false, cond, ◌&&◌}
use mathlib.Core.List.{List, [], ◌∷◌}
use Prim.Native.Nat.{ℕ, ◌≤◌, ◌<◌}
use native.Mathlib.Omega.{arith}
use lib.ListN.{length, get_or, take, drop}
use lib.Dec.{leb, ltb, eqb}
use borrow.Author.Tests.{le-leb, leb-true, leb-false, lt-ltb, ltb-false, eqb-true, eqb-false}
use Rattle.dpa.specs.Lists.{number_below}
use Rattle.dpa.specs.Settings.{max_lamps}
use Rattle.dpa.specs.Reply.{Harmless, Reply, reply, error_reply}
use Rattle.dpa.proofs.Bool.{both, by_cond, by_test}
use Rattle.dpa.specs.declared.settings.Settings.{Settings}
use Rattle.lights.specs.Bits.{bitmap_size, count, bitmap, selected}
use Rattle.lights.specs.Lamp.{off, lamp_fits, LampRule, actual_level}
use Rattle.lights.specs.Lights.{command_pcmd, enumerate_pcmd, keep_power, PowerEntries, all_valid, malformed, power_entries, malformed_error, kept, lamps_after, levels_before, levels_reply, change_lamps, enumerate_lamps, lights_request, well_formed, changes_of, changes_lamps, command_of}
use Rattle.lights.proofs.Lamps.{fits_test, fits_rule, fits_above, zero_facts}
use Rattle.lights.proofs.Bits.{is_set, count_length}
use Rattle.lights.proofs.Selected.{bitmap_length, count_selected, rank_selected, selected_bit}
use Rattle.lights.proofs.PowerEntries.{zero_entry, power_entries_length}
use Rattle.lights.proofs.WellFormed.{changes_in}
use Rattle.lights.proofs.EachLamp.{lamp_after_entry, lamps_after_at, lamp_unimplemented, lamps_length, levels_before_at}
use Rattle.lights.proofs.Replies.{levels_length, change_malformed, known_pcmd, unknown_pcmd}
use Rattle.lights.proofs.ValidChanges.{ChangeRule, power_entries_rule, lamp_after_rule}
use Rattle.lights.proofs.Keep.{keep_after}
use Rattle.lights.specs.declared.apply.Command.{Command}
use Rattle.lights.specs.declared.apply.Command.TheVariants.{Set, Raise, Lower}
use Rattle.lights.specs.declared.lamp.Lamp.{Lamp}
use Rattle.lights.specs.declared.power.PowerEntry.{PowerEntry}

-- the change for lamp k
abbrev pub change_for : List ℕ → ℕ → PowerEntry
change_for xs k = get_or (changes_in xs) (number_below k (selected xs)) zero_entry

module _ (s : Settings) (xs : List ℕ) (ls : List Lamp) where
  -- set, raise and lower are refused with 6, or all power entries are valid
  pub change_cases : (c : Command) (P : Reply (List Lamp) → Type 0) → P (error_reply ls malformed_error)
      → ((es : List PowerEntry) → bitmap_size ≤ length xs → power_entries (count (bitmap xs)) (drop bitmap_size xs) ≡ all_valid es
      → P (reply (lamps_after c s.lamp_count (bitmap xs) es ls) 0 (levels_before s s.lamp_count (bitmap xs) ls)))
      → P (change_lamps s c xs ls)
  unfolding change_lamps
  change_cases c P f g =
      by_cond P (ltb (length xs) bitmap_size) _ _ (λ t. f) (λ t. go (power_entries (count (bitmap xs)) (drop bitmap_size xs)) refl (ltb-false _ _ t))
    where
      go : (r : PowerEntries) → power_entries (count (bitmap xs)) (drop bitmap_size xs) ≡ r → bitmap_size ≤ length xs → P (levels_reply s c (bitmap xs) ls r)
      go (all_valid es) e h = g es h e
      go malformed e h = f

  -- any request is refused with an error, returns the lamp count, or has valid power entries only
  pub request_cases : (p : ℕ) (P : Reply (List Lamp) → Type 0)
      → ((e : ℕ) → (e ≡ 0 → ⊥) → P (error_reply ls e))
      → P (reply ls 0 (s.lamp_count ∷ []))
      → ((c : Command) (es : List PowerEntry) → bitmap_size ≤ length xs → power_entries (count (bitmap xs)) (drop bitmap_size xs) ≡ all_valid es
      → P (reply (lamps_after c s.lamp_count (bitmap xs) es ls) 0 (levels_before s s.lamp_count (bitmap xs) ls)))
      → P (lights_request s p xs ls)
  unfolding lights_request enumerate_lamps
  request_cases p P f n g =
      let change : (c : Command) → P (change_lamps s c xs ls) = λ c. change_cases c P (f malformed_error (λ z. omega arith)) (g c) in
      by_cond P (eqb p (command_pcmd Set)) _ _ (λ _. change Set)
      (λ _. by_cond P (eqb p (command_pcmd Raise)) _ _ (λ _. change Raise)
      (λ _. by_cond P (eqb p (command_pcmd Lower)) _ _ (λ _. change Lower)
      (λ _. by_cond P (eqb p enumerate_pcmd) _ _
      (λ _. by_cond P (eqb (length xs) 0) _ _ (λ _. n) (λ _. f 5 (λ z. omega arith)))
      (λ _. f 2 (λ z. omega arith)))))

  -- a request with an error leaves the lamps and returns no data
  pub request_harmless : (p : ℕ) → Harmless ls (lights_request s p xs ls)
  request_harmless p =
      request_cases p (λ (x : Reply (List Lamp)). Harmless ls x)
      (λ e n h. (refl, refl)) (λ h. absurd (h refl)) (λ c es l e h. absurd (h refl))

  -- no request changes the number of lamps
  pub lamps_stay : (p : ℕ) → length (lights_request s p xs ls).after ≡ length ls
  lamps_stay p =
      request_cases p (λ (x : Reply (List Lamp)). length x.after ≡ length ls)
      (λ e n. refl) refl (λ c es l e. lamps_length c s.lamp_count (bitmap xs) es ls)

  module _ (full : length ls ≡ max_lamps) where
    bitmap_fits : length (bitmap xs) ≤ length ls
    bitmap_fits = omega (arith, bitmap_length xs)

    changes_enough : (es : List PowerEntry) → power_entries (count (bitmap xs)) (drop bitmap_size xs) ≡ all_valid es → count (bitmap xs) ≤ length es
    changes_enough es e = omega (arith, power_entries_length (count (bitmap xs)) (drop bitmap_size xs) es e)

    -- a successful change returns a byte for each selected lamp
    pub answer_length : (c : Command) → (change_lamps s c xs ls).error ≡ 0 → length (change_lamps s c xs ls).bytes ≡ number_below max_lamps (selected xs)
    answer_length c =
        change_cases c (λ (x : Reply (List Lamp)). x.error ≡ 0 → length x.bytes ≡ number_below max_lamps (selected xs))
        (λ z. absurd (omega arith))
        (λ es l e z. levels_length s s.lamp_count (bitmap xs) ls bitmap_fits ∙ count_selected xs)

    -- response data has at most a byte for each lamp
    pub answer_max : (p : ℕ) → length (lights_request s p xs ls).bytes ≤ max_lamps
    answer_max p =
        request_cases p (λ (x : Reply (List Lamp)). length x.bytes ≤ max_lamps)
        (λ e n. omega arith) (omega arith)
        (λ c es l e. omega (arith, levels_length s s.lamp_count (bitmap xs) ls bitmap_fits, count_length (bitmap xs), bitmap_length xs))

    -- each lamp after a successful change: changed if it is selected and implemented, else unchanged
    pub lamp_at : (c : Command) (k : ℕ) → k < max_lamps → (change_lamps s c xs ls).error ≡ 0
        → get_or (change_lamps s c xs ls).after k off
        ≡ cond (selected xs k && ltb k s.lamp_count) (lamp_after_entry c (get_or ls k off) (change_for xs k)) (get_or ls k off)
    lamp_at c k h =
        let l = get_or ls k off in
        change_cases c
        (λ (x : Reply (List Lamp)). x.error ≡ 0 → get_or x.after k off ≡ cond (selected xs k && ltb k s.lamp_count) (lamp_after_entry c l (change_for xs k)) l)
        (λ z. absurd (omega arith))
        (λ es _ e z.
        let d : is_set (get_or (bitmap xs) k 0) ≡ selected xs k = selected_bit xs k h in
        let f : es ≡ changes_in xs = sym (ap changes_of e) in
        let r : count (take k (bitmap xs)) ≡ number_below k (selected xs) = rank_selected xs k (omega arith) in
        lamps_after_at c s.lamp_count (bitmap xs) es ls k bitmap_fits (changes_enough es e)
        ∙ (λ i. cond (d i && ltb k s.lamp_count) (lamp_after_entry c l (get_or (f i) (r i) zero_entry)) l))

    -- an implemented lamp with a keep entry is `kept` after a successful change, whatever the command is
    pub kept_at : (c : Command) (k : ℕ) → k < max_lamps → (change_lamps s c xs ls).error ≡ 0
        → selected xs k ≡ true → k < s.lamp_count → (change_for xs k).power ≡ keep_power
        → get_or (change_lamps s c xs ls).after k off ≡ kept (get_or ls k off) (change_for xs k).seconds
    kept_at c k h done sel below keeps =
        lamp_at c k h done ∙ rw (sel, lt-ltb k s.lamp_count below, keeps) (keep_after c (get_or ls k off) (change_for xs k).seconds)

    -- a successful change returns the previous actual level of each selected lamp, 0 for an unimplemented one
    pub level_at : (c : Command) (k : ℕ) → k < max_lamps → selected xs k ≡ true → (change_lamps s c xs ls).error ≡ 0
        → get_or (change_lamps s c xs ls).bytes (number_below k (selected xs)) 0 ≡ cond (ltb k s.lamp_count) (actual_level s (get_or ls k off).level) 0
    level_at c k h t =
        change_cases c
        (λ (x : Reply (List Lamp)). x.error ≡ 0 → get_or x.bytes (number_below k (selected xs)) 0 ≡ cond (ltb k s.lamp_count) (actual_level s (get_or ls k off).level) 0)
        (λ z. absurd (omega arith))
        (λ es _ e z.
        ap (λ (j : ℕ). get_or (levels_before s s.lamp_count (bitmap xs) ls) j 0) (sym (rank_selected xs k (omega arith)))
        ∙ levels_before_at s s.lamp_count (bitmap xs) ls k bitmap_fits (selected_bit xs k h ∙ t))

    -- an unimplemented lamp never changes
    pub unimplemented_stays : (p k : ℕ) → s.lamp_count ≤ k → get_or (lights_request s p xs ls).after k off ≡ get_or ls k off
    unimplemented_stays p k h =
        request_cases p (λ (x : Reply (List Lamp)). get_or x.after k off ≡ get_or ls k off)
        (λ e n. refl) refl
        (λ c es _ e.
        lamp_unimplemented c s.lamp_count (bitmap xs) es ls k bitmap_fits (changes_enough es e) h)

    -- a lamp with valid values keeps valid values
    pub request_keeps : (p k : ℕ) → lamp_fits s.lamp_count k (get_or ls k off) ≡ true
        → lamp_fits s.lamp_count k (get_or (lights_request s p xs ls).after k off) ≡ true
    request_keeps p k fit =
        let n = s.lamp_count in
        let rule : LampRule (get_or ls k off) = fits_rule n k (get_or ls k off) fit in
        fits_test n k (get_or (lights_request s p xs ls).after k off)
        (λ _. request_cases p (λ (x : Reply (List Lamp)). LampRule (get_or x.after k off)) (λ e z. rule) rule
        (λ c es _ e.
        let valid : (i : ℕ) → ChangeRule (get_or es i zero_entry) = power_entries_rule (count (bitmap xs)) (drop bitmap_size xs) es e in
        rw (lamps_after_at c n (bitmap xs) es ls k bitmap_fits (changes_enough es e))
        (by_cond (λ (l : Lamp). LampRule l) (is_set (get_or (bitmap xs) k 0) && ltb k n) _ _
        (λ _. lamp_after_rule c (get_or ls k off) (get_or es (count (take k (bitmap xs))) zero_entry) rule (valid (count (take k (bitmap xs)))))
        (λ _. rule))))
        (λ h. unimplemented_stays p k h ∙ zero_facts (get_or ls k off) (sym (fits_above n k (get_or ls k off) h) ∙ fit))

-- a request that does not change lamps leaves them
pub unchanged : (s : Settings) (pcmd : ℕ) (xs : List ℕ) (ls : List Lamp) → changes_lamps pcmd xs ≡ false → (lights_request s pcmd xs ls).after ≡ ls
unfolding changes_lamps lights_request enumerate_lamps
unchanged s pcmd xs ls e =
    by_test (leb pcmd (command_pcmd Lower))
    (λ t. ap (λ (x : Reply (List Lamp)). x.after)
    (known_pcmd s pcmd xs ls (leb-true _ _ t) ∙ change_malformed s (command_of pcmd) xs ls (rw t at e)))
    (λ t. by_test (eqb pcmd enumerate_pcmd)
    (λ u. rw (eqb-true pcmd enumerate_pcmd u) (by_cond (λ (x : Reply (List Lamp)). x.after ≡ ls) (eqb (length xs) 0) _ _ (λ _. refl) (λ _. refl)))
    (λ u. ap (λ (x : Reply (List Lamp)). x.after) (unknown_pcmd s pcmd xs ls (leb-false _ _ t) (eqb-false pcmd enumerate_pcmd u))))

-- set, raise and lower without an error change lamps
pub success_changes : (s : Settings) (pcmd : ℕ) (xs : List ℕ) (ls : List Lamp) → pcmd ≤ command_pcmd Lower → (lights_request s pcmd xs ls).error ≡ 0 → changes_lamps pcmd xs ≡ true
unfolding changes_lamps
success_changes s pcmd xs ls h e =
    both (le-leb pcmd (command_pcmd Lower) h)
    (by_test (well_formed xs) (λ t. t)
    (λ t. let z : malformed_error ≡ 0 = sym (ap (λ (x : Reply (List Lamp)). x.error) (known_pcmd s pcmd xs ls h ∙ change_malformed s (command_of pcmd) xs ls t)) ∙ e in
    absurd (omega arith)))
