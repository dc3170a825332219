-- A lights request of a group of lamp steps: it changes the lamps as the step machine does, one step after another.
use mathlib.Core.Path.{◌≡◌, refl, sym, ap, ◌∙◌}
use mathlib.Core.Bool.{true, cond}
use mathlib.Core.List.{List, [], ◌∷◌, ◌++◌, map}
use Prim.Native.Nat.{ℕ, zero, suc, ◌+◌, ◌*◌, ◌-◌, ◌/◌, ◌%◌, ◌^◌, ◌≤◌, ◌<◌}
use native.Mathlib.Omega.{arith}
use native.Mathlib.Nat.{le_refl, sub-zero, two-pow-succ}
use lib.ListN.{length, get_or, set}
use lib.Dec.{ltb, eqb}
use lib.Pow.{pow_mono}
use borrow.Author.Tests.{lt-ltb, le-ltb, ltb-true, ltb-false, eqb-true, eqb-false, le-leb, ne_eqb}
use Rattle.dpa.specs.Number.{low, high}
use Rattle.dpa.specs.Pnum.{lights_pnum}
use Rattle.dpa.specs.Settings.{max_lamps}
use Rattle.dpa.specs.Lists.{Bytes}
use Rattle.dpa.specs.Reply.{reply, map_state}
use Rattle.dpa.specs.declared.settings.Settings.{Settings}
use Rattle.dpa.proofs.Bool.{by_test}
use Rattle.lights.specs.Bits.{bitmap_size, bits, count, bitmap}
use Rattle.lights.specs.Lamp.{max_level, off}
use Rattle.lights.specs.Lights.{bit7, keep_power, power_ok, time_ok, seconds_of, power_entry, all_valid, power_entries, new_level, lamp_after, lamps_after, levels_before, change_lamps, lights_request}
use Rattle.lights.specs.declared.apply.Command.{Command}
use Rattle.lights.specs.declared.apply.Command.TheVariants.{Set, Raise, Lower}
use Rattle.lights.specs.declared.lamp.Lamp.{Lamp}
use Rattle.lights.specs.declared.power.PowerEntry.{PowerEntry}
use Rattle.lights.proofs.Bits.{bits_mask}
use Rattle.node.specs.Node.{with_lamps}
use Rattle.node.specs.State.{State, with_node}
use Rattle.outcome.specs.Request.{peripheral_request}
use Rattle.outcome.proofs.Peripherals.{peripheral_lights}
use Rattle.book.specs.declared.step.Step.{Step}
use Rattle.step.specs.Step.{ram_kind, step_time_ok}
use Rattle.step.specs.Machine.{machine_level, machine_seconds, machine_lamp, machine_lamps, machine_effect, machine_step, machine}
use Rattle.step.proofs.Faults.{Good, LampGood, lamp_good, good_formed}
use Rattle.entries.specs.Entry.{bitmap_of, bitmap_bytes, power_bytes, powers_bytes, pnum_of, pcmd_of}

-- ---- binary digits

digit_one : (n m h : ℕ) → m ≡ 1 + 2 * h → bits (suc n) m ≡ 1 ∷ bits n h
unfolding bits
digit_one n m h e =
    let q : m / 2 ≡ h = omega arith in
    let r : m % 2 ≡ 1 = omega arith in
    rw (q, r)

digit_zero : (n m h : ℕ) → m ≡ 2 * h → bits (suc n) m ≡ 0 ∷ bits n h
unfolding bits
digit_zero n m h e =
    let q : m / 2 ≡ h = omega arith in
    let r : m % 2 ≡ 0 = omega arith in
    rw (q, r)

module _ {A : Type 0} (target : A → ℕ) where
  -- targets that ascend from i and are numbers of lamps
  abbrev pub Ascending : ℕ → List A → Type 0
  Ascending i [] = Unit {0}
  Ascending i (s ∷ ss) = (i ≤ target s) × (target s < max_lamps) × Ascending (suc (target s)) ss

  -- the number whose 1 bits are the targets, lamp i having the lowest bit
  abbrev pub mask_from : ℕ → List A → ℕ
  mask_from i [] = 0
  mask_from i (s ∷ ss) = 2 ^ (target s - i) + mask_from i ss

  mask_double : (i j : ℕ) (ss : List A) → i < j → Ascending j ss → mask_from i ss ≡ 2 * mask_from (suc i) ss
  mask_double i j [] h a = refl
  mask_double i j (s ∷ ss) h a =
      let e : target s - i ≡ suc (target s - suc i) = omega (arith, a.0) in
      rw (e, mask_double i (suc (target s)) ss (omega (arith, a.0)) a.2) (omega arith)

  -- its bits from lamp i on
  digits_none : (n i : ℕ) → bits (suc n) (mask_from i []) ≡ 0 ∷ bits n (mask_from (suc i) [])
  digits_none n i = digit_zero n 0 0 refl

  digits_first : (n i : ℕ) (s : A) (ss : List A) → target s ≡ i → Ascending i (s ∷ ss)
      → bits (suc n) (mask_from i (s ∷ ss)) ≡ 1 ∷ bits n (mask_from (suc i) ss)
  digits_first n i s ss e a =
      let z : target s - i ≡ 0 = omega arith in
      digit_one n (mask_from i (s ∷ ss)) (mask_from (suc i) ss) (rw (z, mask_double i (suc (target s)) ss (omega arith) a.2))

  digits_later : (n i : ℕ) (s : A) (ss : List A) → i < target s → Ascending i (s ∷ ss)
      → bits (suc n) (mask_from i (s ∷ ss)) ≡ 0 ∷ bits n (mask_from (suc i) (s ∷ ss))
  digits_later n i s ss h a =
      digit_zero n (mask_from i (s ∷ ss)) (mask_from (suc i) (s ∷ ss)) (mask_double i (target s) (s ∷ ss) h (le_refl (target s), a.1, a.2))

  -- as many 1 bits as targets
  pub mask_count : (n i : ℕ) (ss : List A) → n + i ≡ max_lamps → Ascending i ss → count (bits n (mask_from i ss)) ≡ length ss
  unfolding bits
  mask_count zero i [] h a = refl
  mask_count zero i (s ∷ ss) h a = absurd (omega (arith, a.0, a.1))
  mask_count (suc n) i [] h a = ap count (digits_none n i) ∙ mask_count n (suc i) [] (omega arith) tt
  mask_count (suc n) i (s ∷ ss) h a =
      by_test (eqb (target s) i)
      (λ t. let e : target s ≡ i = eqb-true (target s) i t in
      ap count (digits_first n i s ss e a) ∙ ap suc (mask_count n (suc i) ss (omega arith) (rw e at a.2)))
      (λ t. let l : i < target s = omega (arith, eqb-false (target s) i t, a.0) in
      ap count (digits_later n i s ss l a) ∙ mask_count n (suc i) (s ∷ ss) (omega arith) (l, a.1, a.2))

  -- the mask has a bit for each lamp at most
  mask_room : (ss : List A) (j : ℕ) → Ascending j ss → j ≤ max_lamps → mask_from 0 ss + 2 ^ j ≤ 2 ^ max_lamps
  mask_room [] j a h = omega (arith, pow_mono h)
  mask_room (s ∷ ss) j a h =
      rw (sub-zero (target s)) (omega (arith, pow_mono a.0, mask_room ss (suc (target s)) a.2 a.1, two-pow-succ (target s)))

  -- and is below that
  pub mask_max : (ss : List A) → Ascending 0 ss → mask_from 0 ss < 2 ^ max_lamps
  mask_max ss a = omega (arith, mask_room ss 0 a (omega arith))

  module _ (change : A → PowerEntry) (c : Command) where
    -- one change: lamp `target s - i`, if it is one of the n implemented lamps
    abbrev pub apply_one : ℕ → ℕ → A → List Lamp → List Lamp
    apply_one n i s ls =
        cond (ltb (target s - i) n)
        (set ls (target s - i) (lamp_after c (get_or ls (target s - i) off) (change s).power (change s).seconds))
        ls

    -- the changes one after another
    abbrev pub apply_all : ℕ → ℕ → List A → List Lamp → List Lamp
    apply_all n i [] ls = ls
    apply_all n i (s ∷ ss) ls = apply_all n i ss (apply_one n i s ls)

    one_later : (n i : ℕ) (s : A) (l : Lamp) (ls : List Lamp) → i < target s → apply_one n i s (l ∷ ls) ≡ l ∷ apply_one (n - 1) (suc i) s ls
    one_later n i s l ls h =
        let e : target s - i ≡ suc (target s - suc i) = omega arith in
        by_test (ltb (target s - suc i) (n - 1))
        (λ t. rw (e, t, lt-ltb (suc (target s - suc i)) n (omega (arith, ltb-true (target s - suc i) (n - 1) t))))
        (λ t. rw (e, t, le-ltb (suc (target s - suc i)) n (omega (arith, ltb-false (target s - suc i) (n - 1) t))))

    -- changes of later lamps leave the first lamp
    all_later : (n i j : ℕ) (ss : List A) (l : Lamp) (ls : List Lamp) → i < j → Ascending j ss → apply_all n i ss (l ∷ ls) ≡ l ∷ apply_all (n - 1) (suc i) ss ls
    all_later n i j [] l ls h a = refl
    all_later n i j (s ∷ ss) l ls h a =
        ap (apply_all n i ss) (one_later n i s l ls (omega (arith, a.0)))
        ∙ all_later n i (suc (target s)) ss l (apply_one (n - 1) (suc i) s ls) (omega (arith, a.0)) a.2

    -- changing all lamps at once is changing them one after another
    pub lamps_one_by_one : (m n i : ℕ) (ss : List A) (ls : List Lamp) → m + i ≡ max_lamps → length ls ≡ m → Ascending i ss
        → lamps_after c n (bits m (mask_from i ss)) (map change ss) ls ≡ apply_all n i ss ls
    unfolding lamps_after bits
    lamps_one_by_one zero n i [] ls h k a = refl
    lamps_one_by_one zero n i (s ∷ ss) ls h k a = absurd (omega (arith, a.0, a.1))
    lamps_one_by_one (suc m) n i ss [] h k a = absurd (omega arith)
    lamps_one_by_one (suc m) n i [] (l ∷ ls) h k a =
        ap (λ (bs : List ℕ). lamps_after c n bs [] (l ∷ ls)) (digits_none m i)
        ∙ ap (λ (xs : List Lamp). l ∷ xs) (lamps_one_by_one m (n - 1) (suc i) [] ls (omega arith) (omega arith) tt)
    lamps_one_by_one (suc m) n i (s ∷ ss) (l ∷ ls) h k a =
        by_test (eqb (target s) i)
        (λ t. let e : target s ≡ i = eqb-true (target s) i t in
        let z : target s - i ≡ 0 = omega arith in
        let x = cond (ltb 0 n) (lamp_after c l (change s).power (change s).seconds) l in
        ap (λ (bs : List ℕ). lamps_after c n bs (map change (s ∷ ss)) (l ∷ ls)) (digits_first m i s ss e a)
        ∙ ap (λ (xs : List Lamp). x ∷ xs) (lamps_one_by_one m (n - 1) (suc i) ss ls (omega arith) (omega arith) (rw e at a.2))
        ∙ sym (all_later n i (suc (target s)) ss x ls (omega arith) a.2)
        ∙ ap (apply_all n i ss) (sym (one_first n i s l ls z)))
        (λ t. let g : i < target s = omega (arith, eqb-false (target s) i t, a.0) in
        ap (λ (bs : List ℕ). lamps_after c n bs (map change (s ∷ ss)) (l ∷ ls)) (digits_later m i s ss g a)
        ∙ ap (λ (xs : List Lamp). l ∷ xs) (lamps_one_by_one m (n - 1) (suc i) (s ∷ ss) ls (omega arith) (omega arith) (g, a.1, a.2))
        ∙ sym (all_later n i (target s) (s ∷ ss) l ls g (le_refl (target s), a.1, a.2)))
      where
        one_first : (n i : ℕ) (s : A) (l : Lamp) (ls : List Lamp) → target s - i ≡ 0
            → apply_one n i s (l ∷ ls) ≡ cond (ltb 0 n) (lamp_after c l (change s).power (change s).seconds) l ∷ ls
        one_first n i s l ls z = rw z (by_test (ltb 0 n) (λ t. rw t) (λ t. rw t))

-- ---- bytes

four_bytes : (a b d e : ℕ) → a < 256 → b < 256 → d < 256 → e < 256 → Bytes (a ∷ b ∷ d ∷ e ∷ [])
four_bytes a b d e p q r s zero = p
four_bytes a b d e p q r s (suc zero) = q
four_bytes a b d e p q r s (suc (suc zero)) = r
four_bytes a b d e p q r s (suc (suc (suc zero))) = s
four_bytes a b d e p q r s (suc (suc (suc (suc i)))) = omega arith

-- the bitmap of a number's four bytes
pub bitmap_bytes_lem : (m a b d e : ℕ) (rest : List ℕ) → a < 256 → b < 256 → d < 256 → e < 256
    → m ≡ a + 256 * b + 65536 * (d + 256 * e) → bitmap (a ∷ b ∷ d ∷ e ∷ rest) ≡ bits max_lamps m
unfolding bitmap
bitmap_bytes_lem m a b d e rest p q r s w =
    sym (bits_mask (a ∷ b ∷ d ∷ e ∷ []) (four_bytes a b d e p q r s)) ∙ ap (bits max_lamps) (sym w)

-- a power without a time, before valid power entries
pub entry_level : (n v : ℕ) (xs : List ℕ) (es : List PowerEntry) → v ≤ max_level → power_entries n xs ≡ all_valid es → power_entries (suc n) (v ∷ xs) ≡ all_valid (power_entry v 0 1 ∷ es)
unfolding power_ok
entry_level n v xs es h e =
    let q : v % bit7 ≡ v = omega arith in
    rw (q, le-leb v max_level h, lt-ltb v bit7 (omega arith), e)

-- a power with a time
pub entry_timed : (n v t : ℕ) (xs : List ℕ) (es : List PowerEntry) → v ≤ max_level → time_ok t ≡ true → power_entries n xs ≡ all_valid es
    → power_entries (suc n) ((v + bit7) ∷ t ∷ xs) ≡ all_valid (power_entry v (seconds_of t) 2 ∷ es)
unfolding power_ok
entry_timed n v t xs es h k e =
    let q : (v + bit7) % bit7 ≡ v = omega arith in
    rw (q, le-leb v max_level h, le-ltb (v + bit7) bit7 (omega arith), k, e)

-- ---- steps

-- good steps of lamp kind k whose targets ascend from i
abbrev pub LampGroup : ℕ → ℕ → List Step → Type 0
LampGroup k i [] = Unit {0}
LampGroup k i (s ∷ ss) = Good s × (s.kind ≡ k) × (i ≤ s.target) × LampGroup k (suc s.target) ss

abbrev target_of : Step → ℕ
target_of s = s.target

-- the power entry of a step
abbrev change_of : Step → PowerEntry
change_of s = power_entry s.value (seconds_of s.time) (cond (eqb s.time 0) 1 2)

-- the command of a lamp kind
abbrev command_of : ℕ → Command
command_of zero = Set
command_of (suc zero) = Raise
command_of (suc (suc k)) = Lower

-- the step machine's level and seconds are those of the request
machine_level_lem : (k level value : ℕ) → k < ram_kind → machine_level k level value ≡ new_level (command_of k) level value
unfolding machine_level
machine_level_lem zero level value h = refl
machine_level_lem (suc zero) level value h = omega arith
machine_level_lem (suc (suc zero)) level value h = refl
machine_level_lem (suc (suc (suc k))) level value h = absurd (omega arith)

machine_seconds_lem : (time level : ℕ) → machine_seconds time level ≡ cond (eqb level 0) 0 (seconds_of time)
unfolding machine_seconds seconds_of
machine_seconds_lem time level =
    by_test (eqb time 0)
    (λ t. let z : time ≡ 0 = eqb-true time 0 t in rw z (by_test (eqb level 0) (λ u. rw u) (λ u. rw u)))
    (λ t. rw t)

module _ (k : ℕ) (lamp : k < ram_kind) where
  parts : (s : Step) → Good s → s.kind ≡ k → LampGood s
  parts s g e = lamp_good s g (omega arith)

  machine_lamp_lem : (s : Step) (l : Lamp) → Good s → s.kind ≡ k → machine_lamp s l ≡ lamp_after (command_of k) l (change_of s).power (change_of s).seconds
  unfolding lamp_after
  machine_lamp_lem s l g e =
      rw (e, machine_level_lem k l.level s.value lamp, machine_seconds_lem, ne_eqb s.value keep_power (omega (arith, (parts s g e).value_max)))

  machine_lamp_step : (s : Step) (st : State) → Good s → s.kind ≡ k
      → machine_step s st ≡ with_node st (with_lamps st.node (apply_one target_of change_of (command_of k) st.node.settings.lamp_count 0 s st.node.lamps))
  unfolding machine_step machine_effect machine_lamps
  machine_lamp_step s st g e =
      rw ((good_formed s).0 g, machine_lamp_lem s (get_or st.node.lamps s.target off) g e, e, lt-ltb k ram_kind lamp, sub-zero s.target)

  -- the step machine over a group
  pub machine_lamp_group : (i : ℕ) (ss : List Step) (st : State) → LampGroup k i ss
      → machine ss st ≡ with_node st (with_lamps st.node (apply_all target_of change_of (command_of k) st.node.settings.lamp_count 0 ss st.node.lamps))
  machine_lamp_group i [] st r = refl
  machine_lamp_group i (s ∷ ss) st r = rw (machine_lamp_step s st r.0 r.1) (machine_lamp_group (suc s.target) ss _ r.3)

  group_ascends : (i : ℕ) (ss : List Step) → LampGroup k i ss → Ascending target_of i ss
  group_ascends i [] r = tt
  group_ascends i (s ∷ ss) r = (r.2, (parts s r.0 r.1).target_max, group_ascends (suc s.target) ss r.3)

  bitmap_mask : (ss : List Step) → bitmap_of ss ≡ mask_from target_of 0 ss
  bitmap_mask [] = refl
  bitmap_mask (s ∷ ss) = rw (sub-zero s.target, bitmap_mask ss)

  -- the bitmap of the entry has a 1 bit for each step
  group_digits : (ss : List Step) (rest : List ℕ) → LampGroup k 0 ss → bitmap (bitmap_bytes (bitmap_of ss) ++ rest) ≡ bits max_lamps (mask_from target_of 0 ss)
  group_digits ss rest r =
      let m = bitmap_of ss in
      let max : m < 2 ^ max_lamps = omega (arith, bitmap_mask ss, mask_max target_of ss (group_ascends 0 ss r)) in
      bitmap_bytes_lem m (low m) (low (high m)) (low (high (high m))) (low (high (high (high m)))) rest
      (omega arith) (omega arith) (omega arith) (omega arith) (omega arith)
      ∙ ap (bits max_lamps) (bitmap_mask ss)

  -- the power bytes are read back as the changes of the steps
  group_entries : (i : ℕ) (ss : List Step) → LampGroup k i ss → power_entries (length ss) (powers_bytes ss) ≡ all_valid (map change_of ss)
  unfolding power_bytes step_time_ok time_ok seconds_of
  group_entries i [] r = refl
  group_entries i (s ∷ ss) r =
      let fine = parts s r.0 r.1 in
      let ih = group_entries (suc s.target) ss r.3 in
      by_test (eqb s.time 0)
      (λ t. let z : s.time ≡ 0 = eqb-true s.time 0 t in
      rw (t, z) (entry_level (length ss) s.value (powers_bytes ss) (map change_of ss) fine.value_max ih))
      (λ t. rw t (entry_timed (length ss) s.value s.time (powers_bytes ss) (map change_of ss) fine.value_max (rw t at fine.time_valid) ih))

  request_command : (s : Settings) (xs : List ℕ) (ls : List Lamp) → lights_request s k xs ls ≡ change_lamps s (command_of k) xs ls
  unfolding lights_request
  request_command s xs ls = go k lamp
    where
      go : (j : ℕ) → j < ram_kind → lights_request s j xs ls ≡ change_lamps s (command_of j) xs ls
      go zero h = refl
      go (suc zero) h = refl
      go (suc (suc zero)) h = refl
      go (suc (suc (suc j))) h = absurd (omega arith)

  entry_lights : (d : List ℕ) (st : State)
      → peripheral_request (pnum_of k) (pcmd_of k) d st
      ≡ map_state (with_node st) (map_state (with_lamps st.node) (change_lamps st.node.settings (command_of k) d st.node.lamps))
  unfolding pnum_of pcmd_of
  entry_lights d st = rw (lt-ltb k ram_kind lamp) (peripheral_lights lights_pnum k d st refl ∙ rw (request_command st.node.settings d st.node.lamps))

  -- the lights request of a group
  request_group : (s : Settings) (ss : List Step) (ls : List Lamp) → length ls ≡ max_lamps → LampGroup k 0 ss
      → change_lamps s (command_of k) (bitmap_bytes (bitmap_of ss) ++ powers_bytes ss) ls
      ≡ reply (apply_all target_of change_of (command_of k) s.lamp_count 0 ss ls) 0 (levels_before s s.lamp_count (bits max_lamps (mask_from target_of 0 ss)) ls)
  unfolding change_lamps
  request_group s ss ls full r =
      let a = group_ascends 0 ss r in
      rw (
        le-ltb (suc (suc (suc (suc (length (powers_bytes ss)))))) bitmap_size (omega arith),
        group_digits ss (powers_bytes ss) r,
        mask_count target_of max_lamps 0 ss refl a,
        group_entries 0 ss r,
        lamps_one_by_one target_of change_of (command_of k) max_lamps s.lamp_count 0 ss ls refl full a,
      )

  -- the entry of a group: no error, and the state that the step machine reaches
  pub entry_lamp_group : (ss : List Step) (st : State) → length st.node.lamps ≡ max_lamps → LampGroup k 0 ss
      → peripheral_request (pnum_of k) (pcmd_of k) (bitmap_bytes (bitmap_of ss) ++ powers_bytes ss) st
      ≡ reply (machine ss st) 0 (levels_before st.node.settings st.node.settings.lamp_count (bits max_lamps (mask_from target_of 0 ss)) st.node.lamps)
  entry_lamp_group ss st full r =
      entry_lights (bitmap_bytes (bitmap_of ss) ++ powers_bytes ss) st
      ∙ rw (request_group st.node.settings ss st.node.lamps full r, machine_lamp_group 0 ss st r)
