-- What holds of a good step, that the step machine executes it, what each fault means, and when a scene has no bad step.
use mathlib.Core.Bool.{Bool, true, false, cond, ◌&&◌}
use mathlib.Core.List.{List, [], ◌∷◌}
use mathlib.Core.Logic.{◌↔◌}
use mathlib.Core.Path.{◌≡◌, refl, sym, ◌∙◌}
use Prim.Native.Nat.{ℕ, suc, ◌≤◌, ◌<◌, ◌%◌}
use native.Mathlib.Omega.{arith}
use lib.Dec.{ltb, leb, eqb}
use borrow.Author.Tests.{eqb-true, eqb-false, eq-eqb, ne_eqb, ltb-true, ltb-false, leb-true, leb-false, lt-ltb, le-ltb, lt-leb, le-leb}
use Rattle.dpa.specs.Settings.{max_lamps}
use Rattle.dpa.specs.Lists.{All}
use Rattle.dpa.proofs.Bool.{by_cond, by_test, both, and_left, and_right, else_taken, then_taken}
use Rattle.memory.specs.Block.{size_of}
use Rattle.memory.specs.declared.block.Memory.TheVariants.{Eeprom, Ram}
use Rattle.lights.specs.Lamp.{max_level}
use Rattle.lights.specs.Lights.{time_ok}
use Rattle.book.specs.declared.step.Step.{Step}
use Rattle.step.specs.Step.{AllGood, Bad}
use Rattle.step.specs.Step.{ram_kind, eeprom_kind, is_lamp, no_fault, kind_fault, target_fault, value_fault, time_fault, step_time_ok, lamp_fault, byte_fault, step_fault, good_step, first_bad_from, target_limit, BadKind, BadTarget, BadValue, BadTime, FaultMeaning}
use Rattle.step.specs.Machine.{seconds_bit, time_formed, lamp_formed, byte_formed, step_formed}

-- a step that the compiler accepts
abbrev pub Good : Step → Type 0
Good s = good_step s ≡ true

-- what holds of the parts of a good lamp step, and of a good step that writes a byte
pub record LampGood (s : Step) : Type 0 where
  pub target_max : s.target < max_lamps
  pub value_max : s.value ≤ max_level
  pub time_valid : step_time_ok s.time ≡ true

pub record ByteGood (size : ℕ) (s : Step) : Type 0 where
  pub target_max : s.target < size
  pub no_time : s.time ≡ 0

lamp_parts : (s : Step) → lamp_fault s ≡ no_fault → LampGood s
unfolding lamp_fault
lamp_parts s e =
    let t = else_taken (leb max_lamps s.target) target_fault _ no_fault (λ z. omega arith) e in
    let v = else_taken (ltb max_level s.value) value_fault _ no_fault (λ z. omega arith) t.1 in
    let m = then_taken (step_time_ok s.time) no_fault time_fault no_fault (λ z. omega arith) v.1 in
    record { target_max = leb-false max_lamps s.target t.0; value_max = ltb-false max_level s.value v.0; time_valid = m.0 }

byte_parts : (size : ℕ) (s : Step) → byte_fault size s ≡ no_fault → ByteGood size s
unfolding byte_fault
byte_parts size s e =
    let t = else_taken (leb size s.target) target_fault _ no_fault (λ z. omega arith) e in
    let m = then_taken (eqb s.time 0) no_fault time_fault no_fault (λ z. omega arith) t.1 in
    record { target_max = leb-false size s.target t.0; no_time = eqb-true s.time 0 m.0 }

-- ---- a good step, by its kind

-- a good lamp step
pub lamp_good : (s : Step) → Good s → s.kind < ram_kind → LampGood s
unfolding step_fault
lamp_good s g h = let f : step_fault s ≡ no_fault = eqb-true _ _ g in lamp_parts s (rw (lt-ltb s.kind ram_kind h) at f)

-- a good step that writes RAM
pub ram_good : (s : Step) → Good s → s.kind ≡ ram_kind → ByteGood (size_of Ram) s
unfolding step_fault
ram_good s g h =
    let f : step_fault s ≡ no_fault = eqb-true _ _ g in
    byte_parts (size_of Ram) s (rw (le-ltb s.kind ram_kind (omega arith), eq-eqb s.kind ram_kind h) at f)

-- a good step with a kind above RAM writes EEPROM
pub eeprom_good : (s : Step) → Good s → ram_kind < s.kind → (s.kind ≡ eeprom_kind) × ByteGood (size_of Eeprom) s
unfolding step_fault
eeprom_good s g h =
    let f : step_fault s ≡ no_fault = eqb-true _ _ g in
    let e = rw (le-ltb s.kind ram_kind (omega arith), ne_eqb s.kind ram_kind (λ z. omega arith)) at f in
    let k = then_taken (eqb s.kind eeprom_kind) (byte_fault (size_of Eeprom) s) kind_fault no_fault (λ z. omega arith) e in
    (eqb-true s.kind eeprom_kind k.0, byte_parts (size_of Eeprom) s k.1)

-- ---- the step machine's rule agrees

time_agrees : (t : ℕ) → time_formed t ≡ step_time_ok t
unfolding time_formed step_time_ok time_ok
time_agrees t =
    by_test (eqb (t % seconds_bit) 0)
    (λ z. rw (z, le-ltb 0 (t % seconds_bit) (omega (arith, eqb-true (t % seconds_bit) 0 z))))
    (λ n. rw (n, lt-ltb 0 (t % seconds_bit) (omega (arith, eqb-false (t % seconds_bit) 0 n))))

lamp_formed_lem : (s : Step) → LampGood s → lamp_formed s ≡ true
lamp_formed_lem s p = both (both (lt-ltb _ _ p.target_max) (le-leb _ _ p.value_max)) (time_agrees s.time ∙ p.time_valid)

byte_formed_lem : (size : ℕ) (s : Step) → ByteGood size s → byte_formed size s ≡ true
byte_formed_lem size s p = both (lt-ltb _ _ p.target_max) (eq-eqb _ _ p.no_time)

formed_lamp : (s : Step) → lamp_formed s ≡ true → lamp_fault s ≡ no_fault
unfolding lamp_fault
formed_lamp s e =
    let f : (ltb s.target max_lamps && leb s.value max_level) ≡ true = and_left _ _ e in
    rw (
      lt-leb max_lamps s.target (ltb-true _ _ (and_left _ _ f)),
      le-ltb max_level s.value (leb-true _ _ (and_right (ltb s.target max_lamps) _ f)),
      sym (time_agrees s.time) ∙ and_right (ltb s.target max_lamps && leb s.value max_level) _ e,
    )

formed_byte : (size : ℕ) (s : Step) → byte_formed size s ≡ true → byte_fault size s ≡ no_fault
unfolding byte_fault
formed_byte size s e = rw (lt-leb size s.target (ltb-true _ _ (and_left _ _ e)), and_right (ltb s.target size) _ e)

only_first : (b x : Bool) → cond b x false ≡ true → b ≡ true
only_first true x e = refl
only_first false x e = e

-- a well-formed step that is not of a lamp or RAM writes EEPROM
pub formed_eeprom : (s : Step) → step_formed s ≡ true → is_lamp s.kind ≡ false → eqb s.kind ram_kind ≡ false → eqb s.kind eeprom_kind ≡ true
unfolding step_formed
formed_eeprom s g l r = only_first (eqb s.kind eeprom_kind) (byte_formed (size_of Eeprom) s) (rw (l, r) at g)

-- the steps that the compiler accepts are exactly those that the step machine executes
pub good_formed : (s : Step) → Good s ↔ (step_formed s ≡ true)
unfolding step_formed step_fault
good_formed s =
    by_test (is_lamp s.kind)
    (λ l. (
      λ g. rw l (lamp_formed_lem s (lamp_good s g (ltb-true _ _ l))),
      λ f. rw (l, formed_lamp s (rw l at f)),
    ))
    (λ l. by_test (eqb s.kind ram_kind)
    (λ r. (
      λ g. rw (l, r) (byte_formed_lem (size_of Ram) s (ram_good s g (eqb-true _ _ r))),
      λ f. rw (l, r, formed_byte (size_of Ram) s (rw (l, r) at f)),
    ))
    (λ r. by_test (eqb s.kind eeprom_kind)
    (λ e. (
      λ g. rw (l, r, e) (byte_formed_lem (size_of Eeprom) s (eeprom_good s g (omega (arith, eqb-true s.kind eeprom_kind e))).1),
      λ f. rw (l, r, e, formed_byte (size_of Eeprom) s (rw (l, r, e) at f)),
    ))
    (λ e. (λ g. rw (l, r, e) (rw (l, r, e) at g), λ f. rw (l, r, e) (rw (l, r, e) at f)))))

-- ---- what each fault means

-- one of these cases applies: what holds for the fault of each case holds for the fault of the step
module _ (s : Step) (P : ℕ → Type 0)
    (kind : BadKind s → P kind_fault)
    (target : (¬ BadKind s) × BadTarget s → P target_fault)
    (value : (¬ BadKind s) × (¬ BadTarget s) × BadValue s → P value_fault)
    (time : (¬ BadKind s) × (¬ BadTarget s) × (¬ BadValue s) × BadTime s → P time_fault)
    (none : (¬ BadKind s) × (¬ BadTarget s) × (¬ BadValue s) × (¬ BadTime s) → P no_fault) where
  lamp_cases : s.kind < ram_kind → target_limit s.kind ≡ max_lamps → P (lamp_fault s)
  unfolding lamp_fault step_time_ok
  lamp_cases h limit =
      let known : ¬ BadKind s = λ b. omega arith in
      by_cond P (leb max_lamps s.target) _ _ (λ t. target (known, omega (arith, leb-true max_lamps s.target t)))
      (λ t. let inside : ¬ BadTarget s = λ b. omega (arith, leb-false max_lamps s.target t) in
      by_cond P (ltb max_level s.value) _ _ (λ v. value (known, inside, (h, ltb-true _ _ v)))
      (λ v. let level : ¬ BadValue s = λ b. omega (arith, ltb-false max_level s.value v, b.1) in
      by_test (eqb s.time 0) (λ z. rw z (none (known, inside, level, λ b. b.0 (eqb-true _ _ z))))
      (λ z. rw z (by_cond P (time_ok s.time) _ _
      (λ o. none (known, inside, level, λ b. let w : ◌≡◌ {A = ℕ} 0 1 = cc (o, b.1 h) in omega arith))
      (λ o. time (known, inside, level, (eqb-false _ _ z, λ _. o)))))))

  byte_cases : (size : ℕ) → ram_kind ≤ s.kind → s.kind ≤ eeprom_kind → target_limit s.kind ≡ size → P (byte_fault size s)
  unfolding byte_fault
  byte_cases size h k limit =
      let known : ¬ BadKind s = λ b. omega arith in
      let any : ¬ BadValue s = λ b. omega (arith, b.0) in
      by_cond P (leb size s.target) _ _ (λ t. target (known, omega (arith, leb-true size s.target t)))
      (λ t. let inside : ¬ BadTarget s = λ b. omega (arith, leb-false size s.target t) in
      by_cond P (eqb s.time 0) _ _ (λ z. none (known, inside, any, λ b. b.0 (eqb-true _ _ z)))
      (λ z. time (known, inside, any, (eqb-false _ _ z, λ l. absurd (omega arith)))))

  fault_cases : P (step_fault s)
  unfolding step_fault target_limit
  fault_cases =
      by_cond P (is_lamp s.kind) _ _ (λ l. lamp_cases (ltb-true _ _ l) (rw l))
      (λ l. let above : ram_kind ≤ s.kind = ltb-false _ _ l in
      by_cond P (eqb s.kind ram_kind) _ _
      (λ r. byte_cases (size_of Ram) above (omega (arith, eqb-true s.kind ram_kind r)) (rw (l, r)))
      (λ r. by_cond P (eqb s.kind eeprom_kind) _ _
      (λ e. byte_cases (size_of Eeprom) above (omega (arith, eqb-true s.kind eeprom_kind e)) (rw (l, r)))
      (λ e. kind (omega (arith, eqb-false s.kind ram_kind r, eqb-false s.kind eeprom_kind e)))))

-- a case has its own number, and no number of a case that it excludes
own : {F : Type 0} {n : ℕ} → F → (n ≡ n) ↔ F
own f = (λ _. f, λ _. refl)

other : {F G : Type 0} {m n : ℕ} → eqb m n ≡ false → (F → G → ⊥) → F → (m ≡ n) ↔ G
other {m = m} {n = n} t apart f = (λ e. absurd (eqb-false m n t e), λ g. absurd (apart f g))

-- each fault is given exactly for the first bad part
pub fault_meaning : (s : Step) → FaultMeaning s
fault_meaning s =
    record {
      kind =
          fault_cases s (λ n. (n ≡ 81) ↔ BadKind s) own (other refl (λ f g. f.0 g)) (other refl (λ f g. f.0 g))
          (other refl (λ f g. f.0 g)) (other refl (λ f g. f.0 g));
      target =
          fault_cases s (λ n. (n ≡ 82) ↔ ((¬ BadKind s) × BadTarget s)) (other refl (λ f g. g.0 f)) own
          (other refl (λ f g. f.1 g.1)) (other refl (λ f g. f.1 g.1)) (other refl (λ f g. f.1 g.1));
      value =
          fault_cases s (λ n. (n ≡ 83) ↔ ((¬ BadKind s) × (¬ BadTarget s) × BadValue s)) (other refl (λ f g. g.0 f))
          (other refl (λ f g. g.1 f.1)) own (other refl (λ f g. f.2 g.2)) (other refl (λ f g. f.2 g.2));
      time =
          fault_cases s (λ n. (n ≡ 84) ↔ ((¬ BadKind s) × (¬ BadTarget s) × (¬ BadValue s) × BadTime s)) (other refl (λ f g. g.0 f))
          (other refl (λ f g. g.1 f.1)) (other refl (λ f g. g.2 f.2)) own (other refl (λ f g. f.3 g.3));
      none =
          fault_cases s (λ n. (n ≡ 0) ↔ ((¬ BadKind s) × (¬ BadTarget s) × (¬ BadValue s) × (¬ BadTime s))) (other refl (λ f g. g.0 f))
          (other refl (λ f g. g.1 f.1)) (other refl (λ f g. g.2 f.2)) (other refl (λ f g. g.3 f.3)) own;
    }

-- every fault is 81 to 84
pub fault_range : (s : Step) → ¬ (step_fault s ≡ no_fault) → (81 ≤ step_fault s) × (step_fault s ≤ 84)
fault_range s =
    fault_cases s (λ n. ¬ (n ≡ no_fault) → (81 ≤ n) × (n ≤ 84)) (λ _ _. (omega arith, omega arith)) (λ _ _. (omega arith, omega arith))
    (λ _ _. (omega arith, omega arith)) (λ _ _. (omega arith, omega arith)) (λ _ n. absurd (n refl))

-- the value of a step that writes a memory byte is never bad
pub byte_value : (s : Step) → ram_kind ≤ s.kind → ¬ (step_fault s ≡ value_fault)
byte_value s h e = omega (arith, ((fault_meaning s).value.0 e).2.0)

-- ---- scenes without a bad step

bad_not_good : {j f : ℕ} → Bad j f ≡ AllGood → ⊥
bad_not_good e = let z : ◌≡◌ {A = ℕ} 0 1 = cc in absurd (omega arith)

no_bad_good : (i : ℕ) (ss : List Step) → first_bad_from i ss ≡ AllGood → All Good ss
no_bad_good i [] e = tt
no_bad_good i (s ∷ ss) e = by_test (good_step s) (λ g. (g, no_bad_good (suc i) ss (rw g at e))) (λ g. absurd (bad_not_good (rw g at e)))

good_no_bad : (i : ℕ) (ss : List Step) → All Good ss → first_bad_from i ss ≡ AllGood
good_no_bad i [] a = refl
good_no_bad i (s ∷ ss) a = rw a.0 (good_no_bad (suc i) ss a.1)

-- no bad step is found exactly if each step is good
pub no_bad : (ss : List Step) → (first_bad_from 0 ss ≡ AllGood) ↔ All Good ss
no_bad ss = (no_bad_good 0 ss, good_no_bad 0 ss)
