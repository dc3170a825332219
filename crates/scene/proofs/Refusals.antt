-- Refusals of a compile call: its result in each case, and that each number is given exactly for its fault.
use mathlib.Core.Path.{◌≡◌, refl, sym, ap, subst, ◌∙◌}
use mathlib.Core.Logic.{inl, inr, ◌↔◌}
use mathlib.Core.Bool.{Bool, true, false, not, or-true}
use mathlib.Core.List.{List, [], ◌∷◌, ◌++◌}
use Prim.Native.Nat.{ℕ, suc, ◌+◌, ◌-◌, ◌≤◌, ◌<◌}
use native.Mathlib.Omega.{arith}
use lib.Dec.{ltb, leb, eqb}
use lib.ListN.{length, drop, length-append}
use lib.Seq.{take-append_seam, drop-append_seam}
use borrow.Author.Tests.{eq-eqb, ne_eqb, eqb-true, eqb-false, le-leb, lt-leb, leb-true, leb-false, lt-ltb, ltb-true, ltb-false, not-true, not-false}
use Rattle.dpa.specs.Frame.{broadcast_nadr}
use Rattle.dpa.specs.NodeSet.{node_set_ok, Selectable}
use Rattle.dpa.specs.Settings.{last_address, node_address, address_ok}
use Rattle.dpa.specs.Lists.{All}
use Rattle.dpa.proofs.NodeSets.{set_ok_exact}
use Rattle.dpa.proofs.Bool.{and_left, and_right, by_cond, by_test}
use Rattle.dpa.proofs.All.{all_weaken}
use Rattle.book.specs.declared.step.Step.{Step}
use Rattle.book.specs.Book.{scene_count, book_ok, scene_of}
use Rattle.step.specs.Step.{StepsCheck, AllGood, Bad, step_fault, good_step, first_bad_from}
use Rattle.step.proofs.Faults.{Good, no_bad, fault_range}
use Rattle.output.specs.Requests.{scene_requests, selected_requests}
use Rattle.output.specs.Output.{output, CompleteOutput, min_output}
use Rattle.output.proofs.CompleteOutputs.{output_complete}
use Rattle.scene.specs.Call.{CompileResult, output_of, refused_with, output_in_buffer, compile_steps, compile_scene, compile_to, compile_for, compile_selected}
use Rattle.scene.specs.Refusals.{Addressable, NoFault, SceneRule, StepRefusal, FirstBad, Refusals}
use Rattle.scene.proofs.Calls.{Faultless, target_refused, target_valid, compile_written, compile_refused}

-- ---- the faults, and the tests of the call

-- the call's test of the address is exact
pub addressable : (a : ℕ) → Addressable a ↔ (address_ok a ≡ true)
unfolding address_ok
addressable a = (to, from)
  where
    to : Addressable a → (address_ok a ≡ true)
    to (inl p) = rw (le-leb 1 a p.0, le-leb a last_address p.1) (or-true (eqb a broadcast_nadr))
    to (inr e) = rw (eq-eqb a broadcast_nadr e)

    from : address_ok a ≡ true → Addressable a
    from t =
        by_test (eqb a broadcast_nadr) (λ e. inr (eqb-true a broadcast_nadr e))
        (λ n. let r : node_address a ≡ true = rw n at t in inl (leb-true 1 a (and_left _ _ r), leb-true a last_address (and_right (leb 1 a) _ r)))

-- steps without a fault pass the call's test
pub no_fault_good : (ss : List Step) → All NoFault ss → All Good ss
no_fault_good ss = all_weaken NoFault Good (λ s e. eq-eqb (step_fault s) 0 e) ss

-- and conversely
pub good_no_fault : (ss : List Step) → All Good ss → All NoFault ss
good_no_fault ss = all_weaken Good NoFault (λ s g. eqb-true (step_fault s) 0 g) ss

-- if the search from number i finds step j, it is the first bad step
found_first : (i : ℕ) (ss : List Step) (n j : ℕ) → first_bad_from i ss ≡ Bad j n → (i ≤ j) × FirstBad ss n (j - i)
found_first i [] n j e = absurd (let z : ◌≡◌ {A = ℕ} 0 1 = cc in omega arith)
found_first i (s ∷ ss) n j e =
    by_test (good_step s)
    (λ g. let f = found_first (suc i) ss n j (rw g at e) in (
      omega (arith, f.0),
      record {
        earlier = s ∷ f.1.earlier;
        bad = f.1.bad;
        later = f.1.later;
        order = ap (λ (l : List Step). s ∷ l) f.1.order;
        number = omega (arith, f.0, f.1.number);
        fault_free = (eqb-true (step_fault s) 0 g, f.1.fault_free);
        not_good = f.1.not_good;
        fault = f.1.fault;
      },
    ))
    (λ g. let same : Bad i (step_fault s) ≡ Bad j n = rw g at e in
    let z : i ≡ j = cc in (
      omega arith,
      record {
        earlier = [];
        bad = s;
        later = ss;
        order = refl;
        number = omega arith;
        fault_free = tt;
        not_good = eqb-false (step_fault s) 0 g;
        fault = cc;
      },
    ))

-- and the search finds the first bad step
first_found : (i : ℕ) (earlier : List Step) (bad : Step) (later : List Step) → All NoFault earlier → ¬ NoFault bad
    → first_bad_from i (earlier ++ (bad ∷ later)) ≡ Bad (i + length earlier) (step_fault bad)
first_found i [] bad later a f = rw (ne_eqb (step_fault bad) 0 f) (ap (λ (k : ℕ). Bad k (step_fault bad)) (let z : i ≡ i + 0 = omega arith in z))
first_found i (s ∷ ss) bad later a f =
    rw (eq-eqb (step_fault s) 0 a.0)
    (first_found (suc i) ss bad later a.1 f
    ∙ ap (λ (k : ℕ). Bad k (step_fault bad)) (let z : suc i + length ss ≡ i + suc (length ss) = omega arith in z))

-- the call finds step j with fault n exactly if it is the first bad step
pub first_bad_step : (ss : List Step) (n j : ℕ) → (first_bad_from 0 ss ≡ Bad j n) ↔ FirstBad ss n j
first_bad_step ss n j = (
  λ e. subst (FirstBad ss n) (let z : j - 0 ≡ j = omega arith in z) (found_first 0 ss n j e).1,
  λ f. ap (first_bad_from 0) f.order ∙ first_found 0 f.earlier f.bad f.later f.fault_free f.not_good
      ∙ ap (λ (k : ℕ). Bad k (step_fault f.bad)) (let z : 0 + length f.earlier ≡ j = omega (arith, f.number) in z) ∙ ap (Bad j) f.fault,
)

-- and the fault is a refusal for a bad step
step_refusal : {ss : List Step} {n k : ℕ} → FirstBad ss n k → StepRefusal n
step_refusal f = subst StepRefusal f.fault (fault_range f.bad f.not_good)

-- a scene without a fault passes the call's tests
pub rule_faultless : (b : List ℕ) (k : ℕ) → SceneRule b k → Faultless b k
rule_faultless b k r =
    record { book = r.is_well_formed; number = r.known; steps = (no_bad (scene_of b k)).1 (no_fault_good (scene_of b k) r.fault_free) }

-- ---- the call

-- rules out a case: its number is another one
no : {F X : Type 0} {m n : ℕ} → eqb m n ≡ false → F → m ≡ n → X
no {m} {n} t f e = absurd (eqb-false m n t e)

-- the same for the number of a bad step, which is above all others
no_step : {F X : Type 0} {m n : ℕ} → ltb m 81 ≡ true → StepRefusal n → F → m ≡ n → X
no_step {m = m} t s f e = absurd (omega (arith, ltb-true m 81 t, s.0))

-- for any target with an exact test, and any rule from steps to requests
module _ (Target : Type 0) (valid : Bool) (exact : Target ↔ (valid ≡ true)) (b : List ℕ) (k : ℕ) (requests : List Step → List (List ℕ)) (out : List ℕ) where
  -- the cases, each with what the earlier tests have shown
  abbrev IllFormed : Type 0
  IllFormed = Target × (book_ok b ≡ false)

  abbrev Unknown : Type 0
  Unknown = Target × (book_ok b ≡ true) × (scene_count b ≤ k)

  abbrev BadStep : ℕ → ℕ → Type 0
  BadStep n j = Target × (book_ok b ≡ true) × (k < scene_count b) × FirstBad (scene_of b k) n j

  abbrev NoRoom : Type 0
  NoRoom = Target × SceneRule b k × (length out < min_output)

  abbrev Accepted : Type 0
  Accepted = Target × SceneRule b k × (min_output ≤ length out)

  -- the result for each fault
  target_answer : ¬ Target → compile_to valid b k requests out ≡ refused_with 1 0 out
  target_answer n = by_test valid (λ t. absurd (n (exact.1 t))) (target_refused valid b k requests out)

  book_answer : IllFormed → compile_to valid b k requests out ≡ refused_with 6 0 out
  unfolding compile_scene
  book_answer f = target_valid valid b k requests out (exact.0 f.0) ∙ rw f.1

  number_answer : Unknown → compile_to valid b k requests out ≡ refused_with 7 0 out
  unfolding compile_scene
  number_answer f = target_valid valid b k requests out (exact.0 f.0) ∙ rw (f.1, le-leb (scene_count b) k f.2)

  step_answer : (n j : ℕ) → BadStep n j → compile_to valid b k requests out ≡ refused_with n j out
  unfolding compile_scene
  step_answer n j f = target_valid valid b k requests out (exact.0 f.0) ∙ rw (f.1, lt-leb (scene_count b) k f.2, (first_bad_step (scene_of b k) n j).1 f.3)

  room_answer : NoRoom → compile_to valid b k requests out ≡ refused_with 9 0 out
  unfolding compile_scene
  room_answer f =
      let w = rule_faultless b k f.1 in
      target_valid valid b k requests out (exact.0 f.0)
      ∙ rw (w.book, lt-leb (scene_count b) k w.number, w.steps, lt-ltb (length out) min_output f.2)

  -- without a fault the call writes the output
  pub accepted_answer : Accepted → compile_to valid b k requests out ≡ output_in_buffer (output (requests (scene_of b k))) out
  accepted_answer f = compile_written valid b k requests out (exact.0 f.0) f.2 (rule_faultless b k f.1)

  -- one of the cases applies: what holds for the result of each case holds for the result of the call
  module _ (P : CompileResult → Type 0)
      (target : ¬ Target → P (refused_with 1 0 out))
      (ill_formed : IllFormed → P (refused_with 6 0 out))
      (unknown : Unknown → P (refused_with 7 0 out))
      (bad_step : (n j : ℕ) → BadStep n j → P (refused_with n j out))
      (no_room : NoRoom → P (refused_with 9 0 out))
      (accepted : Accepted → P (output_in_buffer (output (requests (scene_of b k))) out)) where
    steps_cases : Target → book_ok b ≡ true → k < scene_count b → (x : StepsCheck) → first_bad_from 0 (scene_of b k) ≡ x
        → P (compile_steps x (requests (scene_of b k)) out)
    steps_cases to ok below (Bad j n) e = bad_step n j (to, ok, below, (first_bad_step (scene_of b k) n j).0 e)
    steps_cases to ok below AllGood e =
        let r : SceneRule b k =
        record { is_well_formed = ok; known = below; fault_free = good_no_fault (scene_of b k) ((no_bad (scene_of b k)).0 e) } in
        by_cond P (ltb (length out) min_output) _ _ (λ t. no_room (to, r, ltb-true _ _ t)) (λ t. accepted (to, r, ltb-false _ _ t))

    -- the tests in their order
    pub compile_cases : P (compile_to valid b k requests out)
    unfolding compile_to compile_scene
    compile_cases =
        by_cond P (not valid) _ _
        (λ t. target (λ to. let z : ◌≡◌ {A = ℕ} 0 1 = cc (exact.0 to, not-true valid t) in absurd (omega arith)))
        (λ t. let to = exact.1 (not-false valid t) in
        by_cond P (not (book_ok b)) _ _ (λ u. ill_formed (to, not-true (book_ok b) u))
        (λ u. let ok = not-false (book_ok b) u in
        by_cond P (leb (scene_count b) k) _ _ (λ v. unknown (to, ok, leb-true _ _ v))
        (λ v. steps_cases to ok (leb-false _ _ v) (first_bad_from 0 (scene_of b k)) refl)))

  abbrev number_of : CompileResult → ℕ
  number_of r = r.refusal

  -- rules out the case of a bad step
  not_bad : {X : Type 0} {m : ℕ} → ltb m 81 ≡ true → (n j : ℕ) → BadStep n j → n ≡ m → X
  not_bad t n j f e = no_step t (step_refusal f.3) f (sym e)

  -- each number exactly for its fault
  pub target_refusals : Refusals Target b k out (compile_to valid b k requests out)
  target_refusals =
      record {
        target = (
          compile_cases (λ r. r.refusal ≡ 1 → ¬ Target) (λ f _. f) (no refl) (no refl) (not_bad refl) (no refl) (no refl),
          λ f. ap number_of (target_answer f),
        );
        ill_formed = (
          compile_cases (λ r. r.refusal ≡ 6 → IllFormed) (no refl) (λ f _. f) (no refl) (not_bad refl) (no refl) (no refl),
          λ f. ap number_of (book_answer f),
        );
        unknown = (
          compile_cases (λ r. r.refusal ≡ 7 → Unknown) (no refl) (no refl) (λ f _. f) (not_bad refl) (no refl) (no refl),
          λ f. ap number_of (number_answer f),
        );
        bad_step = λ n j. (
          λ p. compile_cases (λ r. r.refusal ≡ n → r.step ≡ j → BadStep n j) (no_step refl p.0) (no_step refl p.0) (no_step refl p.0)
              (λ m i f e d. subst (λ (x : ℕ). BadStep x j) e (subst (BadStep m) d f)) (no_step refl p.0) (no_step refl p.0) p.1 p.2,
          λ f. (step_refusal f.3, ap number_of (step_answer n j f), ap (λ (r : CompileResult). r.step) (step_answer n j f)),
        );
        no_room = (
          compile_cases (λ r. r.refusal ≡ 9 → NoRoom) (no refl) (no refl) (no refl) (not_bad refl) (λ f _. f) (no refl),
          λ f. ap number_of (room_answer f),
        );
        none = (
          compile_cases (λ r. r.refusal ≡ 0 → Accepted) (no refl) (no refl) (no refl) (not_bad refl) (no refl) (λ f _. f),
          λ f. ap number_of (accepted_answer f),
        );
        other_step =
            compile_cases (λ r. ¬ StepRefusal r.refusal → r.step ≡ 0) (λ _ _. refl) (λ _ _. refl) (λ _ _. refl) (λ n j f s. absurd (s (step_refusal f.3)))
            (λ _ _. refl) (λ _ _. refl);
        unwritten = compile_refused valid b k requests out;
        later =
            let o = output (requests (scene_of b k)) in
            compile_cases (λ r. drop r.length r.buffer ≡ drop r.length out) (λ _. refl) (λ _. refl) (λ _. refl) (λ n j _. refl)
            (λ _. refl) (λ _. drop-append_seam o (drop (length o) out));
      }

-- compiling for an address
pub compile_refusals : (b : List ℕ) (k a h : ℕ) (out : List ℕ) → Refusals (Addressable a) b k out (compile_for b k a h out)
compile_refusals b k a h out = target_refusals (Addressable a) (address_ok a) (addressable a) b k (scene_requests a h) out

-- and for a set of nodes
pub selected_refusals : (b : List ℕ) (k : ℕ) (nodes : List ℕ) (h : ℕ) (out : List ℕ) → Refusals (Selectable nodes) b k out (compile_selected b k nodes h out)
selected_refusals b k nodes h out = target_refusals (Selectable nodes) (node_set_ok nodes) (set_ok_exact nodes) b k (selected_requests nodes h) out

-- ---- a call for an address that is not refused: c is its result
module _ (b : List ℕ) (k a h : ℕ) (out : List ℕ) (c : CompileResult) (e : c ≡ compile_for b k a h out) (z : c.refusal ≡ 0) where
  -- there was no fault
  pub accepted : Addressable a × SceneRule b k × (min_output ≤ length out)
  accepted = (compile_refusals b k a h out).none.0 (sym (ap (λ (d : CompileResult). d.refusal) e) ∙ z)

  -- the output was written
  pub written : c ≡ output_in_buffer (output (scene_requests a h (scene_of b k))) out
  written = e ∙ accepted_answer (Addressable a) (address_ok a) (addressable a) b k (scene_requests a h) out accepted

  -- it is inside the buffer
  pub output_inside : c.length ≤ length c.buffer
  output_inside =
      let o = output (scene_requests a h (scene_of b k)) in
      rw written (omega (arith, length-append o (drop (length o) out)))

  -- and is that of the scene's requests
  pub output_is : output_of c ≡ output (scene_requests a h (scene_of b k))
  output_is =
      let o = output (scene_requests a h (scene_of b k)) in
      ap output_of written ∙ take-append_seam o (drop (length o) out)

  -- so it has all the requests that it announces
  pub output_whole : CompleteOutput (output_of c)
  output_whole = subst CompleteOutput (sym output_is) (output_complete (scene_requests a h (scene_of b k)))
