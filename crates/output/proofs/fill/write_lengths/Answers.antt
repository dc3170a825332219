-- `fill::write_lengths`: each iteration keeps the span of one entry, and writes a length byte if the entry does not fit the open list.
use mathlib.Core.List.{List, [], ◌∷◌, ◌++◌}
use mathlib.Core.Path.{◌≡◌, refl, ap, ◌∙◌}
use Prim.Native.Nat.{ℕ, ◌+◌, ◌≤◌}
use native.Mathlib.Omega.{arith}
use lib.ListN.{length, drop}
use Rattle.dpa.specs.declared.frame.Frame.{Frame}
use Rattle.dpa.specs.Frame.{frame, header_bytes, header_size}
use Rattle.book.specs.Steps.{steps_of}
use Rattle.book.proofs.Positions.{steps_length}
use Rattle.step.proofs.GoodSteps.{good_steps}
use Rattle.entries.specs.declared.write.Writer.{Writer}
use Rattle.entries.specs.Join.{entries_of}
use Rattle.entries.specs.Writer.{HasRoom}
use Rattle.output.specs.declared.form.GoodSteps.{GoodSteps}
use Rattle.output.specs.declared.form.RequestForm.{RequestForm}
use Rattle.output.specs.Requests.{empty_list_size}
use Rattle.output.specs.Output.{lengths}
use Rattle.output.specs.Fill.{requests_with}
use Rattle.output.proofs.Batches.{entry_limit_lem}
use Rattle.output.proofs.Outputs.{lengths_length}
use Rattle.output.proofs.Remaining.{remaining_lengths, requests_lengths}
use Rattle.output.proofs.RestSteps.{rest_steps, no_steps}
use Rattle.entries.proofs.Writers.{remaining_room, remaining_end}
use Rattle.output.proofs.Progress.{lengths_room, lengths_more}
use Rattle.output.proofs.EntrySpans.{span_room, spans_more}
use Rattle.output.proofs.fill.write_lengths.Goals as goal

module _ (steps : GoodSteps) (form : RequestForm) (some : steps.steps.count ≡ 0 → ⊥) where
  -- all length bytes; they are the same for every header
  abbrev all : List ℕ
  all = remaining_lengths form.limits.list (header_size + length form.front.now) empty_list_size (entries_of form.limits.entry (steps_of steps.steps))

  all_is : (f : Frame) → lengths (requests_with form.limits f form.front.now (steps_of steps.steps)) ≡ all
  all_is f =
      let s = steps.steps in
      let n : length (header_bytes f ++ form.front.now) ≡ header_size + length form.front.now = omega arith in
      requests_lengths form.fits (header_bytes f ++ form.front.now) f.hwpid (steps_of s) (good_steps s.count s.body.now steps.good) (omega (arith, steps_length s.count s.body.now))
      ∙ ap (λ (k : ℕ). remaining_lengths form.limits.list k empty_list_size (entries_of form.limits.entry (steps_of s))) n

  -- they have room
  room : (out : Writer) → ((f : Frame) → HasRoom out (length (requests_with form.limits f form.front.now (steps_of steps.steps)))) → HasRoom out (length all)
  room out r =
      let f = frame 0 0 0 0 in
      omega (arith, r f, ap length (all_is f), lengths_length (requests_with form.limits f form.front.now (steps_of steps.steps)))

pub push-requires : goal.push-requires
push-requires c =
    let s = c.args.steps.steps in
    omega (arith, span_room c.first_entry-span.ensures c.loop-rest.invariant.1, steps_length s.count s.body.now, s.few)

pub next_length-size-requires : goal.next_length-size-requires
next_length-size-requires c =
    let form = c.args.form in
    let entry = c.first_entry-span.ensures in
    let o = c.loop-rest.invariant.0 in
    rw c.from.ensures
    (o.size_max, omega (arith, entry.size_max, (entry_limit_lem form.fits).frame), lengths_room form.fits entry _ o (room c.args.steps form c.if-steps-eq0.false c.args.out.now c.requires))

pub after-rest-requires : goal.after-rest-requires
after-rest-requires c =
    let s = c.loop-rest.rest.steps in
    omega (arith, c.from-in-loop-rest.ensures, c.first_entry-span.ensures.within, steps_length s.count s.body.now)

pub loop-rest-preserved : goal.loop-rest-preserved
loop-rest-preserved c =
    let s = c.loop-rest.rest.steps in
    let entry = c.first_entry-span.ensures in
    let k = c.from-in-loop-rest in
    let within : k.result ≤ s.count = omega (arith, k.ensures, entry.within, steps_length s.count s.body.now) in
    let e : steps_of c.after-rest.result.steps ≡ drop c.first_entry-span.result.steps (steps_of s) =
    rest_steps s c.after-rest.result.steps k.result within c.after-rest.ensures ∙ ap (λ (n : ℕ). drop n (steps_of s)) k.ensures in
    let w = c.next_length-size.ensures in
    rw (e, c.push.ensures)
    (lengths_more c.args.form.fits entry _ c.loop-rest.invariant.0 (rw c.from.ensures at w.written) (rw c.from.ensures at w.size), spans_more entry c.loop-rest.invariant.1)

-- ---- after the last entry only the last length byte remains

pub write_byte-requires : goal.write_byte-requires
write_byte-requires c =
    let last = rw (no_steps c.loop-rest.rest.steps c.loop-rest-test.false) at c.loop-rest.invariant.0.bytes in
    let form = c.args.form in
    remaining_room last ((c.loop-rest.size + (header_size + length form.front.now)) ∷ []) [] refl (room c.args.steps c.args.form c.if-steps-eq0.false c.args.out.now c.requires)

pub returns-clause-lengths : goal.returns-clause-lengths
returns-clause-lengths c =
    let last = rw (no_steps c.loop-rest.rest.steps c.loop-rest-test.false) at c.loop-rest.invariant.0.bytes in
    λ f. rw (all_is c.args.steps c.args.form c.if-steps-eq0.false f) (remaining_end last (rw c.length_byte.ensures at c.write_byte.ensures))
