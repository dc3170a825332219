-- `request::write_requests`: each iteration writes the entry of one span, and what separates it from the entry before.
use mathlib.Core.List.{List, [], ◌∷◌, ◌++◌}
use mathlib.Core.Path.{◌≡◌, refl, sym, ap, ◌∙◌}
use Prim.Native.Nat.{ℕ, ◌+◌, ◌≤◌, ◌<◌}
use native.Mathlib.Omega.{arith}
use lib.ListN.{length, get_or, drop, length-append, drop_of_length-le}
use Rattle.dpa.specs.Frame.{header_bytes}
use Rattle.batch.specs.Batch.{closing_zero}
use Rattle.book.specs.declared.step.Step.{Step}
use Rattle.book.specs.Steps.{steps_of}
use Rattle.book.proofs.Positions.{steps_length}
use Rattle.step.proofs.GoodSteps.{good_steps}
use Rattle.entries.specs.declared.join.EntrySpan.{EntrySpan}
use Rattle.entries.specs.declared.write.Writer.{Writer}
use Rattle.entries.specs.Group.{concat}
use Rattle.entries.specs.Entry.{group_data}
use Rattle.entries.specs.Join.{entries_of}
use Rattle.entries.specs.Writer.{HasRoom}
use Rattle.entries.proofs.Writers.{writes_append, writes_length, remaining_room, remaining_end}
use Rattle.entries.proofs.EntryWritable.{entry_writable}
use Rattle.output.specs.declared.form.GoodSteps.{GoodSteps}
use Rattle.output.specs.declared.form.RequestForm.{RequestForm}
use Rattle.output.specs.Requests.{empty_list_size}
use Rattle.output.specs.Fill.{spans_of}
use Rattle.output.specs.Form.{requests_for}
use Rattle.output.proofs.Batches.{entry_limit_lem}
use Rattle.output.proofs.Remaining.{remaining_bytes, requests_bytes}
use Rattle.output.proofs.RestSteps.{rest_steps, first_steps}
use Rattle.output.proofs.Progress.{separator_room, entry_room, bytes_more}
use Rattle.output.proofs.EntrySpans.{no_span, NextSpan, next_span, no_spans}
use Rattle.output.proofs.request.write_requests.Goals as goal

-- what each request starts with
abbrev prefix : RequestForm → List ℕ
prefix form = header_bytes form.header ++ form.front.now

module _ (steps : GoodSteps) (form : RequestForm) (some : steps.steps.count ≡ 0 → ⊥) where
  -- all bytes after the first prefix
  abbrev all : List ℕ
  all = remaining_bytes form.limits.list (prefix form) form.header.hwpid empty_list_size (entries_of form.limits.entry (steps_of steps.steps))

  all_is : concat (requests_for form (steps_of steps.steps)) ≡ prefix form ++ all
  all_is =
      let s = steps.steps in
      requests_bytes form.fits (prefix form) form.header.hwpid (steps_of s) (good_steps s.count s.body.now steps.good) (omega (arith, steps_length s.count s.body.now))

  -- the first prefix has room, and all bytes after it
  room : (out : Writer) → HasRoom out (length (concat (requests_for form (steps_of steps.steps))))
      → HasRoom out (length (prefix form) + length all)
  room out r = omega (arith, r, ap length all_is, length-append (prefix form) all)

-- the next entry, as its span gives it
entry_of : (form : RequestForm) (rest : GoodSteps) (spans : List EntrySpan) (i : ℕ) {k sz : ℕ} → i < length spans
    → drop i spans ≡ spans_of (entries_of form.limits.entry (steps_of rest.steps)) → k ≡ (get_or spans i no_span).steps → sz ≡ (get_or spans i no_span).size
    → NextSpan form.limits.entry (steps_of rest.steps) spans i k sz
entry_of form rest = let s = rest.steps in next_span form.limits.entry form.fits.entry (steps_of s) (good_steps s.count s.body.now rest.good)

pub write_prefix-requires : goal.write_prefix-requires
write_prefix-requires c = omega (arith, room c.args.steps c.args.form c.if-steps-eq0.false c.args.out.now c.requires.1)

pub next_list-size-requires : goal.next_list-size-requires
next_list-size-requires c =
    let form = c.args.form in
    let l = c.loop-span in
    let o = l.invariant.0 in
    let entry = (entry_of form l.rest c.args.spans.now l.span-index c.loop-span-test.true l.invariant.1 c.from-count.ensures c.from-pdata.ensures).entry in
    let w = c.write_prefix.ensures in (
      o.size_max,
      omega (arith, entry.size_max, (entry_limit_lem form.fits).frame),
      separator_room form.fits entry _ _ o (omega (arith, room c.args.steps form c.if-steps-eq0.false c.args.out.now c.requires.1, w.end, writes_length w)),
    )

pub part-requires : goal.part-requires
part-requires c =
    let l = c.loop-span in
    let entry = (entry_of c.args.form l.rest c.args.spans.now l.span-index c.loop-span-test.true l.invariant.1 c.from-count.ensures c.from-pdata.ensures).entry in
    omega (arith, entry.within, steps_length l.rest.steps.count l.rest.steps.body.now)

pub write_entry-requires : goal.write_entry-requires
write_entry-requires c =
    let form = c.args.form in
    let l = c.loop-span in
    let s = l.rest.steps in
    let entry = (entry_of form l.rest c.args.spans.now l.span-index c.loop-span-test.true l.invariant.1 c.from-count.ensures c.from-pdata.ensures).entry in
    let within : c.from-count.result ≤ s.count = omega (arith, entry.within, steps_length s.count s.body.now) in
    let p = c.part in
    let w = c.write_prefix.ensures in (
      omega (arith, entry.some, p.ensures.1),
      omega (arith, entry.size_max, (entry_limit_lem form.fits).frame),
      entry.size_is ∙ ap (λ (ss : List Step). length (group_data ss)) (sym (first_steps s p.result c.from-count.result within p.ensures)),
      entry_room form.fits entry _ _ l.invariant.0 c.next_list-size.ensures.written
          (omega (arith, room c.args.steps form c.if-steps-eq0.false c.args.out.now c.requires.1, w.end, writes_length w)),
      rw (p.ensures.0, p.ensures.1) (entry_writable form.limits.entry form.fits.entry _ _ _ s.body.now l.rest.good entry),
    )

pub after-rest-requires : goal.after-rest-requires
after-rest-requires c =
    let l = c.loop-span in
    let entry = (entry_of c.args.form l.rest c.args.spans.now l.span-index c.loop-span-test.true l.invariant.1 c.from-count.ensures c.from-pdata.ensures).entry in
    omega (arith, entry.within, steps_length l.rest.steps.count l.rest.steps.body.now)

pub loop-span-preserved : goal.loop-span-preserved
loop-span-preserved c =
    let form = c.args.form in
    let l = c.loop-span in
    let s = l.rest.steps in
    let next = entry_of form l.rest c.args.spans.now l.span-index c.loop-span-test.true l.invariant.1 c.from-count.ensures c.from-pdata.ensures in
    let within : c.from-count.result ≤ s.count = omega (arith, next.entry.within, steps_length s.count s.body.now) in
    let t = c.next_list-size.ensures in
    rw (rest_steps s c.after-rest.result.steps c.from-count.result within c.after-rest.ensures) (
      bytes_more form.fits next.entry _ _ l.invariant.0 t.written (rw (first_steps s c.part.result c.from-count.result within c.part.ensures) at c.write_entry.ensures) t.size,
      next.rest,
    )

-- ---- after the last entry only the closing zero remains

pub write_byte-requires : goal.write_byte-requires
write_byte-requires c =
    let l = c.loop-span in
    let none = no_spans _ (sym (drop_of_length-le c.args.spans.now {i = l.span-index} c.loop-span-test.false) ∙ l.invariant.1) in
    let last = rw none at l.invariant.0.bytes in
    let w = c.write_prefix.ensures in
    remaining_room last (closing_zero ∷ []) [] refl (omega (arith, room c.args.steps c.args.form c.if-steps-eq0.false c.args.out.now c.requires.1, w.end, writes_length w))

pub returns : goal.returns
returns c =
    let l = c.loop-span in
    let none = no_spans _ (sym (drop_of_length-le c.args.spans.now {i = l.span-index} c.loop-span-test.false) ∙ l.invariant.1) in
    let last = rw none at l.invariant.0.bytes in
    rw (all_is c.args.steps c.args.form c.if-steps-eq0.false) (writes_append c.write_prefix.ensures (remaining_end last c.write_byte.ensures))
