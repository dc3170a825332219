-- Spans: the first pass keeps them, and the second finds the next entry by them.
use mathlib.Core.Bool.{Bool}
use mathlib.Core.List.{List, [], ◌∷◌, ◌++◌, append_assoc, append-nil, nil≢cons, head-eq_of_cons-eq}
use mathlib.Core.Path.{◌≡◌, refl, sym, ap, ap₂, ◌∙◌}
use Prim.Native.Nat.{ℕ, zero, suc, ◌+◌, ◌≤◌, ◌<◌}
use native.Mathlib.Numerals.{add-one}
use native.Mathlib.Omega.{arith}
use lib.ListN.{length, get_or, take, drop, length-drop, length-append, take-append-drop}
use lib.Seq.{drop-cons, length-take-le}
use Rattle.dpa.specs.Lists.{All}
use Rattle.dpa.proofs.Bool.{by_cond}
use Rattle.book.specs.declared.step.Step.{Step}
use Rattle.step.proofs.Faults.{Good}
use Rattle.entries.specs.declared.join.EntrySpan.{EntrySpan}
use Rattle.entries.specs.Group.{grow, group}
use Rattle.entries.specs.Entry.{group_data}
use Rattle.entries.specs.Join.{joins, entries_of}
use Rattle.entries.specs.EntrySize.{one_step_max, FirstEntry}
use Rattle.entries.proofs.Groups.{length_group}
use Rattle.entries.proofs.EntryGroups.{EntryGroup, entry_groups}
use Rattle.output.specs.Fill.{spans_of}

-- ---- the first group of a list, which continues `cur`, and the groups of the rest
pub record FirstGroup {A : Type 0} (fits : List A → A → Bool) (cur xs r : List A) (rs : List (List A)) : Type 0 where
  pub count : ℕ
  pub first : r ≡ cur ++ take count xs
  pub rest : rs ≡ group fits (drop count xs)

module _ {A : Type 0} (fits : List A → A → Bool) where
  grow_first : (cur xs r : List A) (rs : List (List A)) → grow fits cur xs ≡ r ∷ rs → FirstGroup fits cur xs r rs
  grow_first cur [] r rs e = record { count = 0; first = sym (head-eq_of_cons-eq e) ∙ sym (append-nil cur); rest = sym (ap (drop 1) e) }
  grow_first cur (x ∷ xs) r rs e =
      by_cond (λ (g : List (List A)). g ≡ r ∷ rs → FirstGroup fits cur (x ∷ xs) r rs) (fits cur x) _ _
      (λ _ f. let c = grow_first (cur ++ (x ∷ [])) xs r rs f in
      record { count = suc c.count; first = c.first ∙ append_assoc cur (x ∷ []) (take c.count xs); rest = c.rest })
      (λ _ f. record { count = 0; first = sym (head-eq_of_cons-eq f) ∙ sym (append-nil cur); rest = sym (ap (drop 1) f) })
      e

  group_first : (xs r : List A) (rs : List (List A)) → group fits xs ≡ r ∷ rs → FirstGroup fits [] xs r rs
  group_first [] r rs e = absurd (nil≢cons e)
  group_first (x ∷ xs) r rs e =
      let c = grow_first (x ∷ []) xs r rs e in
      record { count = suc c.count; first = c.first; rest = c.rest }

-- taking or dropping as many elements as `take k` has is taking or dropping k
take_length : {A : Type 0} (k : ℕ) (xs : List A) → (take (length (take k xs)) xs ≡ take k xs) × (drop (length (take k xs)) xs ≡ drop k xs)
take_length zero xs = (refl, refl)
take_length (suc k) [] = (refl, refl)
take_length {A} (suc k) (x ∷ xs) = let t = take_length k xs in (ap (λ (l : List A). x ∷ l) t.0, t.1)

group_some : (limit : ℕ) (r : List Step) → EntryGroup limit r → (1 ≤ length r) × (length (group_data r) ≤ limit)
group_some limit [] q = absurd q
group_some limit (s ∷ ss) q = (omega arith, q.2)

-- the default where a list has no span
abbrev pub no_span : EntrySpan
no_span = record { steps = 0; size = 0 }

-- the span at place i, of k steps and sz bytes, is that of the first entry of these steps, and the spans of the other entries follow it
pub record NextSpan (entry_max : ℕ) (xs : List Step) (spans : List EntrySpan) (i k sz : ℕ) : Type 0 where
  pub entry : FirstEntry entry_max xs k sz
  pub rest : drop (i + 1) spans ≡ spans_of (entries_of entry_max (drop k xs))

-- the first group that joining makes is the first entry
module _ (entry_max : ℕ) (min : one_step_max ≤ entry_max) (xs : List Step) (good : All Good xs) where
  first_entry : (r : List Step) (rs : List (List Step)) → entries_of entry_max xs ≡ r ∷ rs → FirstEntry entry_max xs (length r) (length (group_data r))
  first_entry r rs e =
      let c = group_first (joins entry_max) xs r rs e in
      let t = take_length c.count xs in
      let all : All (EntryGroup entry_max) (r ∷ rs) = rw e at (entry_groups entry_max min xs good) in
      let q = group_some entry_max r all.0 in
      let same : take (length r) xs ≡ r = ap (λ (l : List Step). take (length l) xs) c.first ∙ t.0 ∙ sym c.first in
      let rest : drop (length r) xs ≡ drop c.count xs = ap (λ (l : List Step). drop (length l) xs) c.first ∙ t.1 in
      record {
        some = q.0;
        within = omega (
          arith,
          length-append (take (length r) xs) (drop (length r) xs),
          ap length (take-append-drop (length r) xs),
          ap length same,
        );
        size_max = q.1;
        size_is = ap (λ (l : List Step). length (group_data l)) (sym same);
        first = e ∙ ap₂ (λ (l : List Step) (ls : List (List Step)). l ∷ ls) (sym same) (c.rest ∙ ap (entries_of entry_max) (sym rest));
      }

  next_from : (es : List (List Step)) → entries_of entry_max xs ≡ es → (spans : List EntrySpan) (i : ℕ) {k sz : ℕ} → i < length spans → drop i spans ≡ spans_of es
      → k ≡ (get_or spans i no_span).steps → sz ≡ (get_or spans i no_span).size → NextSpan entry_max xs spans i k sz
  next_from [] e spans i h q ek es = absurd (omega (arith, ap length q, length-drop i spans))
  next_from (r ∷ rs) e spans i h q ek es =
      let f = first_entry r rs e in
      let x : EntrySpan = record { steps = length r; size = length (group_data r) } in
      let c : get_or spans i no_span ∷ drop (i + 1) spans ≡ x ∷ spans_of rs = rw (add-one i) (sym (drop-cons spans i no_span h) ∙ q) in
      let s = head-eq_of_cons-eq c in
      let n : rs ≡ entries_of entry_max (drop (length r) xs) = ap (drop 1) (sym e ∙ f.first) in
      rw (ek ∙ ap (λ (y : EntrySpan). y.steps) s, es ∙ ap (λ (y : EntrySpan). y.size) s) (record { entry = f; rest = ap (drop 1) c ∙ ap spans_of n })

  pub next_span : (spans : List EntrySpan) (i : ℕ) {k sz : ℕ} → i < length spans → drop i spans ≡ spans_of (entries_of entry_max xs)
      → k ≡ (get_or spans i no_span).steps → sz ≡ (get_or spans i no_span).size → NextSpan entry_max xs spans i k sz
  next_span = next_from (entries_of entry_max xs) refl

-- no entries, no spans
pub no_spans : (es : List (List Step)) → [] ≡ spans_of es → es ≡ []
no_spans [] e = refl
no_spans (r ∷ rs) e = absurd (nil≢cons e)

-- ---- the loop of write_lengths: `spans` are those before the entries of `rest`
pub record SpansBefore (entry_max : ℕ) (ss rest : List Step) (spans : List EntrySpan) : Type 0 where
  pub all : spans ++ spans_of (entries_of entry_max rest) ≡ spans_of (entries_of entry_max ss)

spans_length : (es : List (List Step)) → length (spans_of es) ≡ length es
spans_length [] = refl
spans_length (r ∷ rs) = ap suc (spans_length rs)

module _ {entry_max : ℕ} {rest : List Step} {k sz : ℕ} (f : FirstEntry entry_max rest k sz) where
  spans_next : spans_of (entries_of entry_max rest) ≡ record { steps = k; size = sz } ∷ spans_of (entries_of entry_max (drop k rest))
  spans_next = ap spans_of f.first ∙ rw (length-take-le k rest f.within, ← f.size_is)

  module _ {ss : List Step} {spans : List EntrySpan} (l : SpansBefore entry_max ss rest spans) where
    -- the next span has room
    pub span_room : length spans < length ss
    span_room =
        omega (
          arith,
          simp length-append at (ap length l.all),
          ap length spans_next,
          spans_length (entries_of entry_max ss),
          length_group (joins entry_max) ss,
        )

    -- and after it the loop goes on
    pub spans_more : SpansBefore entry_max ss (drop k rest) (spans ++ (record { steps = k; size = sz } ∷ []))
    spans_more = record { all = append_assoc spans _ _ ∙ ap (λ (t : List EntrySpan). spans ++ t) (sym spans_next) ∙ l.all }
