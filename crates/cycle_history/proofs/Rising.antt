-- What rising spans have, and which objects a mark end may mark.
use Rattle.std.proofs.Common.{◌≡◌, ℕ, zero, suc, ◌+◌, ◌-◌, ◌^◌, ◌<◌, ◌≤◌, true, false, ◌&&◌, leb, List, [], ◌∷◌, length, take, drop, get_or, Option, Some, None, MatchOption, refl, sym, ◌∙◌, ap, arith, ◌⊎◌, inl, inr, length-append}
use Rattle.std.specs.List.{flat_map}
use Rattle.std.specs.List.Sorted.{IsNonDecreasingBy}
use Rattle.std.proofs.lemmas.Bool.{le-leb, lt-leb, leb-true, and_parts, and_from, and_left, and_right, or_cases, or_left, or_right, or_from, cases_Bool}
use Rattle.trace_reader.specs.declared.trace.Trace.{Trace}
use Rattle.trace_reader.specs.declared.trace.Cycle.{Cycle}
use Rattle.trace_reader.specs.declared.trace.MarkEnd.{MarkEnd}
use Rattle.trace_reader.specs.declared.span.Span.{Span}
use Rattle.trace_reader.specs.Rising.{AreSpans}
use Rattle.trace_reader.specs.Limits.{AreCycles, IsMarked}
use Rattle.cycle_history.specs.Requests.{is_within, spans_of, spans_after, marked_by}
use Rattle.cycle_history.specs.Marked.{LivedBefore}
use Rattle.cycle_history.specs.Before.{objects_before, marks_at}
use Rattle.cycle_history.proofs.Firsts.{before-rise}

-- ---- spans

pub within-above : (from : ℕ) (ss : List Span) (i : ℕ) → AreSpans from ss → i < from → is_within ss i ≡ false
within-above from [] i h lt = refl
within-above from (s ∷ ss) i h lt =
    let low = h.0 in
    let order = h.1 in
    or_from (leb s.lo i && leb i s.hi) (is_within ss i) (and_left (leb s.lo i) (leb i s.hi) (lt-leb s.lo i (omega arith))) (within-above (s.hi + 1) ss i h.3 (omega arith))

-- behind the first span
pub within-rest : (s : Span) (ss : List Span) (i : ℕ) → s.hi < i → is_within (s ∷ ss) i ≡ is_within ss i
within-rest s ss i lt = let off = and_right (leb s.lo i) (leb i s.hi) (lt-leb i s.hi lt) in rw off refl

-- in the first span
pub within-first : (s : Span) (ss : List Span) (i : ℕ) → s.lo ≤ i → i ≤ s.hi → is_within (s ∷ ss) i ≡ true
within-first s ss i low high = or_left (leb s.lo i && leb i s.hi) (is_within ss i) (and_from (leb s.lo i) (leb i s.hi) (le-leb s.lo i low) (le-leb i s.hi high))

-- where all spans before one end below the object, and it doesn't, that one alone can have it
pub within-point : (from : ℕ) (ss : List Span) (a i : ℕ) (d : Span) → AreSpans from ss → ((k : ℕ) → k < a → (get_or ss k d).hi < i) → i ≤ (get_or ss a d).hi → a < length ss
    → leb (get_or ss a d).lo i ≡ is_within ss i
within-point from [] a i d h low high lt = absurd (omega arith)
within-point from (s ∷ ss) zero i d h low high lt =
    let on : leb i s.hi ≡ true = le-leb i s.hi high in
    let rest : is_within ss i ≡ false = within-above (s.hi + 1) ss i h.3 (omega arith) in
    elim (cases_Bool (leb s.lo i)) [ inl is ↦ rw (is, on) refl | inr isnt ↦ rw (isnt, rest) refl ]
within-point from (s ∷ ss) (suc a) i d h low high lt =
    within-point (s.hi + 1) ss a i d h.3 (λ k less. low (suc k) (omega arith)) high (omega arith)
    ∙ sym (within-rest s ss i (low 0 (omega arith)))

-- where all spans end below the object, none has it
pub within-none : (ss : List Span) (i : ℕ) (d : Span) → ((k : ℕ) → k < length ss → (get_or ss k d).hi < i) → is_within ss i ≡ false
within-none [] i d low = refl
within-none (s ∷ ss) i d low = within-rest s ss i (low 0 (omega arith)) ∙ within-none ss i d (λ k less. low (suc k) (omega arith))

-- each span stands above what was asked of the first, and ends at or above its begin
pub span-low : (from : ℕ) (ss : List Span) (k : ℕ) (d : Span) → AreSpans from ss → k < length ss → (from ≤ (get_or ss k d).lo) × ((get_or ss k d).lo ≤ (get_or ss k d).hi)
span-low from [] k d h lt = absurd (omega arith)
span-low from (s ∷ ss) zero d h lt = (h.0, h.1)
span-low from (s ∷ ss) (suc k) d h lt =
    let rest = span-low (s.hi + 1) ss k d h.3 (omega arith) in
    let low = h.0 in
    let order = h.1 in
    (omega arith, rest.1)

-- the ends rise
pub ends-rise : (from : ℕ) (ss : List Span) → AreSpans from ss → IsNonDecreasingBy (λ (s : Span). s.hi) ss
ends-rise from [] h i j d le lt = absurd (omega arith)
ends-rise from (s ∷ ss) h zero zero d le lt = omega arith
ends-rise from (s ∷ ss) h zero (suc j) d le lt = let later = span-low (s.hi + 1) ss j d h.3 (omega arith) in omega arith
ends-rise from (s ∷ ss) h (suc i) zero d le lt = absurd (omega arith)
ends-rise from (s ∷ ss) h (suc i) (suc j) d le lt = ends-rise (s.hi + 1) ss h.3 i j d (omega arith) (omega arith)

-- the spans from one on
pub spans-from : (from : ℕ) (ss : List Span) (k : ℕ) (d : Span) → AreSpans from ss → k < length ss → AreSpans ((get_or ss k d).hi + 1) (drop (k + 1) ss)
spans-from from [] k d h lt = absurd (omega arith)
spans-from from (s ∷ ss) zero d h lt = h.3
spans-from from (s ∷ ss) (suc k) d h lt = let e : suc k + 1 ≡ suc (k + 1) = omega arith in rw e (spans-from (s.hi + 1) ss k d h.3 (omega arith))

marked-within : (ss : List Span) (i : ℕ) → is_within ss i ≡ true → IsMarked ss i
marked-within [] i on = cc
marked-within (s ∷ ss) i on =
    elim (or_cases (leb s.lo i && leb i s.hi) (is_within ss i) on) [
      | inl here ↦ (let parts = and_parts (leb s.lo i) (leb i s.hi) here in inl (leb-true s.lo i parts.0, leb-true i s.hi parts.1))
      | inr there ↦ inr (marked-within ss i there)
    ]

within-marked : (ss : List Span) (i : ℕ) → IsMarked ss i → is_within ss i ≡ true
within-marked [] i on = absurd on
within-marked (s ∷ ss) i on =
    elim on [
      | inl here ↦ within-first s ss i here.0 here.1
      | inr there ↦ or_right (leb s.lo i && leb i s.hi) (is_within ss i) (within-marked ss i there)
    ]

-- ---- cycles

abbrev before : List Cycle → ℕ → ℕ
before cycles c = length (flat_map (λ (x : Cycle). x.events) (take c cycles))

-- what the cycles of a trace say of a mark end
abbrev Fits : ℕ → (ℕ → Type 0) → Cycle → List Cycle → MarkEnd → Type 0
Fits first live c cycles m = (1 ≤ m.distance) × (m.distance ≤ 2 ^ 40) × AreSpans 0 m.marks
    × ((i : ℕ) → IsMarked m.marks i → live i ⊎ ((first ≤ i) × (i < first + length c.events)))
    × AreCycles (first + length c.events) (IsMarked m.marks) cycles

mark-parts : (P : MarkEnd → Type 0) (mark : Option MarkEnd) → MatchOption mark ⊥ P → (m : MarkEnd) × (mark ≡ Some m) × P m
mark-parts P None h = absurd h
mark-parts P (Some m) h = (m, refl, h)

spans-rise : (first : ℕ) (live : ℕ → Type 0) (cycles : List Cycle) (c : ℕ) → AreCycles first live cycles → AreSpans 0 (spans_after c cycles)
spans-rise first live [] c h = absurd h
spans-rise first live (x ∷ []) zero h = let e : spans_of x.mark ≡ [] = ap spans_of h in rw e tt
spans-rise first live (x ∷ []) (suc c) h = tt
spans-rise first live (x ∷ y ∷ cycles) zero h =
    let parts = mark-parts (Fits first live x (y ∷ cycles)) x.mark h in
    let e : spans_of x.mark ≡ parts.0.marks = ap spans_of parts.1 in
    rw e parts.2.2
spans-rise first live (x ∷ y ∷ cycles) (suc c) h =
    let parts = mark-parts (Fits first live x (y ∷ cycles)) x.mark h in
    spans-rise (first + length x.events) (IsMarked parts.0.marks) (y ∷ cycles) c parts.2.4

-- an object was live as cycle c began
abbrev Before : (ℕ → Type 0) → List Cycle → ℕ → ℕ → Type 0
Before live cycles zero i = live i
Before live cycles (suc c) i = IsMarked (spans_after c cycles) i

-- what is marked as a cycle ends was live as it began, or is of the cycle
was-live : (first : ℕ) (live : ℕ → Type 0) (cycles : List Cycle) (c i : ℕ) → AreCycles first live cycles → IsMarked (spans_after c cycles) i
    → Before live cycles c i ⊎ ((first + before cycles c ≤ i) × (i < first + before cycles (suc c)))
was-live first live [] c i h on = absurd h
was-live first live (x ∷ []) zero i h on = let e : spans_of x.mark ≡ [] = ap spans_of h in absurd (rw e at on)
was-live first live (x ∷ []) (suc c) i h on = absurd on
was-live first live (x ∷ y ∷ cycles) zero i h on =
    let parts = mark-parts (Fits first live x (y ∷ cycles)) x.mark h in
    let e : spans_of x.mark ≡ parts.0.marks = ap spans_of parts.1 in
    let one : before (x ∷ y ∷ cycles) 1 ≡ length x.events = length-append x.events [] ∙ omega arith in
    elim (parts.2.3 i (rw e at on)) [ inl old ↦ inl old | inr new ↦ (let low = new.0 in let high = new.1 in inr (omega arith, omega arith)) ]
was-live first live (x ∷ y ∷ cycles) (suc c) i h on =
    let parts = mark-parts (Fits first live x (y ∷ cycles)) x.mark h in
    let e : spans_of x.mark ≡ parts.0.marks = ap spans_of parts.1 in
    let front : (n : ℕ) → before (x ∷ y ∷ cycles) (suc n) ≡ length x.events + before (y ∷ cycles) n = λ n. length-append x.events (flat_map (λ (z : Cycle). z.events) (take n (y ∷ cycles))) in
    let f0 = front c in
    let f1 = front (suc c) in
    elim (was-live (first + length x.events) (IsMarked parts.0.marks) (y ∷ cycles) c i parts.2.4 on) [
      | inl old ↦ inl (carry x (y ∷ cycles) parts.0.marks c i e old)
      | inr new ↦ (let low = new.0 in let high = new.1 in inr (omega arith, omega arith))
    ]
  where
    carry : (x : Cycle) (cycles : List Cycle) (marks : List Span) (c i : ℕ) → spans_of x.mark ≡ marks → Before (IsMarked marks) cycles c i → Before (IsMarked []) (x ∷ cycles) (suc c) i
    carry x cycles marks zero i e old = rw e old
    carry x cycles marks (suc c) i e old = old

-- ---- the marks of a trace

pub marks-within : (t : Trace) (m i : ℕ) → marked_by t m i ≡ is_within (marks_at t m) i
marks-within t zero i = refl
marks-within t (suc m) i = refl

pub marks-rise : (t : Trace) (m : ℕ) → AreCycles 0 (λ _. ⊥) t.cycles → AreSpans 0 (marks_at t m)
marks-rise t zero h = tt
marks-rise t (suc m) h = spans-rise 0 (λ _. ⊥) t.cycles m h

-- an object that a mark end marks is of the cycle before it, or was marked by the mark end before
pub marked-may : (t : Trace) (c i : ℕ) → AreCycles 0 (λ _. ⊥) t.cycles → marked_by t (suc c) i ≡ true
    → (marked_by t c i ≡ true) ⊎ ((objects_before t c ≤ i) × (i < objects_before t (suc c)))
marked-may t c i h on =
    elim (was-live 0 (λ _. ⊥) t.cycles c i h (marked-within (spans_after c t.cycles) i on)) [
      | inl old ↦ inl (earlier t c i old)
      | inr new ↦ (let low = new.0 in let high = new.1 in inr (omega arith, omega arith))
    ]
  where
    earlier : (t : Trace) (c i : ℕ) → Before (λ _. ⊥) t.cycles c i → marked_by t c i ≡ true
    earlier t zero i old = absurd old
    earlier t (suc c) i old = within-marked (spans_after c t.cycles) i old

pub marked-early : (t : Trace) (m i : ℕ) → AreCycles 0 (λ _. ⊥) t.cycles → marked_by t m i ≡ true → i < objects_before t m
marked-early t zero i h on = cc
marked-early t (suc c) i h on =
    elim (marked-may t c i h on) [
      | inl old ↦ (
          let early = marked-early t c i h old in
          let rise = before-rise t c (suc c) (omega arith) in
          omega arith)
      | inr new ↦ new.1
    ]

pub marked-lived : (t : Trace) (m i : ℕ) → AreCycles 0 (λ _. ⊥) t.cycles → marked_by t m i ≡ true → LivedBefore t m i
marked-lived t zero i h on = cc
marked-lived t (suc c) i h on =
    let e : suc c - 1 ≡ c = omega arith in
    rw e (elim (marked-may t c i h on) [ inl old ↦ inr old | inr new ↦ inl new.0 ])

-- a span of the list marks each object from its begin to its end
pub within-at : (from : ℕ) (ss : List Span) (k i : ℕ) (d : Span) → AreSpans from ss → k < length ss → (get_or ss k d).lo ≤ i → i ≤ (get_or ss k d).hi → is_within ss i ≡ true
within-at from [] k i d h lt low high = absurd (omega arith)
within-at from (s ∷ ss) zero i d h lt low high = within-first s ss i low high
within-at from (s ∷ ss) (suc k) i d h lt low high = or_right (leb s.lo i && leb i s.hi) (is_within ss i) (within-at (s.hi + 1) ss k i d h.3 (omega arith) low high)
