-- A base is within the limits of traces.
use Rattle.std.proofs.Common.{◌≡◌, ℕ, suc, ◌+◌, ◌^◌, ◌<◌, ◌≤◌, true, ◌&&◌, leb, List, [], ◌∷◌, ◌++◌, length, Option, Some, None, MatchOption, refl, sym, ◌∙◌, ap, subst, arith, ◌⊎◌, inl, inr, length-append}
use Rattle.std.specs.List.{AllByRecursion, flat_map}
use Rattle.std.proofs.lemmas.Bool.{or_cases, or_left, or_right}
use Rattle.trace_reader.specs.declared.span.Span.{Span}
use Rattle.trace_reader.specs.Rising.{AreSpans}
use Rattle.trace_reader.specs.declared.trace.Trace.{Trace}
use Rattle.trace_reader.specs.declared.trace.Header.{Header}
use Rattle.trace_reader.specs.declared.trace.Cycle.{Cycle}
use Rattle.trace_reader.specs.declared.trace.Event.{Event}
use Rattle.trace_reader.specs.declared.trace.MarkEnd.{MarkEnd}
use Rattle.trace_reader.specs.Limits.{AreCycles, EventFits, HeaderFits, IsMarked, events_of}
use Rattle.cycle_history.specs.declared.Answer.{Answer}
use Rattle.cycle_history.specs.Requests.{is_within}
use Rattle.cycle_history.specs.Before.{IsLimited}
use Rattle.tiny_alloc.specs.declared.base.Based.{Based}
use Rattle.tiny_alloc.specs.declared.part.Part.{Part}
use Rattle.tiny_alloc.specs.declared.part.Part.TheVariants.{Other, Lead, Ride}
use Rattle.tiny_alloc.specs.Riders.{object_at, part_at}
use Rattle.tiny_alloc.specs.Base.{as_version_2, based_event, based_events, AreBased, AreBasedMarks, AreSpaced, IsBase, IsBasedEnd}
use Rattle.tiny_alloc.proofs.Leaders.{rider, rider-leader}
use Rattle.tiny_alloc.proofs.Law.{asked-is}
use Rattle.tiny_alloc.proofs.Listed.{events-length}
use Rattle.tiny_alloc.proofs.Spans.{covers-is, is-covers}
use Rattle.tiny_alloc.proofs.Requested.{before, before-first, same-side}

-- ---- spans

spaced-rise : (from low : ℕ) (ss : List Span) → low ≤ from → AreSpaced from ss → AreSpans low ss
spaced-rise from low [] le h = tt
spaced-rise from low (s ∷ ss) le h = ((let a = h.0 in omega arith), h.1, h.2, spaced-rise (s.hi + 2) (s.hi + 1) ss (omega arith) h.3)

marked-within : (ss : List Span) (i : ℕ) → is_within ss i ≡ true → IsMarked ss i
marked-within [] i on = cc
marked-within (s ∷ ss) i on = elim (or_cases (leb s.lo i && leb i s.hi) (is_within ss i) on) [
  | inl here ↦ (let c = covers-is s i here in inl (c.low, c.high))
  | inr there ↦ inr (marked-within ss i there)
]

within-marked : (ss : List Span) (i : ℕ) → IsMarked ss i → is_within ss i ≡ true
within-marked [] i on = absurd on
within-marked (s ∷ ss) i on = elim on [
  | inl here ↦ or_left (leb s.lo i && leb i s.hi) (is_within ss i) (is-covers s i (record { low = here.0; high = here.1 }))
  | inr there ↦ or_right (leb s.lo i && leb i s.hi) (is_within ss i) (within-marked ss i there)
]

-- ---- events

event-fits : (procs : ℕ) (part : Part) (e : Event) → EventFits procs e → EventFits procs (based_event part e)
event-fits procs Other e h = h
event-fits procs Lead e h = record { proc = h.proc; size = omega arith; stack = h.stack }
event-fits procs (Ride lead offset) e h = record { proc = h.proc; size = omega arith; stack = h.stack }

pub all-split : (P : Event → Type 0) (xs ys : List Event) → AllByRecursion P (xs ++ ys) → AllByRecursion P xs × AllByRecursion P ys
all-split P [] ys h = (tt, h)
all-split P (x ∷ xs) ys h = let rest = all-split P xs ys h.1 in ((h.0, rest.0), rest.1)

pub all-append : (P : Event → Type 0) (xs ys : List Event) → AllByRecursion P xs → AllByRecursion P ys → AllByRecursion P (xs ++ ys)
all-append P [] ys a b = b
all-append P (x ∷ xs) ys a b = (a.0, all-append P xs ys a.1 b)

based-fit : (procs : ℕ) (part : ℕ → Part) (n : ℕ) (es : List Event) → AllByRecursion (EventFits procs) es → AllByRecursion (EventFits procs) (based_events part n es)
based-fit procs part n [] h = tt
based-fit procs part n (e ∷ es) h = (event-fits procs (part n) e h.0, based-fit procs part (n + 1) es h.1)

abbrev pub all_events : List Cycle → List Event
all_events cs = flat_map (λ (c : Cycle). c.events) cs

events-fit : (procs : ℕ) (part : ℕ → Part) (n : ℕ) (cs ds : List Cycle) → AreBased part n cs ds → AllByRecursion (EventFits procs) (all_events cs) → AllByRecursion (EventFits procs) (all_events ds)
events-fit procs part n [] [] are h = tt
events-fit procs part n [] (d ∷ ds) are h = absurd are
events-fit procs part n (c ∷ cs) [] are h = absurd are
events-fit procs part n (c ∷ cs) (d ∷ ds) are h =
    let parts = all-split (EventFits procs) c.events (all_events cs) h in
    all-append (EventFits procs) d.events (all_events ds) (subst (λ (es : List Event). AllByRecursion (EventFits procs) es) (sym are.0) (based-fit procs part n c.events parts.0))
    (events-fit procs part (n + length c.events) cs ds are.2 parts.1)

-- ---- as many

pub events-many : (part : ℕ → Part) (n : ℕ) (cs ds : List Cycle) → AreBased part n cs ds → length (all_events ds) ≡ length (all_events cs)
events-many part n [] [] are = refl
events-many part n [] (d ∷ ds) are = absurd are
events-many part n (c ∷ cs) [] are = absurd are
events-many part n (c ∷ cs) (d ∷ ds) are =
    let here : length d.events ≡ length c.events = ap (λ (es : List Event). length es) are.0 ∙ events-length part n c.events in
    let rest = events-many part (n + length c.events) cs ds are.2 in
    let a = length-append c.events (all_events cs) in
    let b = length-append d.events (all_events ds) in
    omega arith

pub cycles-many : (part : ℕ → Part) (n : ℕ) (cs ds : List Cycle) → AreBased part n cs ds → length ds ≡ length cs
cycles-many part n [] [] are = refl
cycles-many part n [] (d ∷ ds) are = absurd are
cycles-many part n (c ∷ cs) [] are = absurd are
cycles-many part n (c ∷ cs) (d ∷ ds) are = ap suc (cycles-many part (n + length c.events) cs ds are.2)

-- ---- mark ends

-- a lead and its rider stand on the same side of each mark end
abbrev pub Near : (ℕ → Part) → ℕ → List Cycle → Type 0
Near part first cs = (r lead offset k : ℕ) → part r ≡ Ride lead offset → (lead < r) × (first + before cs k ≤ r → first + before cs k ≤ lead)

near-next : (part : ℕ → Part) (first : ℕ) (c : Cycle) (cs : List Cycle) → Near part first (c ∷ cs) → Near part (first + length c.events) cs
near-next part first c cs near r lead offset k is =
    let here = near r lead offset (suc k) is in
    let front = before-first c cs k in
    let far = here.1 in
    (here.0, λ le. (let got = far (omega arith) in omega arith))

-- what was live in the trace is live in the base, and so are the leads of riders that were
abbrev Carries : (ℕ → Part) → (ℕ → Type 0) → (ℕ → Type 0) → Type 0
Carries part live based = (i : ℕ) → (live i → based i) × ((r offset : ℕ) → part r ≡ Ride i offset → live r → based i)

kept-carries : (part : ℕ → Part) (marks based : List Span) → AreBasedMarks part marks based → Carries part (IsMarked marks) (IsMarked based)
kept-carries part marks based are i = (
  (λ on. marked-within based i ((are.each i).1 (inl (within-marked marks i on)))),
  (λ r offset is on. marked-within based i ((are.each i).1 (inr (r, offset, is, within-marked marks r on)))),
)

abbrev pub Ends : ℕ → (ℕ → Type 0) → Cycle → List Cycle → MarkEnd → Type 0
Ends first live c cs m = (1 ≤ m.distance) × (m.distance ≤ 2 ^ 40) × AreSpans 0 m.marks
    × ((i : ℕ) → IsMarked m.marks i → live i ⊎ ((first ≤ i) × (i < first + length c.events)))
    × AreCycles (first + length c.events) (IsMarked m.marks) cs

may-mark : (part : ℕ → Part) (first : ℕ) (live based : ℕ → Type 0) (c d : Cycle) (cs : List Cycle) (a b : MarkEnd) → Near part first (c ∷ cs) → Carries part live based
    → length d.events ≡ length c.events → AreBasedMarks part a.marks b.marks → ((i : ℕ) → IsMarked a.marks i → live i ⊎ ((first ≤ i) × (i < first + length c.events)))
    → (i : ℕ) → IsMarked b.marks i → based i ⊎ ((first ≤ i) × (i < first + length d.events))
may-mark part first live based c d cs a b near carries size are may i on =
    elim ((are.each i).0 (within-marked b.marks i on)) [
      | inl own ↦ elim (may i (marked-within a.marks i own)) [
        | inl old ↦ inl ((carries i).0 old)
        | inr new ↦ (let low = new.0 in let high = new.1 in inr (omega arith, omega arith))
      ]
      | inr one ↦ elim (may one.0 (marked-within a.marks one.0 one.3)) [
        | inl old ↦ inl ((carries i).1 one.0 one.1 one.2 old)
        | inr new ↦ (
            let by = near one.0 i one.1 0 one.2 in
            let lt = by.0 in
            let low = new.0 in
            let high = new.1 in
            let from = by.1 (omega arith) in
            inr (omega arith, omega arith))
      ]
    ]

ends-in : (part : ℕ → Part) (first : ℕ) (live based : ℕ → Type 0) (c d : Cycle) (cs ds : List Cycle) (a b : Option MarkEnd) → IsBasedEnd part a b → Near part first (c ∷ cs) → Carries part live based
    → length d.events ≡ length c.events → MatchOption a ⊥ (Ends first live c cs)
    → ((m n : MarkEnd) → AreBasedMarks part m.marks n.marks → AreCycles (first + length c.events) (IsMarked m.marks) cs → AreCycles (first + length d.events) (IsMarked n.marks) ds)
    → MatchOption b ⊥ (Ends first based d ds)
ends-in part first live based c d cs ds None b is near carries size h rest = absurd h
ends-in part first live based c d cs ds (Some a) None is near carries size h rest = absurd is
ends-in part first live based c d cs ds (Some a) (Some b) is near carries size h rest =
    let distance = is.0 in
    let low = h.0 in
    let high = h.1 in
    (subst (λ (x : ℕ). 1 ≤ x) (sym distance) low, subst (λ (x : ℕ). x ≤ 2 ^ 40) (sym distance) high, spaced-rise 0 0 b.marks (omega arith) is.1.spaced, may-mark part first live based c d cs a b near carries size is.1 h.3, rest a b is.1 h.4)

cycles-in : (part : ℕ → Part) (first : ℕ) (live based : ℕ → Type 0) (cs ds : List Cycle) → AreBased part first cs ds → Near part first cs → Carries part live based → AreCycles first live cs → AreCycles first based ds
cycles-in part first live based [] ds are near carries h = absurd h
cycles-in part first live based (c ∷ cs) [] are near carries h = absurd are
cycles-in part first live based (c ∷ []) (d ∷ []) are near carries h = no-end c.mark d.mark are.1 h
  where
    no-end : (a b : Option MarkEnd) → IsBasedEnd part a b → a ≡ None → b ≡ None
    no-end None None is e = refl
    no-end None (Some b) is e = absurd is
    no-end (Some a) b is e = absurd cc
cycles-in part first live based (c ∷ []) (d ∷ e ∷ ds) are near carries h = absurd are.2
cycles-in part first live based (c ∷ x ∷ cs) (d ∷ []) are near carries h = absurd are.2
cycles-in part first live based (c ∷ x ∷ cs) (d ∷ y ∷ ds) are near carries h =
    let size : length d.events ≡ length c.events = ap (λ (es : List Event). length es) are.0 ∙ events-length part first c.events in
    ends-in part first live based c d (x ∷ cs) (y ∷ ds) c.mark d.mark are.1 near carries size h
    (λ m n marks more. subst (λ (k : ℕ). AreCycles (first + k) (IsMarked n.marks) (y ∷ ds)) (sym size)
    (cycles-in part (first + length c.events) (IsMarked m.marks) (IsMarked n.marks) (x ∷ cs) (y ∷ ds) are.2 (near-next part first c (x ∷ cs) near) (kept-carries part m.marks n.marks marks) more))

-- ---- all limits

pub rider-near : (t : Trace) (answers : List Answer) → Near (part_at t answers) 0 t.cycles
rider-near t answers r lead offset k is =
    let known = rider-leader (object_at t answers) r lead offset is in
    let own = rider (object_at t answers) r lead offset is in
    let a = asked-is t answers r own.tiny in
    let b = asked-is t answers lead known.1.tiny in
    (known.0, λ le. (let got = same-side t k r lead a.request b.request a.asked b.asked (sym a.cycle ∙ sym known.1.cycle ∙ b.cycle) (omega arith) in omega arith))

-- a trace of based cycles is within the limits, whatever the parts are, where each rider is near its lead
pub based-limited : (part : ℕ → Part) (t u : Trace) → IsLimited (as_version_2 t) → u.header ≡ (as_version_2 t).header → AreBased part 0 t.cycles u.cycles → Near part 0 t.cycles → IsLimited u
based-limited part t u limited header are near =
    let procs : u.header.procs ≡ t.header.procs = ap (λ (h : Header). h.procs) header in
    let many = events-many part 0 t.cycles u.cycles are in
    let cycles = cycles-many part 0 t.cycles u.cycles are in
    let objects = limited.objects in
    let ends = limited.mark_ends in
    record {
      header = subst HeaderFits (sym header) limited.header;
      events = subst (λ (p : ℕ). AllByRecursion (EventFits p) (events_of u)) (sym procs) (events-fit t.header.procs part 0 t.cycles u.cycles are limited.events);
      cycles = cycles-in part 0 (λ _. ⊥) (λ _. ⊥) t.cycles u.cycles are near (λ i. ((λ none. none), (λ r offset is none. none))) limited.cycles;
      objects = omega arith;
      mark_ends = omega arith;
    }

pub base-limited : (t : Trace) (answers : List Answer) (based : Based) → IsLimited (as_version_2 t) → IsBase t answers based → IsLimited based.trace
base-limited t answers based limited base = based-limited (part_at t answers) t based.trace limited base.header base.cycles (rider-near t answers)

-- a trace within the limits of traces is so as one of version 2, too
pub as-limited : (t : Trace) → IsLimited t → IsLimited (as_version_2 t)
as-limited t limited =
    let h = limited.header in
    record {
      header = record { version = (omega arith, omega arith); chunks = h.chunks; procs = h.procs; rate = h.rate; seed = h.seed; goal = h.goal };
      events = limited.events;
      cycles = limited.cycles;
      objects = limited.objects;
      mark_ends = limited.mark_ends;
    }
