-- Lines that nothing is wrong with are within the limits.
use Rattle.std.proofs.Common.{◌≡◌, ◌⊎◌, ℕ, zero, suc, ◌+◌, ◌-◌, ◌^◌, ◌<◌, ◌≤◌, ◌==◌, Bool, true, false, not, ◌&&◌, ◌||◌, List, [], ◌∷◌, ◌++◌, length, map, Option, Some, None, find, nat_lt, nat_le, sum_by, refl, sym, ap, ◌∙◌, subst, inl, inr, arith, length-append}
use Rattle.std.specs.List.{AllByRecursion, flat_map, range_with_len}
use Rattle.std.specs.Option.{option_map}
use Rattle.std.proofs.lemmas.Bool.{cases_lt, cases_Bool}
use Rattle.std.proofs.lemmas.Bool.Decides.{nat_tests}
use Rattle.std.proofs.lemmas.List.Sums.{sum_by-cons}
use Rattle.edge_io.specs.declared.lines.Lines.{Lines}
use Rattle.trace_reader.specs.declared.fault.Which.{Which}
use Rattle.trace_reader.specs.declared.fault.Which.TheVariants.{Proc, Size, Stack, Distance, Id, Objects, MarkEnds, Marks}
use Rattle.trace_reader.specs.declared.fault.TraceFault.{TraceFault}
use Rattle.trace_reader.specs.declared.fault.TraceFault.TheVariants.{Malformed, Limit, BadMark}
use Rattle.trace_reader.specs.declared.statement.Statement.{Statement}
use Rattle.trace_reader.specs.declared.statement.Statement.TheVariants.{Title, Gc, Mark, End}
use Rattle.trace_reader.specs.declared.trace.Trace.{Trace}
use Rattle.trace_reader.specs.declared.trace.Header.{Header}
use Rattle.trace_reader.specs.declared.trace.Cycle.{Cycle}
use Rattle.trace_reader.specs.declared.trace.Event.{Event}
use Rattle.trace_reader.specs.declared.trace.MarkEnd.{MarkEnd}
use Rattle.trace_reader.specs.declared.span.Span.{Span}
use Rattle.trace_reader.specs.Spelling.{alloc_of, cycle_statements, heap_of, mark_of, mark_statements, spelled, statements_of}
use Rattle.trace_reader.specs.Rising.{AreSpans}
use Rattle.trace_reader.specs.Limits.{AreCycles, EventFits, HeaderFits, IsMarked, RegionFits, WithinLimits, marked_by}
use Rattle.trace_reader.specs.Past.{before_mark_end, is_live, is_marked, mark_ends_of, marks_of, objects_of, procs_of}
use Rattle.trace_reader.specs.Checks.{bad_mark, counts_within, may_begin, may_follow, numbers_within, passed, within}
use Rattle.trace_reader.specs.Refusal.{fault_if, first_of}
use Rattle.trace_reader.specs.Good.{AreGood, IsGood}
use Rattle.trace_reader.specs.Taken.{TakesLines}
use Rattle.trace_reader.specs.Draft.{AreEnded}
use Rattle.trace_reader.specs.Follows.{begins}
use Rattle.trace_reader.specs.Read.{Reads}
use Rattle.trace_reader.proofs.Judging.{onto}
use Rattle.trace_reader.proofs.Reading.{TakesLines-trans}
use Rattle.trace_reader.proofs.Cycles.{Counts, after_alloc, after_allocs, after_gc, after_marks, onto-append}

-- Tests

pub le_of : (a b : ℕ) → nat_le a b ≡ true → a ≤ b
le_of a b e = grind (arith, nat_tests)

pub lt_of : (a b : ℕ) → nat_lt a b ≡ true → a < b
lt_of a b e = grind (arith, nat_tests)

eq_of : (a b : ℕ) → (a == b) ≡ true → a ≡ b
eq_of a b e = grind (arith, nat_tests)

pub and_parts : (a b : Bool) → (a && b) ≡ true → (a ≡ true) × (b ≡ true)
and_parts true b e = (refl, e)
and_parts false b e = absurd cc

or_parts : (a b : Bool) → (a || b) ≡ true → (a ≡ true) ⊎ (b ≡ true)
or_parts true b e = inl refl
or_parts false b e = inr e

not_false : (b : Bool) → not b ≡ false → b ≡ true
not_false true e = refl
not_false false e = absurd cc

-- What a statement without a fault has

all_none : (a b c d : Option TraceFault) → first_of (a ∷ b ∷ c ∷ d ∷ []) ≡ None → (a ≡ None) × (b ≡ None) × (c ≡ None) × (d ≡ None)
all_none (Some x) b c d f = absurd cc
all_none None (Some x) c d f = absurd cc
all_none None None (Some x) d f = absurd cc
all_none None None None (Some x) f = absurd cc
all_none None None None None f = (refl, refl, refl, refl)

pub if_none : (b : Bool) (fault : TraceFault) → fault_if (not b) fault ≡ None → b ≡ true
if_none true fault e = refl
if_none false fault e = absurd cc

which_none : (n : ℕ) (o : Option Which) → option_map (λ which. Limit n which) o ≡ None → o ≡ None
which_none n None e = refl
which_none n (Some which) e = absurd cc

mark_none : (n : ℕ) (o : Option ℕ) → option_map (λ i. BadMark n i) o ≡ None → o ≡ None
mark_none n None e = refl
mark_none n (Some i) e = absurd cc

pub passes : (which : Which) (test : Bool) (rest : List (Which × Bool)) → passed ((which, test) ∷ rest) ≡ None → (test ≡ true) × (passed rest ≡ None)
passes which true rest e = (refl, e)
passes which false rest e = absurd cc

pub record IsSound (past : List Statement) (s : Statement) : Type 0 where
  pub follows : may_follow past s ≡ true
  pub low : passed (numbers_within past s) ≡ None
  pub few : passed (counts_within past s) ≡ None
  pub live : bad_mark past s ≡ None

pub sound : (past : List Statement) (s : Statement) → IsGood past s → IsSound past s
sound past s good =
    let all = all_none _ _ _ _ (good.no_fault 0) in
    record { follows = if_none (may_follow past s) (Malformed 0) all.0; low = which_none 0 _ all.1; few = which_none 0 _ all.2; live = mark_none 0 _ all.3 }

good_front : (past ss ts : List Statement) → AreGood past (ss ++ ts) → AreGood past ss × AreGood (onto ss past) ts
good_front past [] ts good = (tt, good)
good_front past (s ∷ ss) ts good = let more = good_front (s ∷ past) ss ts good.1 in ((good.0, more.0), more.1)

-- Events

events_fit : (past : List Statement) (procs objects ends marks : ℕ) (es : List Event) → Counts past procs objects ends marks → objects ≤ 1000000 → AreGood past (map alloc_of es)
    → AllByRecursion (EventFits procs) es × (objects + length es ≤ 1000000)
events_fit past procs objects ends marks [] counts few good = (tt, omega arith)
events_fit past procs objects ends marks (e ∷ es) counts few good =
    let is = sound past (alloc_of e) good.0 in
    let p1 = passes Proc (nat_lt e.proc (procs_of past)) ((Size, nat_le e.size (2 ^ 40)) ∷ (Stack, nat_le e.stack 999999) ∷ []) is.low in
    let p2 = passes Size (nat_le e.size (2 ^ 40)) ((Stack, nat_le e.stack 999999) ∷ []) p1.1 in
    let p3 = passes Stack (nat_le e.stack 999999) [] p2.1 in
    let c1 = passes Objects (nat_lt (objects_of past) 1000000) [] is.few in
    let proc : e.proc < procs = subst (λ (k : ℕ). e.proc < k) counts.procs_are (lt_of _ _ p1.0) in
    let room : objects < 1000000 = subst (λ (k : ℕ). k < 1000000) counts.objects_are (lt_of _ _ c1.0) in
    let more = events_fit (alloc_of e ∷ past) procs (objects + 1) ends marks es (after_alloc past procs objects ends marks e counts) (omega arith) good.1 in
    let sum = more.1 in
    ((record { proc = proc; size = le_of _ _ p2.0; stack = le_of _ _ p3.0 }, more.0), omega arith)

-- what is live behind events was so before, or is one of theirs
abbrev OnlyLive : List Statement → (ℕ → Type 0) → Type 0
OnlyLive past live = (i : ℕ) → is_live past i ≡ true → live i

events_live : (es : List Event) (past : List Statement) (first : ℕ) (live : ℕ → Type 0) → objects_of past ≡ first → OnlyLive past live
    → OnlyLive (onto (map alloc_of es) past) (λ i. live i ⊎ ((first ≤ i) × (i < first + length es)))
events_live [] past first live count only = λ i is. inl (only i is)
events_live (e ∷ es) past first live count only = λ i is.
    moved i (events_live es (alloc_of e ∷ past) (first + 1) (λ i. live i ⊎ (i ≡ first)) (ap (λ (k : ℕ). k + 1) count) one_more i is) where
      one_more : OnlyLive (alloc_of e ∷ past) (λ i. live i ⊎ (i ≡ first))
      one_more i is = elim (or_parts (i == objects_of past) (is_live past i) is) [ inl here ↦ inr (eq_of i (objects_of past) here ∙ count) | inr before ↦ inl (only i before) ]

      moved : (i : ℕ) → (live i ⊎ (i ≡ first)) ⊎ ((first + 1 ≤ i) × (i < first + 1 + length es)) → live i ⊎ ((first ≤ i) × (i < first + length (e ∷ es)))
      moved i (inl old) = elim old [ inl before ↦ inl before | inr here ↦ inr (omega arith, omega arith) ]
      moved i (inr new) = inr (omega (arith, new.0), omega (arith, new.1))

-- Marks

none_found : (p : ℕ → Bool) (a n : ℕ) → find p (range_with_len a n) ≡ None → (i : ℕ) → a ≤ i → i < a + n → p i ≡ false
none_found p a zero e i low high = absurd (omega arith)
none_found p a (suc n) e i low high = elim (cases_Bool (p a)) [
  | inl here ↦ (let f : Some a ≡ None = sym (found here) ∙ e in absurd cc)
  | inr apart ↦ elim (cases_lt a i) [
    | inl less ↦ none_found p (a + 1) n (sym (skipped apart) ∙ e) i (omega arith) (omega arith)
    | inr ge ↦ (let same : i ≡ a = omega arith in subst (λ (k : ℕ). p k ≡ false) (sym same) apart)
  ]
] where
  found : p a ≡ true → find p (range_with_len a (suc n)) ≡ Some a
  found here = rw here refl

  skipped : p a ≡ false → find p (range_with_len a (suc n)) ≡ find p (range_with_len (a + 1) n)
  skipped apart = rw apart refl

mark_follows : (past : List Statement) (lo hi : ℕ) → may_follow past (Mark lo hi) ≡ true → (lo ≤ hi) × (begins past lo ≡ true)
mark_follows [] lo hi e = absurd cc
mark_follows (a ∷ []) lo hi e = absurd cc
mark_follows (a ∷ b ∷ past) lo hi e = let parts = and_parts (nat_le lo hi) (may_begin a lo) e in (le_of lo hi parts.0, parts.1)

-- marks stand behind these lines, from this object on
record AreBehind (past ended : List Statement) (marks from : ℕ) : Type 0 where
  before : before_mark_end past ≡ ended
  marks_are : marks_of past ≡ marks
  begin : (lo : ℕ) → begins past lo ≡ true → from ≤ lo

marks_fit : (past ended : List Statement) (marks from : ℕ) (ss : List Span) → AreBehind past ended marks from → marks ≤ 20000000 → AreGood past (map mark_of ss)
    → AreSpans from ss × (marks + sum_by (λ s. s.hi + 1 - s.lo) ss ≤ 20000000) × ((i : ℕ) → IsMarked ss i → is_live ended i ≡ true)
marks_fit past ended marks from [] behind few good = (tt, omega arith, λ i none. absurd none)
marks_fit past ended marks from (s ∷ ss) behind few good =
    let is = sound past (mark_of s) good.0 in
    let follows = mark_follows past s.lo s.hi is.follows in
    let rising = follows.0 in
    let p1 = passes Id (nat_le s.lo 999999) ((Id, nat_le s.hi 999999) ∷ []) is.low in
    let p2 = passes Id (nat_le s.hi 999999) [] p1.1 in
    let c1 = passes Marks (nat_le (marks_of past + (s.hi + 1 - s.lo)) 20000000) [] is.few in
    let count : marks + (s.hi + 1 - s.lo) ≤ 20000000 = subst (λ (k : ℕ). k + (s.hi + 1 - s.lo) ≤ 20000000) behind.marks_are (le_of _ _ c1.0) in
    let here : (i : ℕ) → s.lo ≤ i → i ≤ s.hi → is_live ended i ≡ true = λ i low high.
    subst (λ (lines : List Statement). is_live lines i ≡ true) behind.before (not_false (is_live (before_mark_end past) i) (none_found _ s.lo (s.hi + 1 - s.lo) is.live i low (omega arith))) in
    let more = marks_fit (mark_of s ∷ past) ended (marks + (s.hi + 1 - s.lo)) (s.hi + 1) ss
    (record { before = behind.before; marks_are = ap (λ (k : ℕ). k + (s.hi + 1 - s.lo)) behind.marks_are; begin = λ lo e. let less = lt_of s.hi lo e in omega arith }) count good.1 in
    let cons = sum_by-cons (λ (t : Span). t.hi + 1 - t.lo) s ss in
    let sum = more.1 in (
      (behind.begin s.lo follows.1, rising, le_of _ _ p2.0, more.0),
      omega arith,
      λ i one. elim one [ inl now ↦ here i now.0 now.1 | inr after ↦ more.2 i after ],
    )

marks_live : (ss : List Span) (s : Statement) (past : List Statement) (i : ℕ) → ((rest : List Statement) → is_live (s ∷ rest) i ≡ is_marked (s ∷ rest) i) → is_live (onto (map mark_of ss) (s ∷ past)) i ≡ true
    → IsMarked ss i ⊎ (is_marked (s ∷ past) i ≡ true)
marks_live [] s past i same is = inr (sym (same past) ∙ is)
marks_live (t ∷ ts) s past i same is = elim (marks_live ts (mark_of t) (s ∷ past) i (λ rest. refl) is) [
  | inl after ↦ inl (inr after)
  | inr now ↦ elim (or_parts (nat_le t.lo i && nat_le i t.hi) (is_marked (s ∷ past) i) now) [
    | inl here ↦ (let parts = and_parts (nat_le t.lo i) (nat_le i t.hi) here in inl (inl (le_of t.lo i parts.0, le_of i t.hi parts.1)))
    | inr before ↦ inr before
  ]
]

-- Cycles

-- the limits of cycles behind so many objects, mark ends and marks
record AreWithin (procs first ends marks : ℕ) (live : ℕ → Type 0) (cs : List Cycle) : Type 0 where
  cycles : AreCycles first live cs
  events : AllByRecursion (EventFits procs) (flat_map (λ c. c.events) cs)
  objects : first + length (flat_map (λ c. c.events) cs) ≤ 1000000
  mark_ends : ends + length cs ≤ 10001
  marked : marks + sum_by (λ c. marked_by c.mark) cs ≤ 20000000

all_append : {X : Type 0} (P : X → Type 0) (xs ys : List X) → AllByRecursion P xs → AllByRecursion P ys → AllByRecursion P (xs ++ ys)
all_append P [] ys all more = more
all_append P (x ∷ xs) ys all more = (all.0, all_append P xs ys all.1 more)

last_fits : (past : List Statement) (procs first ends marks : ℕ) (live : ℕ → Type 0) (c : Cycle) → c.mark ≡ None → Counts past procs first ends marks → first ≤ 1000000 → ends ≤ 10000 → marks ≤ 20000000
    → AreGood past (flat_map cycle_statements (c ∷ [])) → AreWithin procs first ends marks live (c ∷ [])
last_fits past procs first ends marks live c e counts few rare sparse good =
    let allocs = map alloc_of c.events in
    let good1 = (good_front past allocs (mark_statements c.mark) (good_front past (cycle_statements c) [] good).0).0 in
    let fit = events_fit past procs first ends marks c.events counts few good1 in
    let len = length-append c.events [] in
    let sum = fit.1 in
    let none : marked_by c.mark ≡ 0 = ap marked_by e in
    let cons = sum_by-cons (λ (c : Cycle). marked_by c.mark) c [] in
    record { cycles = e; events = all_append (EventFits procs) c.events [] fit.0 tt; objects = omega arith; mark_ends = omega arith; marked = omega arith }

-- a cycle with its mark end
record IsWithin (past : List Statement) (procs first ends marks : ℕ) (live : ℕ → Type 0) (es : List Event) (m : MarkEnd) : Type 0 where
  events : AllByRecursion (EventFits procs) es
  objects : first + length es ≤ 1000000
  distance : (1 ≤ m.distance) × (m.distance ≤ 2 ^ 40)
  spans : AreSpans 0 m.marks
  marked : (i : ℕ) → IsMarked m.marks i → live i ⊎ ((first ≤ i) × (i < first + length es))
  few : marks + marked_by (Some m) ≤ 20000000
  rare : ends < 10000
  counts : Counts (onto (map alloc_of es ++ mark_statements (Some m)) past) procs (first + length es) (ends + 1) (marks + marked_by (Some m))
  only : OnlyLive (onto (map alloc_of es ++ mark_statements (Some m)) past) (IsMarked m.marks)

cycle_fits : (past : List Statement) (procs first ends marks : ℕ) (live : ℕ → Type 0) (es : List Event) (m : MarkEnd) → Counts past procs first ends marks → OnlyLive past live → first ≤ 1000000 → marks ≤ 20000000
    → AreGood past (map alloc_of es ++ mark_statements (Some m)) → IsWithin past procs first ends marks live es m
cycle_fits past procs first ends marks live es m counts only few sparse good =
    let allocs = map alloc_of es in
    let past1 = onto allocs past in
    let gc = Gc m.distance in
    let parts = good_front past allocs (mark_statements (Some m)) good in
    let fit = events_fit past procs first ends marks es counts few parts.0 in
    let counts1 = after_allocs past procs first ends marks es counts in
    let is = sound past1 gc parts.1.0 in
    let p1 = passes Distance (within 1 (2 ^ 40) m.distance) [] is.low in
    let far = and_parts (nat_le 1 m.distance) (nat_le m.distance (2 ^ 40)) p1.0 in
    let c1 = passes MarkEnds (nat_lt (mark_ends_of past1) 10000) [] is.few in
    let rare : ends < 10000 = subst (λ (k : ℕ). k < 10000) counts1.ends_are (lt_of _ _ c1.0) in
    let behind : AreBehind (gc ∷ past1) past1 marks 0 = record { before = refl; marks_are = counts1.marks_are; begin = λ lo e. omega arith } in
    let spans = marks_fit (gc ∷ past1) past1 marks 0 m.marks behind sparse parts.1.1 in
    let marking = after_gc past1 procs (first + length es) ends marks m.distance counts1 in
    let counts2 = after_marks (gc ∷ past1) past1 procs (first + length es) (ends + 1) marks 0 m.marks marking in
    let live1 = events_live es past first live counts.objects_are only in
    let joined = onto-append allocs (mark_statements (Some m)) past in
    record {
      events = fit.0;
      objects = fit.1;
      distance = (le_of _ _ far.0, le_of _ _ far.1);
      spans = spans.0;
      marked = λ i one. live1 i (spans.2 i one);
      few = spans.1;
      rare = rare;
      counts = subst (λ (lines : List Statement). Counts lines procs (first + length es) (ends + 1) (marks + marked_by (Some m))) (sym joined) counts2;
      only = subst (λ (lines : List Statement). OnlyLive lines (IsMarked m.marks)) (sym joined) (λ i is. elim (marks_live m.marks gc past1 i (λ rest. refl) is) [ inl one ↦ one | inr none ↦ absurd cc ]);
    }

abbrev CyclesFit : ℕ → List Cycle → Type 1
CyclesFit procs cs = (past : List Statement) (first ends marks : ℕ) (live : ℕ → Type 0) → AreEnded cs → Counts past procs first ends marks → OnlyLive past live
    → first ≤ 1000000 → ends ≤ 10000 → marks ≤ 20000000 → AreGood past (flat_map cycle_statements cs) → AreWithin procs first ends marks live cs

cycle_step : (procs : ℕ) (c d : Cycle) (cs : List Cycle) → CyclesFit procs (d ∷ cs) → CyclesFit procs (c ∷ d ∷ cs)
cycle_step procs c d cs later_cycles past first ends marks live ended counts only few rare sparse good = at c.mark refl where
  cycles_at : (m : MarkEnd) → c.mark ≡ Some m → (1 ≤ m.distance) × (m.distance ≤ 2 ^ 40) × AreSpans 0 m.marks × ((i : ℕ) → IsMarked m.marks i → live i ⊎ ((first ≤ i) × (i < first + length c.events)))
      × AreCycles (first + length c.events) (IsMarked m.marks) (d ∷ cs) → AreCycles first live (c ∷ d ∷ cs)
  cycles_at m e all = rw e all

  at : (mark : Option MarkEnd) → c.mark ≡ mark → AreWithin procs first ends marks live (c ∷ d ∷ cs)
  at None e = absurd (ended.0 e)
  at (Some m) e =
      let rest = flat_map cycle_statements (d ∷ cs) in
      let same : cycle_statements c ≡ map alloc_of c.events ++ mark_statements (Some m) = ap (λ (m : Option MarkEnd). map alloc_of c.events ++ mark_statements m) e in
      let parts = good_front past (map alloc_of c.events ++ mark_statements (Some m)) rest (subst (λ (ss : List Statement). AreGood past (ss ++ rest)) same good) in
      let here = cycle_fits past procs first ends marks live c.events m counts only few sparse parts.0 in
      let room = here.objects in
      let seldom = here.rare in
      let thin = here.few in
      let more = later_cycles (onto (map alloc_of c.events ++ mark_statements (Some m)) past) (first + length c.events) (ends + 1) (marks + marked_by (Some m)) (IsMarked m.marks) ended.1 here.counts here.only
      room (omega arith) thin parts.1 in
      let events = flat_map (λ (c : Cycle). c.events) (d ∷ cs) in
      let len = length-append c.events events in
      let cons = sum_by-cons (λ (c : Cycle). marked_by c.mark) c (d ∷ cs) in
      let marked : marked_by c.mark ≡ marked_by (Some m) = ap marked_by e in
      let objects = more.objects in
      let mark_ends = more.mark_ends in
      let sum = more.marked in
      record {
        cycles = cycles_at m e (here.distance.0, here.distance.1, here.spans, here.marked, more.cycles);
        events = all_append (EventFits procs) c.events events here.events more.events;
        objects = omega arith;
        mark_ends = omega arith;
        marked = omega arith;
      }

cycles_fit : (procs : ℕ) (cs : List Cycle) → CyclesFit procs cs
cycles_fit procs [] past first ends marks live ended counts only few rare sparse good = absurd ended
cycles_fit procs (c ∷ []) past first ends marks live ended counts only few rare sparse good = last_fits past procs first ends marks live c ended counts few rare sparse good
cycles_fit procs (c ∷ d ∷ cs) past first ends marks live ended counts only few rare sparse good =
    cycle_step procs c d cs (λ past first ends marks live ended counts only few rare sparse good. cycles_fit procs (d ∷ cs) past first ends marks live ended counts only few rare sparse good)
    past first ends marks live ended counts only few rare sparse good

-- A trace

abbrev pub trace_of : Header → List Cycle → Trace
trace_of h cs = record { header = h; cycles = cs }

pub trace_fits : (h : Header) (cs : List Cycle) → HeaderFits h → RegionFits h → AreEnded cs → AreGood (heap_of h ∷ Title h.version ∷ []) (flat_map cycle_statements cs) → WithinLimits (trace_of h cs)
trace_fits h cs fits region ended good =
    let all = cycles_fit h.procs cs (heap_of h ∷ Title h.version ∷ []) 0 0 0 (λ _. ⊥) ended (record { body = tt; procs_are = refl; objects_are = refl; ends_are = refl; marks_are = refl }) (λ i is. absurd cc)
    (omega arith) (omega arith) (omega arith) good in
    let objects = all.objects in
    let mark_ends = all.mark_ends in
    let marked = all.marked in
    record { header = fits; region = region; events = all.events; cycles = all.cycles; objects = omega arith; mark_ends = omega arith; marks = omega arith }

pub takes_trace : {S : Type 0} (left : S → Option (List ℕ)) (a b c d : Lines S) (h : Header) (cs : List Cycle)
    → TakesLines left a b (Title h.version ∷ []) → TakesLines left b c (heap_of h ∷ []) → TakesLines left c d (flat_map cycle_statements cs ++ End ∷ []) → TakesLines left a d (statements_of (trace_of h cs))
takes_trace left a b c d h cs first second rest =
    TakesLines-trans left a b d (Title h.version ∷ []) (heap_of h ∷ (flat_map cycle_statements cs ++ End ∷ [])) first (TakesLines-trans left b c d (heap_of h ∷ []) (flat_map cycle_statements cs ++ End ∷ []) second rest)

pub reads_trace : {S : Type 0} (left : S → Option (List ℕ)) (a d : Lines S) (h : Header) (cs : List Cycle) → TakesLines left a d (statements_of (trace_of h cs))
    → WithinLimits (trace_of h cs) → Reads left a d (trace_of h cs)
reads_trace left a d h cs takes limits =
    let room = takes.bytes.room in (
      spelled (statements_of (trace_of h cs)),
      takes.bytes.taken,
      record { lines = refl; limits = limits; room = omega arith },
    )
