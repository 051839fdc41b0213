-- The lines of every trace are good.
use Rattle.std.proofs.Common.{◌≡◌, ◌≢◌, ◌==◌, ◌⊎◌, ℕ, zero, suc, ◌+◌, ◌-◌, ◌^◌, ◌<◌, ◌≤◌, Bool, true, false, not, ◌&&◌, ◌||◌, List, [], ◌∷◌, ◌++◌, length, map, Option, Some, None, MatchOption, find, nat_le, sum_by, refl, sym, ap, ◌∙◌, subst, inl, inr, arith, length-append}
use Rattle.std.specs.List.{AllByRecursion, flat_map, range_with_len}
use Rattle.std.proofs.lemmas.List.Sums.{sum_by-cons}
use Rattle.std.proofs.lemmas.Bool.Decides.{nat_tests, eqb_tells}
use Rattle.trace_reader.specs.declared.statement.Statement.{Statement}
use Rattle.trace_reader.specs.declared.statement.Statement.TheVariants.{Gc, Mark, End}
use Rattle.trace_reader.specs.declared.trace.Cycle.{Cycle}
use Rattle.trace_reader.specs.declared.trace.Event.{Event}
use Rattle.trace_reader.specs.declared.trace.MarkEnd.{MarkEnd}
use Rattle.trace_reader.specs.declared.span.Span.{Span}
use Rattle.trace_reader.specs.Spelling.{alloc_of, cycle_statements, form_of, mark_of, mark_statements}
use Rattle.trace_reader.specs.Rising.{AreSpans}
use Rattle.trace_reader.proofs.Compare.{at_most, below_true}
use Rattle.trace_reader.specs.Limits.{AreCycles, EventFits, IsMarked, marked_by}
use Rattle.trace_reader.specs.Past.{before_mark_end, is_live, is_marked, mark_ends_of, marks_of, objects_of, procs_of}
use Rattle.trace_reader.specs.Checks.{may_begin, may_follow}
use Rattle.trace_reader.specs.Good.{AreGood, IsGood}
use Rattle.trace_reader.specs.Follows.{IsBody}
use Rattle.trace_reader.proofs.Saying.{Short, both, said_line}
use Rattle.trace_reader.proofs.Judging.{onto}
use Rattle.trace_reader.proofs.Good.{alloc_is_line, fault_none, gc_is_line, mark_is_line, pass, short_event, within_true}

pub body_more : (past : List Statement) (s : Statement) → IsBody past → IsBody (s ∷ past)
body_more [] s body = absurd body
body_more (a ∷ []) s body = absurd body
body_more (a ∷ b ∷ past) s body = tt

-- what the lines before a statement leave to those behind
pub record Counts (past : List Statement) (procs objects ends marks : ℕ) : Type 0 where
  pub body : IsBody past
  pub procs_are : procs_of past ≡ procs
  pub objects_are : objects_of past ≡ objects
  pub ends_are : mark_ends_of past ≡ ends
  pub marks_are : marks_of past ≡ marks

pub follows_any : (past : List Statement) (e : Event) → IsBody past → may_follow past (alloc_of e) ≡ true
follows_any [] e body = absurd body
follows_any (a ∷ []) e body = absurd body
follows_any (a ∷ b ∷ past) e body = refl

pub follows_gc : (past : List Statement) (d : ℕ) → IsBody past → may_follow past (Gc d) ≡ true
follows_gc [] d body = absurd body
follows_gc (a ∷ []) d body = absurd body
follows_gc (a ∷ b ∷ past) d body = refl

pub follows_end : (past : List Statement) → IsBody past → may_follow past End ≡ true
follows_end [] body = absurd body
follows_end (a ∷ []) body = absurd body
follows_end (a ∷ b ∷ past) body = refl

either : (a b : Bool) → (a ≡ true) ⊎ (b ≡ true) → (a || b) ≡ true
either true b e = refl
either false b e = elim e [ inl f ↦ absurd cc | inr f ↦ f ]

-- Events

alloc_good : (past : List Statement) (procs objects ends marks : ℕ) (e : Event) → procs < 2 ^ 32 → Counts past procs objects ends marks → EventFits procs e
    → objects < 1000000 → IsGood past (alloc_of e)
alloc_good past procs objects ends marks e low counts fits few =
    let short = short_event procs e low fits in
    let proc = fits.proc in
    record {
      is_line = alloc_is_line (form_of e) short;
      says = said_line (alloc_of e) short;
      not_end = refl;
      no_fault = fault_none past (alloc_of e) (follows_any past e counts.body)
          (pass _ _ _ (below_true e.proc (procs_of past) (rw counts.procs_are proc)) (pass _ _ _ (at_most e.size (2 ^ 40) fits.size) (pass _ _ _ (at_most e.stack 999999 fits.stack) refl)))
          (pass _ _ _ (below_true (objects_of past) 1000000 (rw counts.objects_are few)) refl) refl;
    }

pub after_alloc : (past : List Statement) (procs objects ends marks : ℕ) (e : Event) → Counts past procs objects ends marks → Counts (alloc_of e ∷ past) procs (objects + 1) ends marks
after_alloc past procs objects ends marks e counts = record {
  body = body_more past (alloc_of e) counts.body;
  procs_are = counts.procs_are;
  objects_are = ap (λ (k : ℕ). k + 1) counts.objects_are;
  ends_are = counts.ends_are;
  marks_are = counts.marks_are;
}

allocs_good : (past : List Statement) (procs objects ends marks : ℕ) (es : List Event) → procs < 2 ^ 32 → Counts past procs objects ends marks → AllByRecursion (EventFits procs) es
    → objects + length es ≤ 1000000 → AreGood past (map alloc_of es)
allocs_good past procs objects ends marks [] low counts fits few = tt
allocs_good past procs objects ends marks (e ∷ es) low counts fits few = (
  alloc_good past procs objects ends marks e low counts fits.0 (omega arith),
  allocs_good (alloc_of e ∷ past) procs (objects + 1) ends marks es low (after_alloc past procs objects ends marks e counts) fits.1 (omega arith),
)

pub after_allocs : (past : List Statement) (procs objects ends marks : ℕ) (es : List Event) → Counts past procs objects ends marks → Counts (onto (map alloc_of es) past) procs (objects + length es) ends marks
after_allocs past procs objects ends marks [] counts = let none : objects ≡ objects + 0 = omega arith in subst (λ (k : ℕ). Counts past procs k ends marks) none counts
after_allocs past procs objects ends marks (e ∷ es) counts =
    let count : objects + 1 + length es ≡ objects + length (e ∷ es) = omega arith in
    subst (λ (k : ℕ). Counts (onto (map alloc_of es) (alloc_of e ∷ past)) procs k ends marks) count
    (after_allocs (alloc_of e ∷ past) procs (objects + 1) ends marks es (after_alloc past procs objects ends marks e counts))

-- these objects are live at the end of the lines
abbrev AllLive : List Statement → (ℕ → Type 0) → Type 0
AllLive past live = (i : ℕ) → live i → is_live past i ≡ true

same_number : (a b : ℕ) → a ≡ b → (a == b) ≡ true
same_number a b e = grind (arith, nat_tests)

live_more : (past : List Statement) (first : ℕ) (e : Event) (live : ℕ → Type 0) → objects_of past ≡ first → AllLive past live → AllLive (alloc_of e ∷ past) (λ i. live i ⊎ (i ≡ first))
live_more past first e live count all = λ i one. either (i == objects_of past) (is_live past i)
    (elim one [ inl old ↦ inr (all i old) | inr new ↦ inl (same_number i (objects_of past) (new ∙ sym count)) ])

in_range : (i first n : ℕ) → first ≤ i → i < first + suc n → (i ≡ first) ⊎ ((first + 1 ≤ i) × (i < first + 1 + n))
in_range i first n low high = elim (eqb_tells i first) [ inl same ↦ inl same.1 | inr other ↦ inr (above other.1, omega arith) ] where
  above : i ≢ first → first + 1 ≤ i
  above apart = grind arith

allocs_live : (es : List Event) (past : List Statement) (first : ℕ) (live : ℕ → Type 0) → objects_of past ≡ first → AllLive past live
    → AllLive (onto (map alloc_of es) past) (λ i. live i ⊎ ((first ≤ i) × (i < first + length es)))
allocs_live [] past first live count all = λ i one. elim one [ inl old ↦ all i old | inr new ↦ absurd (omega (arith, new.0, new.1)) ]
allocs_live (e ∷ es) past first live count all = λ i one.
    allocs_live es (alloc_of e ∷ past) (first + 1) (λ i. live i ⊎ (i ≡ first)) (ap (λ (k : ℕ). k + 1) count) (live_more past first e live count all) i (moved i one) where
      moved : (i : ℕ) → live i ⊎ ((first ≤ i) × (i < first + suc (length es))) → (live i ⊎ (i ≡ first)) ⊎ ((first + 1 ≤ i) × (i < first + 1 + length es))
      moved i (inl old) = inl (inl old)
      moved i (inr new) = elim (in_range i first (length es) new.0 new.1) [ inl here ↦ inl (inr here) | inr later ↦ inr later ]

-- Marks

pub find_none : (p : ℕ → Bool) (a n : ℕ) → ((i : ℕ) → a ≤ i → i < a + n → p i ≡ false) → find p (range_with_len a n) ≡ None
find_none p a zero none = refl
find_none p a (suc n) none =
    let here : p a ≡ false = none a (omega arith) (omega arith) in
    rw here (find_none p (a + 1) n (λ i low high. none i (omega arith) (omega arith)))

-- what a mark needs of the lines before it: they end a mark end behind these lines, and a mark may begin from here
pub record Marking (past ended : List Statement) (procs objects ends marks from : ℕ) : Type 0 where
  pub counts : Counts past procs objects ends marks
  pub before : before_mark_end past ≡ ended
  pub begins : (s : Statement) (rest : List Statement) → past ≡ s ∷ rest → (lo : ℕ) → from ≤ lo → may_begin s lo ≡ true

follows_mark : (past : List Statement) (lo hi : ℕ) → IsBody past → ((s : Statement) (rest : List Statement) → past ≡ s ∷ rest → may_begin s lo ≡ true) → lo ≤ hi → may_follow past (Mark lo hi) ≡ true
follows_mark [] lo hi body begins rising = absurd body
follows_mark (a ∷ []) lo hi body begins rising = absurd body
follows_mark (a ∷ b ∷ past) lo hi body begins rising = both (nat_le lo hi) (may_begin a lo) (at_most lo hi rising) (begins a (b ∷ past) refl)

mark_good : (past ended : List Statement) (procs objects ends marks from : ℕ) (s : Span) → Marking past ended procs objects ends marks from → from ≤ s.lo → s.lo ≤ s.hi → s.hi ≤ 999999
    → marks + (s.hi + 1 - s.lo) ≤ 20000000 → ((i : ℕ) → s.lo ≤ i → i ≤ s.hi → is_live ended i ≡ true) → IsGood past (mark_of s)
mark_good past ended procs objects ends marks from s marking low rising high few live =
    let counts = marking.counts in
    let short : Short (mark_of s) = (omega arith, (omega arith, tt)) in
    record {
      is_line = mark_is_line s.lo s.hi short;
      says = said_line (mark_of s) short;
      not_end = refl;
      no_fault = fault_none past (mark_of s) (follows_mark past s.lo s.hi counts.body (λ t rest e. marking.begins t rest e s.lo low) rising)
          (pass _ _ _ (at_most s.lo 999999 (omega arith)) (pass _ _ _ (at_most s.hi 999999 high) refl))
          (pass _ _ _ (at_most (marks_of past + (s.hi + 1 - s.lo)) 20000000 (rw counts.marks_are few)) refl)
          (find_none (λ i. not (is_live (before_mark_end past) i)) s.lo (s.hi + 1 - s.lo) (λ i least most. ap not (ap (λ (lines : List Statement). is_live lines i) marking.before ∙ live i least (omega arith))));
    }

pub after_mark : (past ended : List Statement) (procs objects ends marks from : ℕ) (s : Span) → Marking past ended procs objects ends marks from
    → Marking (mark_of s ∷ past) ended procs objects ends (marks + (s.hi + 1 - s.lo)) (s.hi + 1)
after_mark past ended procs objects ends marks from s marking = record {
  counts = record {
    body = body_more past (mark_of s) marking.counts.body;
    procs_are = marking.counts.procs_are;
    objects_are = marking.counts.objects_are;
    ends_are = marking.counts.ends_are;
    marks_are = ap (λ (k : ℕ). k + (s.hi + 1 - s.lo)) marking.counts.marks_are;
  };
  before = marking.before;
  begins = λ t rest e lo low. let same : t ≡ mark_of s = cc in rw same (below_true s.hi lo (omega arith));
}

marks_good : (past ended : List Statement) (procs objects ends marks from : ℕ) (ss : List Span) → Marking past ended procs objects ends marks from → AreSpans from ss
    → marks + sum_by (λ s. s.hi + 1 - s.lo) ss ≤ 20000000 → ((i : ℕ) → IsMarked ss i → is_live ended i ≡ true) → AreGood past (map mark_of ss)
marks_good past ended procs objects ends marks from [] marking spans few live = tt
marks_good past ended procs objects ends marks from (s ∷ ss) marking spans few live =
    let cons = sum_by-cons (λ (t : Span). t.hi + 1 - t.lo) s ss in (
      mark_good past ended procs objects ends marks from s marking spans.0 spans.1 spans.2 (omega arith) (λ i low high. live i (inl (low, high))),
      marks_good (mark_of s ∷ past) ended procs objects ends (marks + (s.hi + 1 - s.lo)) (s.hi + 1) ss (after_mark past ended procs objects ends marks from s marking) spans.3 (omega arith) (λ i marked. live i (inr marked)),
    )

pub after_marks : (past ended : List Statement) (procs objects ends marks from : ℕ) (ss : List Span) → Marking past ended procs objects ends marks from
    → Counts (onto (map mark_of ss) past) procs objects ends (marks + sum_by (λ s. s.hi + 1 - s.lo) ss)
after_marks past ended procs objects ends marks from [] marking = let none : marks ≡ marks + 0 = omega arith in subst (λ (k : ℕ). Counts past procs objects ends k) none marking.counts
after_marks past ended procs objects ends marks from (s ∷ ss) marking =
    let cons = sum_by-cons (λ (t : Span). t.hi + 1 - t.lo) s ss in
    let count : marks + (s.hi + 1 - s.lo) + sum_by (λ (t : Span). t.hi + 1 - t.lo) ss ≡ marks + sum_by (λ (t : Span). t.hi + 1 - t.lo) (s ∷ ss) = omega arith in
    subst (λ (k : ℕ). Counts (onto (map mark_of ss) (mark_of s ∷ past)) procs objects ends k) count
    (after_marks (mark_of s ∷ past) ended procs objects ends (marks + (s.hi + 1 - s.lo)) (s.hi + 1) ss (after_mark past ended procs objects ends marks from s marking))

-- the marks of a mark end are what is live behind it
in_span : (s : Span) (i : ℕ) → s.lo ≤ i → i ≤ s.hi → (nat_le s.lo i && nat_le i s.hi) ≡ true
in_span s i low high = both (nat_le s.lo i) (nat_le i s.hi) (at_most s.lo i low) (at_most i s.hi high)

marks_live : (ss : List Span) (s : Statement) (past : List Statement) (marked : ℕ → Type 0) → ((rest : List Statement) (i : ℕ) → is_live (s ∷ rest) i ≡ is_marked (s ∷ rest) i) → ((i : ℕ) → marked i → is_marked (s ∷ past) i ≡ true)
    → AllLive (onto (map mark_of ss) (s ∷ past)) (λ i. marked i ⊎ IsMarked ss i)
marks_live [] s past marked same all = λ i one. same past i ∙ elim one [ inl old ↦ all i old | inr none ↦ absurd none ]
marks_live (t ∷ ts) s past marked same all = λ i one.
    marks_live ts (mark_of t) (s ∷ past) (λ i. marked i ⊎ ((t.lo ≤ i) × (i ≤ t.hi))) (λ rest i. refl)
    (λ i one. either (nat_le t.lo i && nat_le i t.hi) (is_marked (s ∷ past) i) (elim one [ inl old ↦ inr (all i old) | inr new ↦ inl (in_span t i new.0 new.1) ])) i (moved i one) where
      moved : (i : ℕ) → marked i ⊎ (((t.lo ≤ i) × (i ≤ t.hi)) ⊎ IsMarked ts i) → (marked i ⊎ ((t.lo ≤ i) × (i ≤ t.hi))) ⊎ IsMarked ts i
      moved i (inl old) = inl (inl old)
      moved i (inr new) = elim new [ inl here ↦ inl (inr here) | inr later ↦ inr later ]

-- A mark end

gc_good : (past : List Statement) (procs objects ends marks d : ℕ) → Counts past procs objects ends marks → 1 ≤ d → d ≤ 2 ^ 40 → ends < 10000 → IsGood past (Gc d)
gc_good past procs objects ends marks d counts least most few =
    let short : Short (Gc d) = (omega arith, tt) in
    record {
      is_line = gc_is_line d short;
      says = said_line (Gc d) short;
      not_end = refl;
      no_fault = fault_none past (Gc d) (follows_gc past d counts.body) (pass _ _ _ (within_true 1 (2 ^ 40) d least most) refl)
          (pass _ _ _ (below_true (mark_ends_of past) 10000 (rw counts.ends_are few)) refl) refl;
    }

pub after_gc : (past : List Statement) (procs objects ends marks d : ℕ) → Counts past procs objects ends marks → Marking (Gc d ∷ past) past procs objects (ends + 1) marks 0
after_gc past procs objects ends marks d counts = record {
  counts = record {
    body = body_more past (Gc d) counts.body;
    procs_are = counts.procs_are;
    objects_are = counts.objects_are;
    ends_are = ap (λ (k : ℕ). k + 1) counts.ends_are;
    marks_are = counts.marks_are;
  };
  before = refl;
  begins = λ t rest e lo low. let same : t ≡ Gc d = cc in rw same refl;
}

-- Cycles

pub onto-append : (ss ts past : List Statement) → onto (ss ++ ts) past ≡ onto ts (onto ss past)
onto-append [] ts past = refl
onto-append (s ∷ ss) ts past = onto-append ss ts (s ∷ past)

pub good_append : (past ss ts : List Statement) → AreGood past ss → AreGood (onto ss past) ts → AreGood past (ss ++ ts)
good_append past [] ts good more = more
good_append past (s ∷ ss) ts good more = (good.0, good_append (s ∷ past) ss ts good.1 more)

pub all_front : {X : Type 0} (P : X → Type 0) (xs ys : List X) → AllByRecursion P (xs ++ ys) → AllByRecursion P xs
all_front P [] ys all = tt
all_front P (x ∷ xs) ys all = (all.0, all_front P xs ys all.1)

pub all_back : {X : Type 0} (P : X → Type 0) (xs ys : List X) → AllByRecursion P (xs ++ ys) → AllByRecursion P ys
all_back P [] ys all = all
all_back P (x ∷ xs) ys all = all_back P xs ys all.1

pub body_onto : (ss past : List Statement) → IsBody past → IsBody (onto ss past)
body_onto [] past body = body
body_onto (s ∷ ss) past body = body_onto ss (s ∷ past) (body_more past s body)

-- a cycle with its mark end
record CycleDone (past : List Statement) (procs first ends marks : ℕ) (es : List Event) (m : MarkEnd) : Type 0 where
  good : AreGood past (map alloc_of es ++ mark_statements (Some m))
  counts : Counts (onto (map alloc_of es ++ mark_statements (Some m)) past) procs (first + length es) (ends + 1) (marks + marked_by (Some m))
  live : AllLive (onto (map alloc_of es ++ mark_statements (Some m)) past) (IsMarked m.marks)

cycle_done : (past : List Statement) (procs first ends marks : ℕ) (live : ℕ → Type 0) (es : List Event) (m : MarkEnd) → procs < 2 ^ 32 → Counts past procs first ends marks → AllLive past live
    → AllByRecursion (EventFits procs) es → first + length es ≤ 1000000 → ends < 10000 → marks + marked_by (Some m) ≤ 20000000
    → 1 ≤ m.distance → m.distance ≤ 2 ^ 40 → AreSpans 0 m.marks → ((i : ℕ) → IsMarked m.marks i → live i ⊎ ((first ≤ i) × (i < first + length es))) → CycleDone past procs first ends marks es m
cycle_done past procs first ends marks live es m low counts alive fits few rare sparse least most spans marked =
    let allocs = map alloc_of es in
    let past1 = onto allocs past in
    let good1 = allocs_good past procs first ends marks es low counts fits few in
    let counts1 = after_allocs past procs first ends marks es counts in
    let live1 = allocs_live es past first live counts.objects_are alive in
    let gc = gc_good past1 procs (first + length es) ends marks m.distance counts1 least most rare in
    let marking = after_gc past1 procs (first + length es) ends marks m.distance counts1 in
    let good2 = marks_good (Gc m.distance ∷ past1) past1 procs (first + length es) (ends + 1) marks 0 m.marks marking spans sparse (λ i one. live1 i (marked i one)) in
    let counts2 = after_marks (Gc m.distance ∷ past1) past1 procs (first + length es) (ends + 1) marks 0 m.marks marking in
    let live2 = marks_live m.marks (Gc m.distance) past1 (λ _. ⊥) (λ rest i. refl) (λ i none. absurd none) in
    let joined = onto-append allocs (mark_statements (Some m)) past in
    record {
      good = good_append past allocs (mark_statements (Some m)) good1 (gc, good2);
      counts = subst (λ (lines : List Statement). Counts lines procs (first + length es) (ends + 1) (marks + marked_by (Some m))) (sym joined) counts2;
      live = subst (λ (lines : List Statement). AllLive lines (IsMarked m.marks)) (sym joined) (λ i one. live2 i (inr one));
    }

abbrev CyclesGood : ℕ → List Cycle → Type 1
CyclesGood procs cs = (past : List Statement) (first ends marks : ℕ) (live : ℕ → Type 0) → Counts past procs first ends marks → AllLive past live → AreCycles first live cs
    → AllByRecursion (EventFits procs) (flat_map (λ c. c.events) cs) → first + length (flat_map (λ c. c.events) cs) ≤ 1000000 → ends + length cs ≤ 10001
    → marks + sum_by (λ c. marked_by c.mark) cs ≤ 20000000 → AreGood past (flat_map cycle_statements cs)

cycle_last : (procs : ℕ) (c : Cycle) → procs < 2 ^ 32 → CyclesGood procs (c ∷ [])
cycle_last procs c low past first ends marks live counts alive cycles fits few rare sparse =
    let allocs = map alloc_of c.events in
    let len = length-append c.events [] in
    let good1 = allocs_good past procs first ends marks c.events low counts (all_front (EventFits procs) c.events [] fits) (omega arith) in
    let none : AreGood (onto allocs past) (mark_statements c.mark) = subst (λ (m : Option MarkEnd). AreGood (onto allocs past) (mark_statements m)) (sym cycles) tt in
    good_append past (cycle_statements c) [] (good_append past allocs (mark_statements c.mark) good1 none) tt

cycle_step : (procs : ℕ) (c d : Cycle) (cs : List Cycle) → procs < 2 ^ 32 → CyclesGood procs (d ∷ cs) → CyclesGood procs (c ∷ d ∷ cs)
cycle_step procs c d cs low later_cycles past first ends marks live counts alive cycles fits few rare sparse = at c.mark refl where
  at : (mark : Option MarkEnd) → c.mark ≡ mark → AreGood past (flat_map cycle_statements (c ∷ d ∷ cs))
  at None e = absurd (subst (λ (m : Option MarkEnd). MatchOption m ⊥ (λ m. (1 ≤ m.distance) × (m.distance ≤ 2 ^ 40) × AreSpans 0 m.marks
      × ((i : ℕ) → IsMarked m.marks i → live i ⊎ ((first ≤ i) × (i < first + length c.events))) × AreCycles (first + length c.events) (IsMarked m.marks) (d ∷ cs))) e cycles)
  at (Some m) e =
      let here = subst (λ (m : Option MarkEnd). MatchOption m ⊥ (λ m. (1 ≤ m.distance) × (m.distance ≤ 2 ^ 40) × AreSpans 0 m.marks
      × ((i : ℕ) → IsMarked m.marks i → live i ⊎ ((first ≤ i) × (i < first + length c.events))) × AreCycles (first + length c.events) (IsMarked m.marks) (d ∷ cs))) e cycles in
      let same : cycle_statements c ≡ map alloc_of c.events ++ mark_statements (Some m) = ap (λ (m : Option MarkEnd). map alloc_of c.events ++ mark_statements m) e in
      let rest = flat_map cycle_statements (d ∷ cs) in
      let more = flat_map (λ (c : Cycle). c.events) (d ∷ cs) in
      let len = length-append c.events more in
      let cons = sum_by-cons (λ (c : Cycle). marked_by c.mark) c (d ∷ cs) in
      let marked : marked_by c.mark ≡ marked_by (Some m) = ap marked_by e in
      let done = cycle_done past procs first ends marks live c.events m low counts alive (all_front (EventFits procs) c.events more fits) (omega arith) (omega arith) (omega arith) here.0 here.1 here.2 here.3 in
      let after = later_cycles (onto (map alloc_of c.events ++ mark_statements (Some m)) past) (first + length c.events) (ends + 1) (marks + marked_by (Some m)) (IsMarked m.marks) done.counts done.live here.4
      (all_back (EventFits procs) c.events more fits) (omega arith) (omega arith) (omega arith) in
      subst (λ (ss : List Statement). AreGood past (ss ++ rest)) (sym same) (good_append past (map alloc_of c.events ++ mark_statements (Some m)) rest done.good after)

pub cycles_good : (procs : ℕ) (cs : List Cycle) → procs < 2 ^ 32 → CyclesGood procs cs
cycles_good procs [] low past first ends marks live counts alive cycles fits few rare sparse = absurd cycles
cycles_good procs (c ∷ []) low past first ends marks live counts alive cycles fits few rare sparse = cycle_last procs c low past first ends marks live counts alive cycles fits few rare sparse
cycles_good procs (c ∷ d ∷ cs) low past first ends marks live counts alive cycles fits few rare sparse =
    cycle_step procs c d cs low (λ past first ends marks live counts alive cycles fits few rare sparse. cycles_good procs (d ∷ cs) low past first ends marks live counts alive cycles fits few rare sparse)
    past first ends marks live counts alive cycles fits few rare sparse
