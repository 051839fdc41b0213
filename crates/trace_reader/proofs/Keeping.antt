-- What a draft keeps, statement by statement.
use Rattle.std.proofs.Common.{◌≡◌, ◌≢◌, ◌==◌, ◌⊎◌, ℕ, zero, suc, ◌+◌, ◌-◌, ◌^◌, ◌<◌, ◌≤◌, Bool, true, false, not, ◌&&◌, ◌||◌, List, [], ◌∷◌, ◌++◌, length, map, find, Option, Some, None, nat_lt, nat_le, refl, sym, ap, ◌∙◌, subst, inl, inr, arith, append_assoc, length-append}
use Rattle.std.specs.List.{AllByRecursion, flat_map, range_with_len, slice_get}
use Rattle.std.specs.Option.{option_map, is_some}
use Rattle.std.proofs.lemmas.Bool.{cases_lt}
use Rattle.std.proofs.lemmas.Bool.Decides.{nat_tests}
use Rattle.std.proofs.lemmas.Grind.{flat_map-append}
use Rattle.std.proofs.lemmas.List.{append-nil, map_push}
use Rattle.trace_reader.specs.declared.draft.Draft.{Draft}
use Rattle.trace_reader.specs.declared.fault.Which.{Which}
use Rattle.trace_reader.specs.declared.fault.Which.TheVariants.{Objects, MarkEnds, Marks}
use Rattle.trace_reader.specs.declared.fault.TraceFault.{TraceFault}
use Rattle.trace_reader.specs.declared.fault.TraceFault.TheVariants.{Malformed, Limit, BadMark}
use Rattle.trace_reader.specs.declared.statement.Statement.{Statement}
use Rattle.trace_reader.specs.declared.statement.Statement.TheVariants.{Alloc, Gc, Mark}
use Rattle.trace_reader.specs.declared.statement.AllocForm.{AllocForm}
use Rattle.trace_reader.specs.declared.trace.Cycle.{Cycle}
use Rattle.trace_reader.specs.declared.trace.Event.{Event}
use Rattle.trace_reader.specs.declared.span.Span.{Span}
use Rattle.trace_reader.specs.Spelling.{alloc_of, cycle_statements, mark_of}
use Rattle.trace_reader.specs.Rising.{AreSpans}
use Rattle.trace_reader.specs.Limits.{EventFits}
use Rattle.trace_reader.specs.Past.{before_mark_end, is_live, mark_ends_of, marks_of, objects_of, procs_of}
use Rattle.trace_reader.specs.Checks.{bad_mark, counts_within, event_numbers, may_begin, may_follow, numbers_within, passed}
use Rattle.trace_reader.specs.Refusal.{fault_if, first_of, statement_fault}
use Rattle.trace_reader.specs.Kept.{Asked, Passes, in_spans, lives}
use Rattle.trace_reader.proofs.Compare.{above, at_most, below_false, below_true}
use Rattle.trace_reader.specs.Draft.{AreEnded, HasEnd, ended, ended_at, ending, kept_of, marks_in, told_of}
use Rattle.trace_reader.specs.Follows.{Counts, Follows, FollowsAt, IsBody, IsMarking, IsResting, IsStart, Took, begins, behind_spans, ends_in}
use Rattle.trace_reader.proofs.Saying.{both}
use Rattle.trace_reader.proofs.Reading.{All-append}
use Rattle.trace_reader.proofs.Good.{fault_none, pass, within_true}
use Rattle.trace_reader.proofs.Cycles.{body_more, find_none, follows_any, follows_gc}

-- Tests

same : (a b : ℕ) → a ≡ b → (a == b) ≡ true
same a b e = grind (arith, nat_tests)

other : (a b : ℕ) → a ≢ b → (a == b) ≡ false
other a b apart = grind (arith, nat_tests)

or_same : (a b c : Bool) → (a || (b || c)) ≡ ((a || b) || c)
or_same true b c = refl
or_same false b c = refl

or_swap : (a b c : Bool) → (a || (b || c)) ≡ (b || (a || c))
or_swap true true c = refl
or_swap true false c = refl
or_swap false b c = refl

-- no object is from n to below n
lives_kept : (kept : List Span) (n i : ℕ) → lives kept n n i ≡ in_spans kept i
lives_kept kept n i = elim (cases_lt i n) [
  | inl less ↦ (let e = above n i less in rw e refl)
  | inr more ↦ (let e = below_false i n more in let f = and_false (nat_le n i) in rw (e, f) refl)
] where
  and_false : (a : Bool) → (a && false) ≡ false
  and_false true = refl
  and_false false = refl

-- one object more
range_more : (first n i : ℕ) → first ≤ n → ((i == n) || (nat_le first i && nat_lt i n)) ≡ (nat_le first i && nat_lt i (n + 1))
range_more first n i le = elim (cases_lt i n) [
  | inl less ↦ (
      let a = other i n (omega arith) in
      let b = below_true i n less in
      let c = below_true i (n + 1) (omega arith) in
      rw (a, b, c) refl)
  | inr ge ↦ elim (cases_lt n i) [
    | inl more ↦ (
        let a = other i n (omega arith) in
        let b = below_false i n (omega arith) in
        let c = below_false i (n + 1) (omega arith) in
        rw (a, b, c) refl)
    | inr le2 ↦ (
        let a = same i n (omega arith) in
        let b = at_most first i (omega arith) in
        let c = below_true i (n + 1) (omega arith) in
        rw (a, b, c) refl)
  ]
]

lives_more : (kept : List Span) (first n i : ℕ) → first ≤ n → ((i == n) || lives kept first n i) ≡ lives kept first (n + 1) i
lives_more kept first n i le = or_same (i == n) (nat_le first i && nat_lt i n) (in_spans kept i) ∙ ap (λ (b : Bool). b || in_spans kept i) (range_more first n i le)

-- Spans

in_spans_more : (ss : List Span) (s : Span) (i : ℕ) → in_spans (ss ++ s ∷ []) i ≡ ((nat_le s.lo i && nat_le i s.hi) || in_spans ss i)
in_spans_more [] s i = refl
in_spans_more (t ∷ ts) s i = ap (λ (b : Bool). (nat_le t.lo i && nat_le i t.hi) || b) (in_spans_more ts s i) ∙ or_swap (nat_le t.lo i && nat_le i t.hi) (nat_le s.lo i && nat_le i s.hi) (in_spans ts i)

behind_more : (from : ℕ) (ss : List Span) (s : Span) → behind_spans from (ss ++ s ∷ []) ≡ s.hi + 1
behind_more from [] s = refl
behind_more from (t ∷ ts) s = behind_more (t.hi + 1) ts s

spans_more : (from : ℕ) (ss : List Span) (s : Span) → AreSpans from ss → behind_spans from ss ≤ s.lo → s.lo ≤ s.hi → s.hi ≤ 999999 → AreSpans from (ss ++ s ∷ [])
spans_more from [] s spans low rising high = (low, rising, high, tt)
spans_more from (t ∷ ts) s spans low rising high = (spans.0, spans.1, spans.2, spans_more (t.hi + 1) ts s spans.3 low rising high)

kept_more : (cs : List Cycle) (c : Cycle) → kept_of (cs ++ c ∷ []) ≡ marks_in c.mark
kept_more [] c = refl
kept_more (d ∷ []) c = refl
kept_more (d ∷ e ∷ cs) c = kept_more (e ∷ cs) c

-- Faults

none : (a : Option TraceFault) (rest : List (Option TraceFault)) → a ≡ None → first_of (a ∷ rest) ≡ first_of rest
none a rest e = rw e refl

some : (a : Option TraceFault) (rest : List (Option TraceFault)) (fault : TraceFault) → a ≡ Some fault → first_of (a ∷ rest) ≡ Some fault
some a rest fault e = rw e refl

abbrev form : ℕ → List Statement → Statement → Option TraceFault
form n past s = fault_if (not (may_follow past s)) (Malformed n)

abbrev numbers : ℕ → List Statement → Statement → Option TraceFault
numbers n past s = option_map (λ which. Limit n which) (passed (numbers_within past s))

abbrev counts : ℕ → List Statement → Statement → Option TraceFault
counts n past s = option_map (λ which. Limit n which) (passed (counts_within past s))

abbrev marked : ℕ → List Statement → Statement → Option TraceFault
marked n past s = option_map (λ i. BadMark n i) (bad_mark past s)

fits_form : (n : ℕ) (past : List Statement) (s : Statement) → may_follow past s ≡ true → form n past s ≡ None
fits_form n past s follows = rw follows refl

fits_numbers : (n : ℕ) (past : List Statement) (s : Statement) → passed (numbers_within past s) ≡ None → numbers n past s ≡ None
fits_numbers n past s low = rw low refl

fits_counts : (n : ℕ) (past : List Statement) (s : Statement) → passed (counts_within past s) ≡ None → counts n past s ≡ None
fits_counts n past s few = rw few refl

pub fault_form : (n : ℕ) (past : List Statement) (s : Statement) → may_follow past s ≡ false → statement_fault n past s ≡ Some (Malformed n)
fault_form n past s follows = some (form n past s) (numbers n past s ∷ counts n past s ∷ marked n past s ∷ []) (Malformed n) (rw follows refl)

fault_number : (n : ℕ) (past : List Statement) (s : Statement) (fault : TraceFault) → may_follow past s ≡ true → numbers n past s ≡ Some fault → statement_fault n past s ≡ Some fault
fault_number n past s fault follows e =
    none (form n past s) (numbers n past s ∷ counts n past s ∷ marked n past s ∷ []) (fits_form n past s follows)
    ∙ some (numbers n past s) (counts n past s ∷ marked n past s ∷ []) fault e

fault_count : (n : ℕ) (past : List Statement) (s : Statement) (which : Which) → may_follow past s ≡ true → passed (numbers_within past s) ≡ None → passed (counts_within past s) ≡ Some which
    → statement_fault n past s ≡ Some (Limit n which)
fault_count n past s which follows low e =
    none (form n past s) (numbers n past s ∷ counts n past s ∷ marked n past s ∷ []) (fits_form n past s follows)
    ∙ none (numbers n past s) (counts n past s ∷ marked n past s ∷ []) (fits_numbers n past s low)
    ∙ some (counts n past s) (marked n past s ∷ []) (Limit n which) (ap (λ (o : Option Which). option_map (λ which. Limit n which) o) e)

fault_mark : (n : ℕ) (past : List Statement) (s : Statement) (i : ℕ) → may_follow past s ≡ true → passed (numbers_within past s) ≡ None → passed (counts_within past s) ≡ None
    → bad_mark past s ≡ Some i → statement_fault n past s ≡ Some (BadMark n i)
fault_mark n past s i follows low few e =
    none (form n past s) (numbers n past s ∷ counts n past s ∷ marked n past s ∷ []) (fits_form n past s follows)
    ∙ none (numbers n past s) (counts n past s ∷ marked n past s ∷ []) (fits_numbers n past s low)
    ∙ none (counts n past s) (marked n past s ∷ []) (fits_counts n past s few)
    ∙ some (marked n past s) [] (BadMark n i) (ap (λ (o : Option ℕ). option_map (λ i. BadMark n i) o) e)

-- a number that is past its limit, and one whose first test fails
fails : (which : Which) (test : Bool) (rest : List (Which × Bool)) → test ≡ false → passed ((which, test) ∷ rest) ≡ Some which
fails which test rest e = rw e refl

-- The end of a cycle

-- a draft where no marks may go on
record Rests (past : List Statement) (d r : Draft) : Type 0 where
  counts : Counts past r
  resting : IsResting past r
  none : r.distance ≡ None

rests_at : (past : List Statement) (d : Draft) (o : Option ℕ) → d.distance ≡ o → Counts past d → FollowsAt past d o → Rests past d (ended_at d o)
rests_at past d None e c at = record { counts = c; resting = at.0; none = e }
rests_at past d (Some x) e c at =
    let cycle : Cycle = record { events = d.events; mark = Some (record { distance = x; marks = d.marks }) } in
    let kept = kept_more d.cycles cycle in
    let len = length-append d.cycles (cycle ∷ []) in
    let ends : mark_ends_of past ≡ length d.cycles + 1 = c.ends ∙ ap (λ (o : Option ℕ). length d.cycles + ends_in o) e in
    record {
      counts = record {
        body = c.body;
        procs = c.procs;
        objects = c.objects;
        ends = ends ∙ sym len ∙ plus_nothing (length (d.cycles ++ cycle ∷ []));
        marks = c.marks;
        order = omega arith;
        kept = subst (AreSpans 0) (sym kept) at.spans;
        ended = All-append HasEnd d.cycles (cycle ∷ []) c.ended ((λ (absent : Some (record { distance = x; marks = d.marks }) ≡ None). absurd cc), tt);
      };
      resting = record { live = λ i. at.latest i ∙ at.marked i ∙ ap (λ (ss : List Span). in_spans ss i) (sym kept) ∙ sym (lives_kept (kept_of (d.cycles ++ cycle ∷ [])) d.objects i) };
      none = refl;
    } where
      plus_nothing : (n : ℕ) → n ≡ n + 0
      plus_nothing n = omega arith

rests : (past : List Statement) (d : Draft) → Follows past d → Rests past d (ended d)
rests past d follows = rests_at past d d.distance refl follows.0 follows.1

told_at : (d : Draft) (o : Option ℕ) → d.distance ≡ o → told_of (ended_at d o) ≡ told_of d
told_at d None e = refl
told_at d (Some x) e =
    let cycle : Cycle = record { events = d.events; mark = Some (record { distance = x; marks = d.marks }) } in
    let before = flat_map cycle_statements d.cycles in
    append-nil (flat_map cycle_statements (d.cycles ++ cycle ∷ [])) ∙ flat_map-append cycle_statements d.cycles (cycle ∷ [])
    ∙ ap (λ (ss : List Statement). before ++ ss) (append-nil (cycle_statements cycle))
    ∙ ap (λ (o : Option ℕ). before ++ (map alloc_of d.events ++ ending o d.marks)) (sym e)

pub told_ended : (d : Draft) → told_of (ended d) ≡ told_of d
told_ended d = told_at d d.distance refl

none_at : (d : Draft) (o : Option ℕ) → d.distance ≡ o → (ended_at d o).distance ≡ None
none_at d None e = e
none_at d (Some x) e = refl

pub ended_none : (d : Draft) → (ended d).distance ≡ None
ended_none d = none_at d d.distance refl

-- what a resting draft has told
told_rest : (cs : List Cycle) (es : List Event) (o : Option ℕ) (ms : List Span) → o ≡ None → flat_map cycle_statements cs ++ (map alloc_of es ++ ending o ms) ≡ flat_map cycle_statements cs ++ map alloc_of es
told_rest cs es o ms e = ap (λ (o : Option ℕ). flat_map cycle_statements cs ++ (map alloc_of es ++ ending o ms)) e ∙ ap (λ (ss : List Statement). flat_map cycle_statements cs ++ ss) (append-nil (map alloc_of es))

-- An event

alloc_numbers : (past : List Statement) (procs : ℕ) (e : Event) → procs_of past ≡ procs → EventFits procs e → passed (numbers_within past (alloc_of e)) ≡ None
alloc_numbers past procs e same_procs fits =
    let proc = fits.proc in
    pass _ _ _ (below_true e.proc (procs_of past) (rw same_procs proc)) (pass _ _ _ (at_most e.size (2 ^ 40) fits.size) (pass _ _ _ (at_most e.stack 999999 fits.stack) refl))

pub took_event : (d r : Draft) (e : Event) (f : AllocForm) → r ≡ ended d → alloc_of e ≡ Alloc f → EventFits d.procs e → d.objects < 1000000
    → Took d (record r { events = r.events ++ e ∷ []; objects = r.objects + 1 }) (Alloc f)
took_event d r e f is form fits few = subst (λ (s : Statement). Took d (record r { events = r.events ++ e ∷ []; objects = r.objects + 1 }) s) form (record {
  goes_on = refl;
  told = told;
  faultless = λ past follows. fault_none past (alloc_of e) (follows_any past e follows.0.body) (alloc_numbers past d.procs e follows.0.procs fits)
      (pass _ _ _ (below_true (objects_of past) 1000000 (let o = follows.0.objects in omega arith)) refl) refl;
  follows = λ past follows. next past (subst (Rests past d) (sym is) (rests past d follows));
}) where
  empty : r.distance ≡ None
  empty = ap (λ (x : Draft). x.distance) is ∙ ended_none d

  told : flat_map cycle_statements r.cycles ++ (map alloc_of (r.events ++ e ∷ []) ++ ending r.distance r.marks) ≡ told_of d ++ alloc_of e ∷ []
  told = told_rest r.cycles (r.events ++ e ∷ []) r.distance r.marks empty ∙ ap (λ (ss : List Statement). flat_map cycle_statements r.cycles ++ ss) (map_push alloc_of r.events e)
      ∙ sym (append_assoc (flat_map cycle_statements r.cycles) (map alloc_of r.events) (alloc_of e ∷ []))
      ∙ ap (λ (ss : List Statement). ss ++ alloc_of e ∷ []) (sym (told_rest r.cycles r.events r.distance r.marks empty) ∙ ap told_of is ∙ told_ended d)

  next : (past : List Statement) → Rests past d r → Follows (alloc_of e ∷ past) (record r { events = r.events ++ e ∷ []; objects = r.objects + 1 })
  next past rest =
      let c = rest.counts in (
        record {
          body = body_more past (alloc_of e) c.body;
          procs = c.procs;
          objects = ap (λ (k : ℕ). k + 1) c.objects;
          ends = c.ends;
          marks = c.marks;
          order = omega arith;
          kept = c.kept;
          ended = c.ended;
        },
        subst (FollowsAt (alloc_of e ∷ past) (record r { events = r.events ++ e ∷ []; objects = r.objects + 1 })) (sym rest.none)
            (record { live = λ i. live i }, λ lo. refl),
      ) where
        live : (i : ℕ) → is_live (alloc_of e ∷ past) i ≡ lives (kept_of r.cycles) r.first (r.objects + 1) i
        live i = ap (λ (k : ℕ). (i == k) || is_live past i) rest.counts.objects ∙ ap (λ (b : Bool). (i == r.objects) || b) (rest.resting.live i) ∙ lives_more (kept_of r.cycles) r.first r.objects i rest.counts.order

pub event_number : (d : Draft) (f : AllocForm) (n : ℕ) (fault : TraceFault) → option_map (λ which. Limit n which) (passed (event_numbers d.procs f)) ≡ Some fault
    → (past : List Statement) → Follows past d → statement_fault n past (Alloc f) ≡ Some fault
event_number d f n fault told past follows = fault_number n past (Alloc f) fault (any past follows.0.body) (ap (λ (procs : ℕ). option_map (λ which. Limit n which) (passed (event_numbers procs f))) follows.0.procs ∙ told) where
  any : (past : List Statement) → IsBody past → may_follow past (Alloc f) ≡ true
  any [] body = absurd body
  any (a ∷ []) body = absurd body
  any (a ∷ b ∷ past) body = refl

pub too_many_objects : (d : Draft) (e : Event) (f : AllocForm) (n : ℕ) → alloc_of e ≡ Alloc f → EventFits d.procs e → 1000000 ≤ d.objects
    → (past : List Statement) → Follows past d → statement_fault n past (Alloc f) ≡ Some (Limit n Objects)
too_many_objects d e f n form fits many past follows =
    let o = follows.0.objects in
    subst (λ (s : Statement). statement_fault n past s ≡ Some (Limit n Objects)) form
    (fault_count n past (alloc_of e) Objects (follows_any past e follows.0.body) (alloc_numbers past d.procs e follows.0.procs fits) (fails Objects (nat_lt (objects_of past) 1000000) [] (below_false (objects_of past) 1000000 (omega arith))))

-- A mark end

pub took_mark_end : (d r : Draft) (x : ℕ) → r ≡ ended d → 1 ≤ x → x ≤ 2 ^ 40 → length r.cycles < 10000
    → Took d (record r { distance = Some x; marks = []; next = 0; passed = 0 }) (Gc x)
took_mark_end d r x is least most few = record {
  goes_on = refl;
  told = told;
  faultless = λ past follows.
      let rest : Rests past d r = subst (Rests past d) (sym is) (rests past d follows) in
      let ends : mark_ends_of past ≡ length r.cycles + 0 = rest.counts.ends ∙ ap (λ (o : Option ℕ). length r.cycles + ends_in o) rest.none in
      fault_none past (Gc x) (follows_gc past x follows.0.body) (pass _ _ _ (within_true 1 (2 ^ 40) x least most) refl) (pass _ _ _ (below_true (mark_ends_of past) 10000 (omega arith)) refl) refl;
  follows = λ past follows. next past (subst (Rests past d) (sym is) (rests past d follows));
} where
  empty : r.distance ≡ None
  empty = ap (λ (x : Draft). x.distance) is ∙ ended_none d

  told : flat_map cycle_statements r.cycles ++ (map alloc_of r.events ++ (Gc x ∷ [])) ≡ told_of d ++ Gc x ∷ []
  told = sym (append_assoc (flat_map cycle_statements r.cycles) (map alloc_of r.events) (Gc x ∷ []))
      ∙ ap (λ (ss : List Statement). ss ++ Gc x ∷ []) (sym (told_rest r.cycles r.events r.distance r.marks empty) ∙ ap told_of is ∙ told_ended d)

  next : (past : List Statement) → Rests past d r → Follows (Gc x ∷ past) (record r { distance = Some x; marks = []; next = 0; passed = 0 })
  next past rest =
      let c = rest.counts in
      let ends : mark_ends_of past ≡ length r.cycles + 0 = c.ends ∙ ap (λ (o : Option ℕ). length r.cycles + ends_in o) rest.none in (
        record {
          body = body_more past (Gc x) c.body;
          procs = c.procs;
          objects = c.objects;
          ends = omega arith;
          marks = c.marks;
          order = c.order;
          kept = c.kept;
          ended = c.ended;
        },
        record {
          begins = λ lo. sym (at_most 0 lo (omega arith));
          live = rest.resting.live;
          marked = λ i. refl;
          latest = λ i. refl;
          spans = tt;
          next = refl;
          passed = λ i low. refl;
        },
      )

pub distance_number : (d : Draft) (x n : ℕ) (fault : TraceFault) → ((past : List Statement) → numbers n past (Gc x) ≡ Some fault)
    → (past : List Statement) → Follows past d → statement_fault n past (Gc x) ≡ Some fault
distance_number d x n fault told past follows = fault_number n past (Gc x) fault (follows_gc past x follows.0.body) (told past)

pub too_many_ends : (d r : Draft) (x n : ℕ) → r ≡ ended d → 1 ≤ x → x ≤ 2 ^ 40 → 10000 ≤ length r.cycles
    → (past : List Statement) → Follows past d → statement_fault n past (Gc x) ≡ Some (Limit n MarkEnds)
too_many_ends d r x n is least most many past follows =
    let rest : Rests past d r = subst (Rests past d) (sym is) (rests past d follows) in
    let ends : mark_ends_of past ≡ length r.cycles + 0 = rest.counts.ends ∙ ap (λ (o : Option ℕ). length r.cycles + ends_in o) rest.none in
    fault_count n past (Gc x) MarkEnds (follows_gc past x follows.0.body) (pass _ _ _ (within_true 1 (2 ^ 40) x least most) refl) (fails MarkEnds (nat_lt (mark_ends_of past) 10000) [] (below_false (mark_ends_of past) 10000 (omega arith)))

-- Marks

marking_at : (past : List Statement) (d : Draft) (o : Option ℕ) (x : ℕ) → o ≡ Some x → FollowsAt past d o → IsMarking past d
marking_at past d None x e at = absurd cc
marking_at past d (Some y) x e at = at

marking : (past : List Statement) (d : Draft) (x : ℕ) → d.distance ≡ Some x → Follows past d → IsMarking past d
marking past d x e follows = marking_at past d d.distance x e follows.1

and_false : (a b : Bool) → (a ≡ false) ⊎ (b ≡ false) → (a && b) ≡ false
and_false true b e = elim e [ inl wrong ↦ absurd cc | inr f ↦ f ]
and_false false b e = refl

-- where no mark may stand, or not this one
not_begun : (past : List Statement) (lo hi : ℕ) → IsBody past → (nat_le lo hi ≡ false) ⊎ (begins past lo ≡ false) → may_follow past (Mark lo hi) ≡ false
not_begun [] lo hi body e = absurd body
not_begun (a ∷ []) lo hi body e = absurd body
not_begun (a ∷ b ∷ past) lo hi body e = and_false (nat_le lo hi) (may_begin a lo) e

none_begins : (past : List Statement) (d : Draft) (o : Option ℕ) (lo : ℕ) → o ≡ None → FollowsAt past d o → begins past lo ≡ false
none_begins past d None lo e at = at.1 lo
none_begins past d (Some x) lo e at = absurd cc

pub no_marks : (d : Draft) (lo hi n : ℕ) → d.distance ≡ None → (past : List Statement) → Follows past d → statement_fault n past (Mark lo hi) ≡ Some (Malformed n)
no_marks d lo hi n e past follows = fault_form n past (Mark lo hi) (not_begun past lo hi follows.0.body (inr (none_begins past d d.distance lo e follows.1)))

pub falls : (d : Draft) (lo hi n : ℕ) → hi < lo → (past : List Statement) → Follows past d → statement_fault n past (Mark lo hi) ≡ Some (Malformed n)
falls d lo hi n less past follows = fault_form n past (Mark lo hi) (not_begun past lo hi follows.0.body (inl (above lo hi less)))

begins_early : (past : List Statement) (d : Draft) (o : Option ℕ) (lo : ℕ) → lo < d.next → FollowsAt past d o → begins past lo ≡ false
begins_early past d None lo less at = at.1 lo
begins_early past d (Some x) lo less at = at.begins lo ∙ above d.next lo less

pub too_early : (d : Draft) (lo hi n : ℕ) → lo < d.next → (past : List Statement) → Follows past d → statement_fault n past (Mark lo hi) ≡ Some (Malformed n)
too_early d lo hi n less past follows = fault_form n past (Mark lo hi) (not_begun past lo hi follows.0.body (inr (begins_early past d d.distance lo less follows.1)))

-- the span may stand here
record MayStand (d : Draft) (x lo hi : ℕ) : Type 0 where
  open_ : d.distance ≡ Some x
  rising : lo ≤ hi
  behind : d.next ≤ lo

begun : (past : List Statement) (lo hi : ℕ) → IsBody past → lo ≤ hi → begins past lo ≡ true → may_follow past (Mark lo hi) ≡ true
begun [] lo hi body rising e = absurd body
begun (a ∷ []) lo hi body rising e = absurd body
begun (a ∷ b ∷ past) lo hi body rising e = both (nat_le lo hi) (may_begin a lo) (at_most lo hi rising) e

follows_here : (d : Draft) (x lo hi : ℕ) → d.distance ≡ Some x → lo ≤ hi → d.next ≤ lo → (past : List Statement) → Follows past d → may_follow past (Mark lo hi) ≡ true
follows_here d x lo hi open_ rising behind past follows = begun past lo hi follows.0.body rising ((marking past d x open_ follows).begins lo ∙ at_most d.next lo behind)

pub mark_number : (d : Draft) (x lo hi n : ℕ) (fault : TraceFault) → d.distance ≡ Some x → lo ≤ hi → d.next ≤ lo → ((past : List Statement) → numbers n past (Mark lo hi) ≡ Some fault)
    → (past : List Statement) → Follows past d → statement_fault n past (Mark lo hi) ≡ Some fault
mark_number d x lo hi n fault open_ rising behind told past follows = fault_number n past (Mark lo hi) fault (follows_here d x lo hi open_ rising behind past follows) (told past)

mark_numbers : (past : List Statement) (lo hi : ℕ) → lo ≤ 999999 → hi ≤ 999999 → passed (numbers_within past (Mark lo hi)) ≡ None
mark_numbers past lo hi low high = pass _ _ _ (at_most lo 999999 low) (pass _ _ _ (at_most hi 999999 high) refl)

pub too_many_marks : (d : Draft) (x lo hi n : ℕ) → d.distance ≡ Some x → lo ≤ hi → d.next ≤ lo → hi ≤ 999999 → d.marks_left < hi - lo + 1
    → (past : List Statement) → Follows past d → statement_fault n past (Mark lo hi) ≡ Some (Limit n Marks)
too_many_marks d x lo hi n open_ rising behind high many past follows =
    let m = follows.0.marks in
    fault_count n past (Mark lo hi) Marks (follows_here d x lo hi open_ rising behind past follows) (mark_numbers past lo hi (omega arith) high)
    (fails Marks (nat_le (marks_of past + (hi + 1 - lo)) 20000000) [] (above (marks_of past + (hi + 1 - lo)) 20000000 (omega arith)))

few_marks : (past : List Statement) (d : Draft) (lo hi : ℕ) → lo ≤ hi → hi - lo + 1 ≤ d.marks_left → marks_of past + d.marks_left ≡ 20000000 → passed (counts_within past (Mark lo hi)) ≡ None
few_marks past d lo hi rising few marks = pass _ _ _ (at_most (marks_of past + (hi + 1 - lo)) 20000000 (omega arith)) refl

-- The first object that is not live

find_first : (p : ℕ → Bool) (a n id : ℕ) → ((i : ℕ) → a ≤ i → i < id → p i ≡ false) → p id ≡ true → a ≤ id → id < a + n → find p (range_with_len a n) ≡ Some id
find_first p a zero id before found low high = absurd (omega arith)
find_first p a (suc n) id before found low high = elim (cases_lt a id) [
  | inl less ↦ (let here = before a (omega arith) less in rw here (find_first p (a + 1) n id (λ i lo hi. before i (omega arith) hi) found (omega arith) (omega arith)))
  | inr ge ↦ (let e : id ≡ a = omega arith in let here : p a ≡ true = subst (λ (k : ℕ). p k ≡ true) e found in rw (here, e) refl)
]

abbrev live_of : Draft → ℕ → Bool
live_of d = lives (kept_of d.cycles) d.first d.objects

passes : (past : List Statement) (d : Draft) (x lo : ℕ) → d.distance ≡ Some x → d.next ≤ lo → Follows past d → Passes (kept_of d.cycles) d.passed lo
passes past d x lo open_ behind follows = record { rising = follows.0.kept; skips = λ i low. (marking past d x open_ follows).passed i (omega arith) }

pub dead_mark : (d : Draft) (x n : ℕ) (s : Span) (passed_ id : ℕ) → d.distance ≡ Some x → s.lo ≤ s.hi → d.next ≤ s.lo → s.hi ≤ 999999 → s.hi - s.lo + 1 ≤ d.marks_left
    → (Passes (kept_of d.cycles) d.passed s.lo → Asked (kept_of d.cycles) (live_of d) s passed_ (Some id))
    → (past : List Statement) → Follows past d → statement_fault n past (mark_of s) ≡ Some (BadMark n id)
dead_mark d x n s passed_ id open_ rising behind high few asked past follows =
    let at = marking past d x open_ follows in
    let dead = (asked (passes past d x s.lo open_ behind follows)).dead in
    fault_mark n past (mark_of s) id (follows_here d x s.lo s.hi open_ rising behind past follows) (mark_numbers past s.lo s.hi (omega arith) high) (few_marks past d s.lo s.hi rising few follows.0.marks)
    (find_first (λ i. not (is_live (before_mark_end past) i)) s.lo (s.hi + 1 - s.lo) id (λ i low less. ap not (at.live i ∙ dead.before i low less)) (ap not (at.live id ∙ dead.dead)) dead.low (let h = dead.high in omega arith))

pub took_mark : (d : Draft) (x lo hi : ℕ) (s : Span) (p : ℕ) → mark_of s ≡ Mark lo hi → d.distance ≡ Some x → s.lo ≤ s.hi → d.next ≤ s.lo → s.hi ≤ 999999 → s.hi - s.lo + 1 ≤ d.marks_left
    → (Passes (kept_of d.cycles) d.passed s.lo → Asked (kept_of d.cycles) (live_of d) s p None)
    → Took d (record d { marks = d.marks ++ s ∷ []; marks_left = d.marks_left - (s.hi - s.lo + 1); next = s.hi + 1; passed = p }) (Mark lo hi)
took_mark d x lo hi s p form open_ rising behind high few asked = subst (λ (t : Statement). Took d (record d { marks = d.marks ++ s ∷ []; marks_left = d.marks_left - (s.hi - s.lo + 1); next = s.hi + 1; passed = p }) t) form (record {
  goes_on = refl;
  told = told d.distance open_;
  faultless = λ past follows.
      let at = marking past d x open_ follows in
      let live = (asked (passes past d x s.lo open_ behind follows)).dead in
      fault_none past (mark_of s) (follows_here d x s.lo s.hi open_ rising behind past follows) (mark_numbers past s.lo s.hi (omega arith) high) (few_marks past d s.lo s.hi rising few follows.0.marks)
      (find_none (λ i. not (is_live (before_mark_end past) i)) s.lo (s.hi + 1 - s.lo) (λ i low less. ap not (at.live i ∙ live i low (omega arith))));
  follows = λ past follows. next past follows;
}) where
  told : (o : Option ℕ) → o ≡ Some x → flat_map cycle_statements d.cycles ++ (map alloc_of d.events ++ ending o (d.marks ++ s ∷ [])) ≡ (flat_map cycle_statements d.cycles ++ (map alloc_of d.events ++ ending o d.marks)) ++ mark_of s ∷ []
  told None e = absurd cc
  told (Some y) e =
      let before = flat_map cycle_statements d.cycles in
      let events = map alloc_of d.events in
      ap (λ (ss : List Statement). before ++ (events ++ (Gc y ∷ ss))) (map_push mark_of d.marks s)
      ∙ ap (λ (ss : List Statement). before ++ ss) (sym (append_assoc events (Gc y ∷ map mark_of d.marks) (mark_of s ∷ [])))
      ∙ sym (append_assoc before (events ++ (Gc y ∷ map mark_of d.marks)) (mark_of s ∷ []))

  next : (past : List Statement) → Follows past d → Follows (mark_of s ∷ past) (record d { marks = d.marks ++ s ∷ []; marks_left = d.marks_left - (s.hi - s.lo + 1); next = s.hi + 1; passed = p })
  next past follows =
      let c = follows.0 in
      let at = marking past d x open_ follows in
      let walked = asked (passes past d x s.lo open_ behind follows) in
      let m = c.marks in (
        record {
          body = body_more past (mark_of s) c.body;
          procs = c.procs;
          objects = c.objects;
          ends = c.ends;
          marks = omega arith;
          order = c.order;
          kept = c.kept;
          ended = c.ended;
        },
        subst (FollowsAt (mark_of s ∷ past) (record d { marks = d.marks ++ s ∷ []; marks_left = d.marks_left - (s.hi - s.lo + 1); next = s.hi + 1; passed = p })) (sym open_)
            (record {
              begins = λ lo. above_next lo;
              live = at.live;
              marked = λ i. ap (λ (b : Bool). (nat_le s.lo i && nat_le i s.hi) || b) (at.marked i) ∙ sym (in_spans_more d.marks s i);
              latest = λ i. refl;
              spans = spans_more 0 d.marks s at.spans (let e = at.next in omega arith) rising high;
              next = behind_more 0 d.marks s;
              passed = walked.passed.skips;
            }),
      ) where
        above_next : (lo : ℕ) → nat_lt s.hi lo ≡ nat_le (s.hi + 1) lo
        above_next lo = elim (cases_lt s.hi lo) [
          | inl less ↦ below_true s.hi lo less ∙ sym (at_most (s.hi + 1) lo (omega arith))
          | inr ge ↦ below_false s.hi lo ge ∙ sym (above (s.hi + 1) lo (omega arith))
        ]

-- The first and the last statement behind the header

pub starts : (d : Draft) → d.cycles ≡ [] → d.distance ≡ None → d.first ≡ 0 → d.objects ≡ 0 → d.marks_left ≡ 20000000 → (past : List Statement) → IsStart past d.procs → Follows past d
starts d cycles distance first objects left past start =
    subst (λ (past : List Statement). Follows past d) (sym start.2) (
      record {
        body = tt;
        procs = start.3;
        objects = sym objects;
        ends = no_ends d.cycles d.distance cycles distance;
        marks = omega arith;
        order = omega arith;
        kept = subst (λ (cs : List Cycle). AreSpans 0 (kept_of cs)) (sym cycles) tt;
        ended = subst (λ (cs : List Cycle). AllByRecursion HasEnd cs) (sym cycles) tt;
      },
      subst (FollowsAt _ d) (sym distance) (record { live = λ i. sym (lives_none i) }, λ lo. refl),
    ) where
      no_ends : (cs : List Cycle) (o : Option ℕ) → cs ≡ [] → o ≡ None → 0 ≡ length cs + ends_in o
      no_ends cs o e f = rw (e, f) refl

      lives_none : (i : ℕ) → lives (kept_of d.cycles) d.first d.objects i ≡ false
      lives_none i = ap (λ (cs : List Cycle). lives (kept_of cs) d.first d.objects i) cycles ∙ ap (λ (k : ℕ). lives [] k d.objects i) first ∙ ap (λ (k : ℕ). lives [] 0 k i) objects ∙ lives_kept [] 0 i

-- What the code's calls say

pub kept_last : (cs : List Cycle) (c : Cycle) → Some c ≡ slice_get cs (length cs - 1) → kept_of cs ≡ marks_in c.mark
kept_last [] c e = absurd cc
kept_last (d ∷ []) c e = let same_cycle : d ≡ c = cc in ap (λ (x : Cycle). marks_in x.mark) same_cycle
kept_last (d ∷ f ∷ cs) c e =
    let place : length (d ∷ f ∷ cs) - 1 ≡ suc (length (f ∷ cs) - 1) = omega arith in
    kept_last (f ∷ cs) c (e ∙ ap (λ (k : ℕ). slice_get (d ∷ f ∷ cs) k) place)

pub none_last : (cs : List Cycle) → None ≡ slice_get cs (length cs - 1) → kept_of cs ≡ []
none_last [] e = refl
none_last (d ∷ []) e = absurd cc
none_last (d ∷ f ∷ cs) e =
    let place : length (d ∷ f ∷ cs) - 1 ≡ suc (length (f ∷ cs) - 1) = omega arith in
    none_last (f ∷ cs) (e ∙ ap (λ (k : ℕ). slice_get (d ∷ f ∷ cs) k) place)

all_ended : (d : Draft) (o : Option ℕ) → AllByRecursion HasEnd d.cycles → AllByRecursion HasEnd (ended_at d o).cycles
all_ended d None all = all
all_ended d (Some x) all = All-append HasEnd d.cycles _ all ((λ (absent : Some (record { distance = x; marks = d.marks }) ≡ None). absurd cc), tt)

last_ended : (cs : List Cycle) (c : Cycle) → c.mark ≡ None → AllByRecursion HasEnd cs → AreEnded (cs ++ c ∷ [])
last_ended [] c e all = e
last_ended (d ∷ []) c e all = (all.0, e)
last_ended (d ∷ f ∷ cs) c e all = (all.0, last_ended (f ∷ cs) c e all.1)

pub finishes : (d r : Draft) (es : List Event) → r ≡ ended d → AllByRecursion HasEnd d.cycles → AreEnded (r.cycles ++ record { events = es; mark = None } ∷ [])
finishes d r es is all = last_ended r.cycles (record { events = es; mark = None }) refl (subst (λ (x : Draft). AllByRecursion HasEnd x.cycles) (sym is) (all_ended d d.distance all))

pub the_distance : (o : Option ℕ) (b : Bool) → is_some o ≡ not b → b ≡ false → (x : ℕ) × (o ≡ Some x)
the_distance None b e f = absurd cc
the_distance (Some x) b e f = (x, refl)

pub no_distance : (o : Option ℕ) (b : Bool) → is_some o ≡ not b → b ≡ true → o ≡ None
no_distance None b e f = refl
no_distance (Some x) b e f = absurd cc

pub asked_of : (kept rows : List Span) (first objects at lo p : ℕ) (s : Span) (r t : Option ℕ) → kept ≡ rows → r ≡ t → (Passes kept at lo → Asked kept (lives kept first objects) s p r)
    → Passes rows at lo → Asked rows (lives rows first objects) s p t
asked_of kept rows first objects at lo p s r t same_rows same_answer asked passes_ =
    subst (λ (k : List Span). Asked k (lives k first objects) s p t) same_rows (subst (λ (o : Option ℕ). Asked kept (lives kept first objects) s p o) same_answer (asked (subst (λ (k : List Span). Passes k at lo) (sym same_rows) passes_)))
