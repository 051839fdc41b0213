-- What is not refused is spelled by some trace.
use Rattle.std.proofs.Common.{◌≡◌, ◌≢◌, ◌⊎◌, ◌==◌, ℕ, zero, suc, ◌+◌, ◌-◌, ◌^◌, ◌<◌, ◌≤◌, min, Bool, true, false, not, cond, List, [], ◌∷◌, ◌++◌, length, map, Option, Some, None, nat_lt, nat_le, refl, sym, ap, ◌∙◌, subst, inl, inr, arith, append_assoc, length-append}
use Rattle.std.specs.List.{flat_map}
use Rattle.std.specs.Option.{option_map}
use Rattle.std.proofs.lemmas.Bool.{cases_Bool}
use Rattle.std.proofs.lemmas.Bool.Decides.{nat_tests}
use Rattle.edge_io.specs.Line.{HasNoFeed, IsLine}
use Rattle.size_classes.specs.declared.TheConstants.{MAX_CHUNKS, MAX_PAGES}
use Rattle.trace_reader.specs.declared.limits.TheConstants.{FIRST_MAX_CHUNKS, FIRST_MAX_PAGES, LATEST_VERSION}
use Rattle.trace_reader.specs.declared.fault.Which.{Which}
use Rattle.trace_reader.specs.declared.fault.Which.TheVariants.{Bytes, Chunks, Procs, Rate, Seed, Goal}
use Rattle.trace_reader.specs.declared.fault.TraceFault.{TraceFault}
use Rattle.trace_reader.specs.declared.fault.TraceFault.TheVariants.{Malformed, Truncated, Limit, BadMark}
use Rattle.trace_reader.specs.declared.statement.Statement.{Statement}
use Rattle.trace_reader.specs.declared.statement.Statement.TheVariants.{Title, Heap, Alloc, Gc, Mark, End}
use Rattle.trace_reader.specs.declared.statement.HeapForm.{HeapForm}
use Rattle.trace_reader.specs.declared.statement.AllocForm.{AllocForm}
use Rattle.trace_reader.specs.declared.trace.Trace.{Trace}
use Rattle.trace_reader.specs.declared.trace.Header.{Header}
use Rattle.trace_reader.specs.declared.trace.Cycle.{Cycle}
use Rattle.trace_reader.specs.declared.trace.Event.{Event}
use Rattle.trace_reader.specs.declared.span.Span.{Span}
use Rattle.trace_reader.specs.Spelling.{cycle_statements, line_for, mark_of, spelled}
use Rattle.trace_reader.specs.Says.{said}
use Rattle.trace_reader.specs.Limits.{HeaderFits, RegionFits, Spells, max_chunks, max_pages}
use Rattle.trace_reader.specs.Checks.{bad_mark, counts_within, header_numbers, is_version, may_begin, may_follow, numbers_within, passed, within}
use Rattle.trace_reader.specs.Refusal.{fault_if, feed, first_of, is_end, line_fault, lines_fault, next_number, nothing_behind, onto_past, pieces_of, refusal, said_fault, statement_fault}
use Rattle.trace_reader.specs.Good.{AreGood}
use Rattle.trace_reader.specs.Draft.{AreEnded}
use Rattle.trace_reader.proofs.Saying.{Says-said, split_at, split_last}
use Rattle.trace_reader.proofs.Judging.{feed_pieces, onto}
use Rattle.trace_reader.proofs.Reading.{append_nil, some_left}
use Rattle.trace_reader.proofs.Fits.{and_parts, if_none, le_of, lt_of, passes, sound, trace_fits, trace_of}

-- Lines

-- bytes begin with a line, which a line feed or their end ends
abbrev HasLine : List ℕ → Type 0
HasLine bytes = (line : List ℕ) × HasNoFeed line × ((bytes ≡ line) ⊎ ((rest : List ℕ) × (bytes ≡ line ++ 10 ∷ rest)))

first_line : (bytes : List ℕ) → HasLine bytes
first_line [] = ([], tt, inl refl)
first_line (b ∷ bs) = elim (cases_Bool (b == 10)) [
  | inl feed ↦ ([], tt, inr (bs, ap (λ (x : ℕ). x ∷ bs) (is_feed b feed)))
  | inr other ↦ onto_line (first_line bs) (no_feed b other)
] where
  is_feed : (b : ℕ) → (b == 10) ≡ true → b ≡ 10
  is_feed b e = grind (arith, nat_tests)

  no_feed : (b : ℕ) → (b == 10) ≡ false → b ≢ 10
  no_feed b e = grind (arith, nat_tests)

  onto_line : HasLine bs → b ≢ 10 → HasLine (b ∷ bs)
  onto_line has apart = (
    b ∷ has.0,
    (apart, has.1),
    elim has.2 [
      | inl whole ↦ inl (ap (λ (x : List ℕ). b ∷ x) whole)
      | inr more ↦ inr (more.0, ap (λ (x : List ℕ). b ∷ x) more.1)
    ],
  )

none_first : (o : Option TraceFault) (rest : List (Option TraceFault)) → first_of (o ∷ rest) ≡ None → (o ≡ None) × (first_of rest ≡ None)
none_first None rest e = (refl, e)
none_first (Some fault) rest e = absurd cc

no_fault : (test : Bool) (fault : TraceFault) → fault_if test fault ≡ None → test ≡ false
no_fault true fault e = absurd cc
no_fault false fault e = refl

not_below : (a b : ℕ) → nat_lt a b ≡ false → b ≤ a
not_below a b e = grind (arith, nat_tests)

-- a line that no event ends before its line feed
whole : (n room : ℕ) (line : List ℕ) (rest : List (List ℕ)) → line_fault n room line rest ≡ None → (length line ≤ 120) × (length line + feed rest ≤ room) × (feed rest ≡ 0 → ⊥)
whole n room line rest e =
    let over = none_first (fault_if (nat_lt room (min (length line + feed rest) 121)) (Limit n Bytes)) _ e in
    let long = none_first (fault_if (nat_lt 120 (length line)) (Malformed n)) _ over.1 in
    let cut = none_first (fault_if (feed rest == 0) (Truncated n)) _ long.1 in
    let room_left = not_below room (min (length line + feed rest) 121) (no_fault _ _ over.0) in
    let short = not_below 120 (length line) (no_fault _ _ long.0) in
    let fed : (feed rest == 0) ≡ false = no_fault _ _ cut.0 in
    let one = feed_le rest in
    (short, omega arith, λ zero_feed. (let clash : (0 == 0) ≡ false = subst (λ (k : ℕ). (k == 0) ≡ false) zero_feed fed in absurd cc)) where
      feed_le : (rest : List (List ℕ)) → feed rest ≤ 1
      feed_le [] = omega arith
      feed_le (p ∷ ps) = omega arith

-- a statement that nothing is wrong with, and what it leaves to judge
record GoesOn (n room : ℕ) (past : List Statement) (bytes : List ℕ) : Type 0 where
  line : List ℕ
  rest : List ℕ
  s : Statement
  split : bytes ≡ line ++ 10 ∷ rest
  is_line : IsLine line
  room_left : length line < room
  says : said line ≡ Some s
  good : statement_fault n past s ≡ None
  then : cond (is_end (Some s)) (nothing_behind (next_number n) (pieces_of rest)) (lines_fault nothing_behind (next_number n) (room - (length line + 1)) (s ∷ past) (pieces_of rest)) ≡ None

step : (n room : ℕ) (past : List Statement) (bytes : List ℕ) → lines_fault nothing_behind n room past (pieces_of bytes) ≡ None → GoesOn n room past bytes
unfolding lines_fault
step n room past bytes e =
    let has = first_line bytes in
    let line = has.0 in
    elim has.2 [
      | inl cut ↦ (
          let split : pieces_of bytes ≡ line ∷ [] = ap pieces_of cut ∙ split_last 10 line has.1 in
          let all = subst (λ (ps : List (List ℕ)). lines_fault nothing_behind n room past ps ≡ None) split e in
          let first = none_first (line_fault n room line []) _ all in
          absurd ((whole n room line [] first.0).2 refl))
      | inr more ↦ (
          let rest = more.0 in
          let split : pieces_of bytes ≡ line ∷ pieces_of rest = ap pieces_of more.1 ∙ split_at 10 line rest has.1 in
          let all = subst (λ (ps : List (List ℕ)). lines_fault nothing_behind n room past ps ≡ None) split e in
          let first = none_first (line_fault n room line (pieces_of rest)) _ all in
          let second = none_first (said_fault n past (said line)) _ first.1 in
          let third = none_first (cond (is_end (said line)) (nothing_behind (next_number n) (pieces_of rest)) (lines_fault nothing_behind (next_number n) (room - (length line + 1)) (onto_past (said line) past) (pieces_of rest))) _ second.1 in
          let here = whole n room line (pieces_of rest) first.0 in
          let fed = feed_pieces rest in
          let room_left = here.1 in
          told rest line more.1 (here.0, has.1) (omega arith) (said line) refl second.0 third.0)
    ] where
      told : (rest line : List ℕ) → bytes ≡ line ++ 10 ∷ rest → IsLine line → length line < room → (o : Option Statement) → said line ≡ o → said_fault n past o ≡ None
          → cond (is_end o) (nothing_behind (next_number n) (pieces_of rest)) (lines_fault nothing_behind (next_number n) (room - (length line + 1)) (onto_past o past) (pieces_of rest)) ≡ None
          → GoesOn n room past bytes
      told rest line split is_line room_left None says good then = absurd cc
      told rest line split is_line room_left (Some s) says good then =
          record { line = line; rest = rest; s = s; split = split; is_line = is_line; room_left = room_left; says = says; good = good; then = then }

-- the statements that the bytes spell, and `end` behind them
record Told (room : ℕ) (past : List Statement) (bytes : List ℕ) : Type 0 where
  statements : List Statement
  good : AreGood past statements
  last : may_follow (onto statements past) End ≡ true
  spells : bytes ≡ spelled (statements ++ End ∷ [])
  small : length bytes ≤ room

nothing_is_left : (n : ℕ) (bytes : List ℕ) → nothing_behind n (pieces_of bytes) ≡ None → bytes ≡ []
nothing_is_left n [] e = refl
nothing_is_left n (b ∷ bs) e = (let some : nothing_behind n (pieces_of (b ∷ bs)) ≡ Some (Malformed n) = some_left n (b ∷ bs) (λ none. absurd cc) in let clash : None ≡ Some (Malformed n) = sym e ∙ some in absurd cc)

-- nothing is wrong with a statement on any line
any_line : (n m : ℕ) (past : List Statement) (s : Statement) → statement_fault n past s ≡ None → statement_fault m past s ≡ None
any_line n m past s e =
    let form = none_first _ _ e in
    let low = none_first _ _ form.1 in
    let count = none_first _ _ low.1 in
    let live = none_first _ _ count.1 in
    joined (may_follow past s) (passed (numbers_within past s)) (passed (counts_within past s)) (bad_mark past s) form.0 low.0 count.0 live.0 where
      joined : (test : Bool) (p q : Option Which) (i : Option ℕ) → fault_if (not test) (Malformed n) ≡ None → option_map (λ which. Limit n which) p ≡ None → option_map (λ which. Limit n which) q ≡ None
          → option_map (λ i. BadMark n i) i ≡ None
          → first_of (fault_if (not test) (Malformed m) ∷ option_map (λ which. Limit m which) p ∷ option_map (λ which. Limit m which) q ∷ option_map (λ i. BadMark m i) i ∷ []) ≡ None
      joined false p q i a b c d = absurd cc
      joined true (Some which) q i a b c d = absurd cc
      joined true None (Some which) i a b c d = absurd cc
      joined true None None (Some object) a b c d = absurd cc
      joined true None None None a b c d = refl

told_all : (fuel n room : ℕ) (past : List Statement) (bytes : List ℕ) → length bytes ≤ fuel → lines_fault nothing_behind n room past (pieces_of bytes) ≡ None → Told room past bytes
told_all zero n room past bytes short e =
    let g = step n room past bytes e in
    let len : length bytes ≡ length g.line + length (10 ∷ g.rest) = ap length g.split ∙ length-append g.line (10 ∷ g.rest) in
    absurd (omega arith)
told_all (suc fuel) n room past bytes short e =
    let g = step n room past bytes e in
    let len : length bytes ≡ length g.line + length (10 ∷ g.rest) = ap length g.split ∙ length-append g.line (10 ∷ g.rest) in
    let form : g.line ≡ line_for g.s = (Says-said g.line g.s g.says).0 in
    let room_left = g.room_left in
    elim (cases_Bool (is_end (Some g.s))) [
      | inl end ↦ (
          let left : nothing_behind (next_number n) (pieces_of g.rest) ≡ None = subst (λ (test : Bool). cond test (nothing_behind (next_number n) (pieces_of g.rest)) (lines_fault nothing_behind (next_number n) (room - (length g.line + 1)) (g.s ∷ past) (pieces_of g.rest)) ≡ None) end g.then in
          let none = nothing_is_left (next_number n) g.rest left in
          let gone : length g.rest ≡ 0 = ap length none in
          let is = the_end g.s end in
          record {
            statements = [];
            good = tt;
            last = if_none (may_follow past End) (Malformed n) (none_first _ _ (subst (λ (s : Statement). statement_fault n past s ≡ None) is g.good)).0;
            spells = g.split ∙ ap (λ (x : List ℕ). g.line ++ 10 ∷ x) none ∙ ap (λ (x : List ℕ). x ++ 10 ∷ []) (form ∙ ap line_for is) ∙ sym (append_nil (line_for End ++ 10 ∷ []));
            small = omega arith;
          })
      | inr more ↦ (
          let left : lines_fault nothing_behind (next_number n) (room - (length g.line + 1)) (g.s ∷ past) (pieces_of g.rest) ≡ None = subst (λ (test : Bool). cond test (nothing_behind (next_number n) (pieces_of g.rest)) (lines_fault nothing_behind (next_number n) (room - (length g.line + 1)) (g.s ∷ past) (pieces_of g.rest)) ≡ None) more g.then in
          let rest = told_all fuel (next_number n) (room - (length g.line + 1)) (g.s ∷ past) g.rest (omega arith) left in
          let small = rest.small in
          record {
            statements = g.s ∷ rest.statements;
            good = (record { is_line = subst IsLine form g.is_line; says = ap said (sym form) ∙ g.says; not_end = more; no_fault = λ m. any_line n m past g.s g.good }, rest.good);
            last = rest.last;
            spells = g.split ∙ ap (λ (x : List ℕ). g.line ++ 10 ∷ x) rest.spells ∙ ap (λ (x : List ℕ). x ++ 10 ∷ spelled (rest.statements ++ End ∷ [])) form
                ∙ sym (append_assoc (line_for g.s) (10 ∷ []) (spelled (rest.statements ++ End ∷ [])));
            small = omega arith;
          })
    ] where
      the_end : (s : Statement) → is_end (Some s) ≡ true → s ≡ End
      the_end End e = refl
      the_end (Title version) e = absurd cc
      the_end (Heap h) e = absurd cc
      the_end (Alloc form) e = absurd cc
      the_end (Gc distance) e = absurd cc
      the_end (Mark lo hi) e = absurd cc

-- Cycles

-- marks may stand behind this statement
abbrev takes_marks : Statement → Bool
takes_marks (Gc distance) = true
takes_marks (Mark lo hi) = true
takes_marks s = false

-- statements behind the header are the marks of a mark end before them, and then cycles
record Grouped (newest : Statement) (ss : List Statement) : Type 0 where
  marks : List Span
  cycles : List Cycle
  ended : AreEnded cycles
  all : ss ≡ map mark_of marks ++ flat_map cycle_statements cycles
  none : takes_marks newest ≡ false → marks ≡ []

event_of : AllocForm → Event
event_of form = record { proc = form.proc; size = form.size; scan = form.scan; stack = form.stack }

-- an event before the first cycle's
onto_cycle : (newest : Statement) (form : AllocForm) (ss : List Statement) (marks : List Span) (cs : List Cycle) → AreEnded cs → ss ≡ map mark_of marks ++ flat_map cycle_statements cs → marks ≡ [] → Grouped newest (Alloc form ∷ ss)
unfolding event_of
onto_cycle newest form ss marks [] ended all empty = absurd ended
onto_cycle newest form ss marks (c ∷ cs) ended all empty = record {
  marks = [];
  cycles = record { events = event_of form ∷ c.events; mark = c.mark } ∷ cs;
  ended = keeps cs ended;
  all = ap (λ (x : List Statement). Alloc form ∷ x) (all ∙ ap (λ (ms : List Span). map mark_of ms ++ flat_map cycle_statements (c ∷ cs)) empty);
  none = λ _. refl;
} where
  keeps : (cs : List Cycle) → AreEnded (c ∷ cs) → AreEnded (record { events = event_of form ∷ c.events; mark = c.mark } ∷ cs)
  keeps [] is = is
  keeps (d ∷ ds) is = is

-- a mark end behind a cycle without events
new_cycle : (newest : Statement) (distance : ℕ) (ss : List Statement) (marks : List Span) (cs : List Cycle) → AreEnded cs → ss ≡ map mark_of marks ++ flat_map cycle_statements cs → Grouped newest (Gc distance ∷ ss)
new_cycle newest distance ss marks [] ended all = absurd ended
new_cycle newest distance ss marks (c ∷ cs) ended all = record {
  marks = [];
  cycles = record { events = []; mark = Some (record { distance = distance; marks = marks }) } ∷ c ∷ cs;
  ended = (λ none. cc, ended);
  all = ap (λ (x : List Statement). Gc distance ∷ x) all;
  none = λ _. refl;
}

group : (newest older : Statement) (past ss : List Statement) → AreGood (newest ∷ older ∷ past) ss → Grouped newest ss
group newest older past [] good = record { marks = []; cycles = record { events = []; mark = None } ∷ []; ended = refl; all = refl; none = λ _. refl }
group newest older past (Title version ∷ ss) good = (let e : false ≡ true = (sound (newest ∷ older ∷ past) (Title version) good.0).follows in absurd cc)
group newest older past (Heap h ∷ ss) good = (let e : false ≡ true = (sound (newest ∷ older ∷ past) (Heap h) good.0).follows in absurd cc)
group newest older past (End ∷ ss) good = (let e = good.0.not_end in absurd cc)
group newest older past (Alloc form ∷ ss) good =
    let more = group (Alloc form) newest (older ∷ past) ss good.1 in
    onto_cycle newest form ss more.marks more.cycles more.ended more.all (more.none refl)
group newest older past (Gc distance ∷ ss) good =
    let more = group (Gc distance) newest (older ∷ past) ss good.1 in
    new_cycle newest distance ss more.marks more.cycles more.ended more.all
group newest older past (Mark lo hi ∷ ss) good =
    let more = group (Mark lo hi) newest (older ∷ past) ss good.1 in
    let form = (sound (newest ∷ older ∷ past) (Mark lo hi) good.0).follows in
    let begin = (and_parts (nat_le lo hi) (may_begin newest lo) form).1 in
    record {
      marks = record { lo = lo; hi = hi } ∷ more.marks;
      cycles = more.cycles;
      ended = more.ended;
      all = ap (λ (x : List Statement). Mark lo hi ∷ x) more.all;
      none = λ apart. absurd (never newest begin apart);
    } where
      never : (newest : Statement) → may_begin newest lo ≡ true → takes_marks newest ≡ false → ⊥
      never (Gc distance) begin apart = cc
      never (Mark l h) begin apart = cc
      never (Title version) begin apart = cc
      never (Heap h) begin apart = cc
      never (Alloc form) begin apart = cc
      never End begin apart = cc

-- The header

header_from : ℕ → HeapForm → Header
header_from version h = record { version = version; chunks = h.chunks; procs = h.procs; rate = h.rate; seed = h.seed; goal = h.goal }

-- what is within the limits of a version is within those of all
below_max_chunks : (version n : ℕ) → n ≤ max_chunks version → n ≤ MAX_CHUNKS
unfolding max_chunks
below_max_chunks version n le = elim (cases_Bool (version == 1)) [
  | inl first ↦ (let low : n ≤ FIRST_MAX_CHUNKS = rw first at le in omega arith)
  | inr later ↦ rw later at le
]

below_max_pages : (version n : ℕ) → n ≤ max_pages version → n ≤ MAX_PAGES
unfolding max_pages
below_max_pages version n le = elim (cases_Bool (version == 1)) [
  | inl first ↦ (let low : n ≤ FIRST_MAX_PAGES = rw first at le in omega arith)
  | inr later ↦ rw later at le
]

header_fits : (version : ℕ) (h : HeapForm) → is_version version ≡ true → passed (header_numbers version h) ≡ None → HeaderFits (header_from version h) × RegionFits (header_from version h)
unfolding header_from
header_fits version h is e =
    let last = (Goal, nat_le h.goal (max_pages version)) ∷ [] in
    let p1 = passes Chunks (within 1 (max_chunks version) h.chunks) ((Procs, within 1 64 h.procs) ∷ (Rate, nat_le h.rate (2 ^ 30)) ∷ (Seed, nat_lt h.seed (2 ^ 64)) ∷ last) e in
    let p2 = passes Procs (within 1 64 h.procs) ((Rate, nat_le h.rate (2 ^ 30)) ∷ (Seed, nat_lt h.seed (2 ^ 64)) ∷ last) p1.1 in
    let p3 = passes Rate (nat_le h.rate (2 ^ 30)) ((Seed, nat_lt h.seed (2 ^ 64)) ∷ last) p2.1 in
    let p4 = passes Seed (nat_lt h.seed (2 ^ 64)) last p3.1 in
    let p5 = passes Goal (nat_le h.goal (max_pages version)) [] p4.1 in
    let chunks = and_parts (nat_le 1 h.chunks) (nat_le h.chunks (max_chunks version)) p1.0 in
    let procs = and_parts (nat_le 1 h.procs) (nat_le h.procs 64) p2.0 in
    let version_is = and_parts (nat_le 1 version) (nat_le version LATEST_VERSION) is in
    let most_chunks = le_of _ _ chunks.1 in
    let most_pages = le_of _ _ p5.0 in (
      record {
        version = (le_of _ _ version_is.0, le_of _ _ version_is.1);
        chunks = (le_of _ _ chunks.0, below_max_chunks version h.chunks most_chunks);
        procs = (le_of _ _ procs.0, le_of _ _ procs.1);
        rate = le_of _ _ p3.0;
        seed = lt_of _ _ p4.0;
        goal = below_max_pages version h.goal most_pages;
      },
      (most_chunks, most_pages),
    )

-- Traces

-- the two first statements, and those of the cycles
of_parts : (bytes : List ℕ) (version : ℕ) (h : HeapForm) (ss : List Statement) → AreGood [] (Title version ∷ Heap h ∷ ss) → bytes ≡ spelled ((Title version ∷ Heap h ∷ ss) ++ End ∷ []) → length bytes ≤ 67108864 → (t : Trace) × Spells bytes t
unfolding header_from
of_parts bytes version h ss good spells small =
    let fits = header_fits version h (sound [] (Title version) good.0).follows (sound (Title version ∷ []) (Heap h) good.1.0).low in
    let cycles = group (Heap h) (Title version) [] ss good.1.1 in
    let all : ss ≡ flat_map cycle_statements cycles.cycles = cycles.all ∙ ap (λ (ms : List Span). map mark_of ms ++ flat_map cycle_statements cycles.cycles) (cycles.none refl) in (
      trace_of (header_from version h) cycles.cycles,
      record {
        lines = spells ∙ ap (λ (x : List Statement). spelled ((Title version ∷ Heap h ∷ x) ++ End ∷ [])) all;
        limits = trace_fits (header_from version h) cycles.cycles fits.0 fits.1 cycles.ended (subst (AreGood (Heap h ∷ Title version ∷ [])) all good.1.1);
        room = small;
      },
    )

of_statements : (bytes : List ℕ) (ss : List Statement) → AreGood [] ss → may_follow (onto ss []) End ≡ true → bytes ≡ spelled (ss ++ End ∷ []) → length bytes ≤ 67108864 → (t : Trace) × Spells bytes t
of_statements bytes [] good last spells small = absurd cc
of_statements bytes (s ∷ []) good last spells small = absurd cc
of_statements bytes (Title version ∷ Heap h ∷ ss) good last spells small = of_parts bytes version h ss good spells small
of_statements bytes (s ∷ t ∷ ss) good last spells small = (let first : may_follow [] s ≡ true = (sound [] s good.0).follows in let second : may_follow (s ∷ []) t ≡ true = (sound (s ∷ []) t good.1.0).follows in absurd cc)

pub unrefused_spells : (bytes : List ℕ) → refusal bytes ≡ None → (t : Trace) × Spells bytes t
unrefused_spells bytes e =
    let told = told_all (length bytes) (next_number 0) 67108864 [] bytes (omega arith) e in
    of_statements bytes told.statements told.good told.last told.spells told.small
