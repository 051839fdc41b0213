-- Bytes spell one trace.
use Rattle.std.proofs.Common.{◌≡◌, ℕ, Bool, true, false, List, [], ◌∷◌, ◌++◌, map, codes, Option, Some, None, MatchOption, refl, sym, ap, ◌∙◌, subst, append_assoc}
use Rattle.std.specs.List.{AllByRecursion, flat_map}
use Rattle.edge_io.specs.Line.{IsLine}
use Rattle.edge_io.specs.Text.{text}
use Rattle.trace_reader.specs.declared.statement.Statement.{Statement}
use Rattle.trace_reader.specs.declared.statement.Statement.TheVariants.{Title, Alloc, Gc, Mark, End}
use Rattle.trace_reader.specs.declared.statement.HeapForm.{HeapForm}
use Rattle.trace_reader.specs.declared.statement.AllocForm.{AllocForm}
use Rattle.trace_reader.specs.declared.trace.Trace.{Trace}
use Rattle.trace_reader.specs.declared.trace.Header.{Header}
use Rattle.trace_reader.specs.declared.trace.Cycle.{Cycle}
use Rattle.trace_reader.specs.declared.trace.Event.{Event}
use Rattle.trace_reader.specs.declared.trace.MarkEnd.{MarkEnd}
use Rattle.trace_reader.specs.declared.span.Span.{Span}
use Rattle.trace_reader.specs.Says.{said}
use Rattle.trace_reader.specs.Spelling.{alloc_of, cycle_statements, form_of, heap_of, line_for, lines_of, mark_of, mark_statements, spelled}
use Rattle.trace_reader.specs.Limits.{AreCycles, WithinLimits}
use Rattle.trace_reader.specs.Refusal.{is_end, pieces_of}
use Rattle.trace_reader.specs.Good.{AreGood}
use Rattle.trace_reader.proofs.Saying.{said_line, split_at}
use Rattle.trace_reader.proofs.Good.{end_is_line}
use Rattle.trace_reader.proofs.NoFault.{front_good, front_of, front_text}

-- From bytes to statements

-- a line that says its statement, and is not the last one
record IsTold (s : Statement) : Type 0 where
  is_line : IsLine (line_for s)
  says : said (line_for s) ≡ Some s
  not_end : is_end (Some s) ≡ false

abbrev AreTold : List Statement → Type 0
AreTold ss = AllByRecursion IsTold ss

pieces_front : (ss : List Statement) (rest : List ℕ) → AreTold ss → pieces_of (spelled ss ++ rest) ≡ map line_for ss ++ pieces_of rest
pieces_front [] rest told = refl
pieces_front (s ∷ ss) rest told =
    let line = line_for s in
    let more = spelled ss in
    let apart : ((line ++ 10 ∷ []) ++ more) ++ rest ≡ line ++ 10 ∷ (more ++ rest) = rw (append_assoc, append_assoc) refl in
    ap pieces_of apart ∙ split_at 10 line (more ++ rest) told.0.is_line.1 ∙ ap (λ (ps : List (List ℕ)). line ∷ ps) (pieces_front ss rest told.1)

heads : (a b : List ℕ) (xs ys : List (List ℕ)) → a ∷ xs ≡ b ∷ ys → a ≡ b
heads a b xs ys e = cc

tails : (a b : List ℕ) (xs ys : List (List ℕ)) → a ∷ xs ≡ b ∷ ys → xs ≡ ys
tails a b xs ys e = cc

cons_same : (s t : Statement) (ss ts : List Statement) → s ≡ t → ss ≡ ts → s ∷ ss ≡ t ∷ ts
cons_same s t ss ts e f = cc

some_same : (s t : Statement) → Some s ≡ Some t → s ≡ t
some_same s t e = cc

not_last : (s : Statement) → IsTold s → line_for End ≡ line_for s → ⊥
not_last s told e =
    let same : End ≡ s = some_same End s (sym (said_line End tt) ∙ ap said e ∙ told.says) in
    let clash : true ≡ false = ap (λ (t : Statement). is_end (Some t)) same ∙ told.not_end in
    absurd cc

same_fronts : (ss ts : List Statement) (xs ys : List (List ℕ)) → AreTold ss → AreTold ts → map line_for ss ++ (line_for End ∷ xs) ≡ map line_for ts ++ (line_for End ∷ ys) → ss ≡ ts
same_fronts [] [] xs ys told all e = refl
same_fronts [] (t ∷ ts) xs ys told all e = absurd (not_last t all.0 (heads (line_for End) (line_for t) xs (map line_for ts ++ (line_for End ∷ ys)) e))
same_fronts (s ∷ ss) [] xs ys told all e = absurd (not_last s told.0 (sym (heads (line_for s) (line_for End) (map line_for ss ++ (line_for End ∷ xs)) ys e)))
same_fronts (s ∷ ss) (t ∷ ts) xs ys told all e =
    let left = map line_for ss ++ (line_for End ∷ xs) in
    let right = map line_for ts ++ (line_for End ∷ ys) in
    let lines = heads (line_for s) (line_for t) left right e in
    let head = some_same s t (sym told.0.says ∙ ap said lines ∙ all.0.says) in
    cons_same s t ss ts head (same_fronts ss ts xs ys told.1 all.1 (tails (line_for s) (line_for t) left right e))

told_good : (past ss : List Statement) → AreGood past ss → AreTold ss
told_good past [] good = tt
told_good past (s ∷ ss) good = (record { is_line = good.0.is_line; says = good.0.says; not_end = good.0.not_end }, told_good (s ∷ past) ss good.1)

told_front : (t : Trace) → WithinLimits t → AreTold (front_of t)
told_front t limits = told_good [] (front_of t) (front_good t limits)

pieces_trace : (t : Trace) (rest : List ℕ) → WithinLimits t → pieces_of (text (lines_of t) ++ rest) ≡ map line_for (front_of t) ++ (line_for End ∷ pieces_of rest)
pieces_trace t rest limits = ap pieces_of (front_text t rest) ∙ pieces_front (front_of t) (codes "end" ++ 10 ∷ rest) (told_front t limits)
    ∙ ap (λ (ps : List (List ℕ)). map line_for (front_of t) ++ ps) (split_at 10 (codes "end") rest end_is_line.1)

-- From statements to traces

abbrev NoAlloc : List Statement → Type 0
NoAlloc [] = Unit {0}
NoAlloc (Alloc e ∷ ss) = ⊥
NoAlloc (s ∷ ss) = Unit {0}

abbrev NoMark : List Statement → Type 0
NoMark [] = Unit {0}
NoMark (Mark lo hi ∷ ss) = ⊥
NoMark (s ∷ ss) = Unit {0}

same_event : (e f : Event) → alloc_of e ≡ alloc_of f → e ≡ f
same_event e f same =
    let forms : form_of e ≡ form_of f = cc in
    made (ap (λ (x : AllocForm). x.proc) forms) (ap (λ (x : AllocForm). x.size) forms) (ap (λ (x : AllocForm). x.scan) forms) (ap (λ (x : AllocForm). x.stack) forms) where
      event : ℕ → ℕ → Bool → ℕ → Event
      event p s k t = record { proc = p; size = s; scan = k; stack = t }

      made : e.proc ≡ f.proc → e.size ≡ f.size → e.scan ≡ f.scan → e.stack ≡ f.stack → e ≡ f
      made a b c d = ap (λ (p : ℕ). event p e.size e.scan e.stack) a ∙ ap (λ (s : ℕ). event f.proc s e.scan e.stack) b ∙ ap (λ (k : Bool). event f.proc f.size k e.stack) c ∙ ap (λ (t : ℕ). event f.proc f.size f.scan t) d

same_span : (a b : Span) → mark_of a ≡ mark_of b → a ≡ b
same_span a b same =
    let lo : a.lo ≡ b.lo = cc in
    let hi : a.hi ≡ b.hi = cc in
    ap (λ (l : ℕ). span l a.hi) lo ∙ ap (λ (h : ℕ). span b.lo h) hi where
      span : ℕ → ℕ → Span
      span l h = record { lo = l; hi = h }

same_header : (g h : Header) → g.version ≡ h.version → heap_of g ≡ heap_of h → g ≡ h
same_header g h version same =
    let forms : form g ≡ form h = cc in
    made (ap (λ (x : HeapForm). x.chunks) forms) (ap (λ (x : HeapForm). x.procs) forms) (ap (λ (x : HeapForm). x.rate) forms) (ap (λ (x : HeapForm). x.seed) forms) (ap (λ (x : HeapForm). x.goal) forms) where
      form : Header → HeapForm
      form k = record { chunks = k.chunks; procs = k.procs; rate = k.rate; seed = k.seed; goal = k.goal }

      header : ℕ → ℕ → ℕ → ℕ → ℕ → ℕ → Header
      header v c p r s a = record { version = v; chunks = c; procs = p; rate = r; seed = s; goal = a }

      made : g.chunks ≡ h.chunks → g.procs ≡ h.procs → g.rate ≡ h.rate → g.seed ≡ h.seed → g.goal ≡ h.goal → g ≡ h
      made a b c d e = ap (λ (x : ℕ). header x g.chunks g.procs g.rate g.seed g.goal) version ∙ ap (λ (x : ℕ). header h.version x g.procs g.rate g.seed g.goal) a
          ∙ ap (λ (x : ℕ). header h.version h.chunks x g.rate g.seed g.goal) b ∙ ap (λ (x : ℕ). header h.version h.chunks h.procs x g.seed g.goal) c
          ∙ ap (λ (x : ℕ). header h.version h.chunks h.procs h.rate x g.goal) d ∙ ap (λ (x : ℕ). header h.version h.chunks h.procs h.rate h.seed x) e

same_cycle : (c d : Cycle) → c.events ≡ d.events → c.mark ≡ d.mark → c ≡ d
same_cycle c d events mark = ap (λ (es : List Event). cycle es c.mark) events ∙ ap (λ (m : Option MarkEnd). cycle d.events m) mark where
  cycle : List Event → Option MarkEnd → Cycle
  cycle es m = record { events = es; mark = m }

same_mark_end : (m n : MarkEnd) → m.distance ≡ n.distance → m.marks ≡ n.marks → m ≡ n
same_mark_end m n distance marks = ap (λ (d : ℕ). mark_end d m.marks) distance ∙ ap (λ (ss : List Span). mark_end n.distance ss) marks where
  mark_end : ℕ → List Span → MarkEnd
  mark_end d ss = record { distance = d; marks = ss }

events_cons : (e f : Event) (es fs : List Event) → e ≡ f → es ≡ fs → e ∷ es ≡ f ∷ fs
events_cons e f es fs p q = cc

spans_cons : (e f : Span) (es fs : List Span) → e ≡ f → es ≡ fs → e ∷ es ≡ f ∷ fs
spans_cons e f es fs p q = cc

statement_heads : (s t : Statement) (ss ts : List Statement) → s ∷ ss ≡ t ∷ ts → s ≡ t
statement_heads s t ss ts e = cc

statement_tails : (s t : Statement) (ss ts : List Statement) → s ∷ ss ≡ t ∷ ts → ss ≡ ts
statement_tails s t ss ts e = cc

split_allocs : (es fs : List Event) (xs ys : List Statement) → NoAlloc xs → NoAlloc ys → map alloc_of es ++ xs ≡ map alloc_of fs ++ ys → (es ≡ fs) × (xs ≡ ys)
split_allocs [] [] xs ys left right e = (refl, e)
split_allocs [] (f ∷ fs) xs ys left right e = absurd (subst NoAlloc e left)
split_allocs (e ∷ es) [] xs ys left right same = absurd (subst NoAlloc (sym same) right)
split_allocs (e ∷ es) (f ∷ fs) xs ys left right same =
    let head = statement_heads (alloc_of e) (alloc_of f) (map alloc_of es ++ xs) (map alloc_of fs ++ ys) same in
    let more = split_allocs es fs xs ys left right (statement_tails (alloc_of e) (alloc_of f) (map alloc_of es ++ xs) (map alloc_of fs ++ ys) same) in
    (events_cons e f es fs (same_event e f head) more.0, more.1)

split_marks : (es fs : List Span) (xs ys : List Statement) → NoMark xs → NoMark ys → map mark_of es ++ xs ≡ map mark_of fs ++ ys → (es ≡ fs) × (xs ≡ ys)
split_marks [] [] xs ys left right e = (refl, e)
split_marks [] (f ∷ fs) xs ys left right e = absurd (subst NoMark e left)
split_marks (e ∷ es) [] xs ys left right same = absurd (subst NoMark (sym same) right)
split_marks (e ∷ es) (f ∷ fs) xs ys left right same =
    let head = statement_heads (mark_of e) (mark_of f) (map mark_of es ++ xs) (map mark_of fs ++ ys) same in
    let more = split_marks es fs xs ys left right (statement_tails (mark_of e) (mark_of f) (map mark_of es ++ xs) (map mark_of fs ++ ys) same) in
    (spans_cons e f es fs (same_span e f head) more.0, more.1)

-- the statements of cycles and the last one
abbrev tail_of : List Cycle → List Statement
tail_of cs = flat_map cycle_statements cs ++ (End ∷ [])

tail_split : (c : Cycle) (cs : List Cycle) (mark : Option MarkEnd) → c.mark ≡ mark → tail_of (c ∷ cs) ≡ map alloc_of c.events ++ (mark_statements mark ++ tail_of cs)
tail_split c cs mark e = append_assoc (cycle_statements c) (flat_map cycle_statements cs) (End ∷ []) ∙ append_assoc (map alloc_of c.events) (mark_statements c.mark) (tail_of cs)
    ∙ ap (λ (m : Option MarkEnd). map alloc_of c.events ++ (mark_statements m ++ tail_of cs)) e

the_mark : (P : MarkEnd → Type 0) (o : Option MarkEnd) → MatchOption o ⊥ P → (m : MarkEnd) × (o ≡ Some m) × P m
the_mark P None none = absurd none
the_mark P (Some m) here = (m, refl, here)

no_mark : (es : List Event) (m : Option MarkEnd) (xs : List Statement) → (m ≡ None → xs ≡ []) → NoMark (((map alloc_of es ++ mark_statements m) ++ xs) ++ (End ∷ []))
no_mark [] None xs none = subst (λ (zs : List Statement). NoMark (zs ++ (End ∷ []))) (sym (none refl)) tt
no_mark [] (Some m) xs none = tt
no_mark (e ∷ es) m xs none = tt

no_mark_tail : (first : ℕ) (live : ℕ → Type 0) (c : Cycle) (cs : List Cycle) → AreCycles first live (c ∷ cs) → NoMark (tail_of (c ∷ cs))
no_mark_tail first live c [] cycles = no_mark c.events c.mark [] (λ e. refl)
no_mark_tail first live c (d ∷ cs) cycles = no_mark c.events c.mark (flat_map cycle_statements (d ∷ cs)) (λ e. absurd (let m = the_mark _ c.mark cycles in let clash : None ≡ Some m.0 = sym e ∙ m.1 in absurd cc))

same_cycles : (cs ds : List Cycle) (a b : ℕ) (p q : ℕ → Type 0) → AreCycles a p cs → AreCycles b q ds → tail_of cs ≡ tail_of ds → cs ≡ ds
same_cycles [] ds a b p q left right e = absurd left
same_cycles (c ∷ []) [] a b p q left right e = absurd right
same_cycles (c ∷ c2 ∷ cs) [] a b p q left right e = absurd right
same_cycles (c ∷ []) (d ∷ []) a b p q left right e =
    let both = split_allocs c.events d.events (End ∷ []) (End ∷ []) tt tt (sym (tail_split c [] None left) ∙ e ∙ tail_split d [] None right) in
    let same = same_cycle c d both.0 (left ∙ sym right) in
    ap (λ (x : Cycle). x ∷ []) same
same_cycles (c ∷ []) (d ∷ d2 ∷ ds) a b p q left right e =
    let n = the_mark _ d.mark right in
    let both = split_allocs c.events d.events (End ∷ []) (mark_statements (Some n.0) ++ tail_of (d2 ∷ ds)) tt tt (sym (tail_split c [] None left) ∙ e ∙ tail_split d (d2 ∷ ds) (Some n.0) n.1) in
    let clash = statement_heads End (Gc n.0.distance) [] (map mark_of n.0.marks ++ tail_of (d2 ∷ ds)) both.1 in
    absurd cc
same_cycles (c ∷ c2 ∷ cs) (d ∷ []) a b p q left right e =
    let m = the_mark _ c.mark left in
    let both = split_allocs c.events d.events (mark_statements (Some m.0) ++ tail_of (c2 ∷ cs)) (End ∷ []) tt tt (sym (tail_split c (c2 ∷ cs) (Some m.0) m.1) ∙ e ∙ tail_split d [] None right) in
    let clash = statement_heads (Gc m.0.distance) End (map mark_of m.0.marks ++ tail_of (c2 ∷ cs)) [] both.1 in
    absurd cc
same_cycles (c ∷ c2 ∷ cs) (d ∷ d2 ∷ ds) a b p q left right e =
    let m = the_mark _ c.mark left in
    let n = the_mark _ d.mark right in
    let xs = map mark_of m.0.marks ++ tail_of (c2 ∷ cs) in
    let ys = map mark_of n.0.marks ++ tail_of (d2 ∷ ds) in
    let both = split_allocs c.events d.events (Gc m.0.distance ∷ xs) (Gc n.0.distance ∷ ys) tt tt (sym (tail_split c (c2 ∷ cs) (Some m.0) m.1) ∙ e ∙ tail_split d (d2 ∷ ds) (Some n.0) n.1) in
    let gcs = statement_heads (Gc m.0.distance) (Gc n.0.distance) xs ys both.1 in
    let distance : m.0.distance ≡ n.0.distance = cc in
    let after = split_marks m.0.marks n.0.marks (tail_of (c2 ∷ cs)) (tail_of (d2 ∷ ds)) (no_mark_tail _ _ c2 cs m.2.4) (no_mark_tail _ _ d2 ds n.2.4) (statement_tails (Gc m.0.distance) (Gc n.0.distance) xs ys both.1) in
    let mark = same_mark_end m.0 n.0 distance after.0 in
    let here = same_cycle c d both.0 (m.1 ∙ ap Some mark ∙ sym n.1) in
    let more = same_cycles (c2 ∷ cs) (d2 ∷ ds) _ _ _ _ m.2.4 n.2.4 after.1 in
    cycles_cons c d (c2 ∷ cs) (d2 ∷ ds) here more where
      cycles_cons : (c d : Cycle) (cs ds : List Cycle) → c ≡ d → cs ≡ ds → c ∷ cs ≡ d ∷ ds
      cycles_cons c d cs ds p q = cc

same_trace : (t u : Trace) → t.header ≡ u.header → t.cycles ≡ u.cycles → t ≡ u
same_trace t u header cycles = ap (λ (h : Header). trace h t.cycles) header ∙ ap (λ (cs : List Cycle). trace u.header cs) cycles where
  trace : Header → List Cycle → Trace
  trace h cs = record { header = h; cycles = cs }

-- one trace stands at the front of bytes
pub one_trace : (t u : Trace) (xs ys : List ℕ) → WithinLimits t → WithinLimits u → text (lines_of t) ++ xs ≡ text (lines_of u) ++ ys → t ≡ u
one_trace t u xs ys left right e =
    let fronts = same_fronts (front_of t) (front_of u) (pieces_of xs) (pieces_of ys) (told_front t left) (told_front u right) (sym (pieces_trace t xs left) ∙ ap pieces_of e ∙ pieces_trace u ys right) in
    let bodies = statement_tails (Title t.header.version) (Title u.header.version) (heap_of t.header ∷ flat_map cycle_statements t.cycles) (heap_of u.header ∷ flat_map cycle_statements u.cycles) fronts in
    let titles = statement_heads (Title t.header.version) (Title u.header.version) (heap_of t.header ∷ flat_map cycle_statements t.cycles) (heap_of u.header ∷ flat_map cycle_statements u.cycles) fronts in
    let version : t.header.version ≡ u.header.version = cc in
    let header = statement_heads (heap_of t.header) (heap_of u.header) (flat_map cycle_statements t.cycles) (flat_map cycle_statements u.cycles) bodies in
    let cycles = statement_tails (heap_of t.header) (heap_of u.header) (flat_map cycle_statements t.cycles) (flat_map cycle_statements u.cycles) bodies in
    same_trace t u (same_header t.header u.header version header) (same_cycles t.cycles u.cycles _ _ _ _ left.cycles right.cycles (ap (λ (ss : List Statement). ss ++ (End ∷ [])) cycles))
