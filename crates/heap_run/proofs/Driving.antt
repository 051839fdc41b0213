-- What the driver has from turn to turn.
use Rattle.std.proofs.Common.{◌≡◌, ◌≢◌, ℕ, ◌+◌, ◌<◌, ◌≤◌, Bool, List, [], ◌∷◌, ◌++◌, map, reverse, set, length, get_or, refl, sym, ◌∙◌, ap, arith, inl, inr, subst}
use Rattle.std.proofs.lemmas.Bool.{cases_eq, cases_lt}
use Rattle.std.proofs.lemmas.List.{get_or_past, get_or_push, get_or_append_left, get_or-set_same, get_or-set_other, length-append, length-set, append-nil}
use Rattle.span_state.specs.declared.sweep.SweepNote.{SweepNote}
use Rattle.trace_reader.specs.declared.trace.Event.{Event}
use Rattle.cycle_history.specs.declared.Answer.{Answer}
use Rattle.worker_log.specs.declared.Entry.{Entry}
use Rattle.worker_log.specs.Logs.{sweepings}
use Rattle.span_laws.specs.TakeAnswers.{cycle_at}
use Rattle.span_laws.specs.Asks.{IsIdle}
use Rattle.span_laws.specs.Views.{Seen}
use Rattle.span_laws.specs.declared.view.Part.{Part}
use Rattle.span_set.specs.declared.hand.Hand.{Hand}
use Rattle.proc_cache.specs.Cache.{Cache}
use Rattle.heap_run.specs.Parts.{IsSameRun, part_at}
use Rattle.heap_run.specs.Swept.{note_at}
use Rattle.heap_run.specs.Riding.{asked_at, asked_of, given_at, given_of}
use Rattle.heap_run.specs.Turns.{HaveAnswered, HaveAnsweredTo, IsCaching, IsCollecting, IsDriving, KeepsAnswers, SaysAnswers, SaysNone, TookTurn, no_cache}
use Rattle.heap_run.proofs.Parts.{same-trans}
use Rattle.heap_run.proofs.Riding.{none-asked}
use Rattle.heap_run.proofs.Swept.{collected-more}
use Rattle.heap_run.proofs.Acted.{answers-then, none-answers, notes-told, sweepings-append}

-- ---- one turn

-- each worker is idle behind it
pub idle-turn : (P : List Entry → Type 0) (i : ℕ) (d e : Hand) → TookTurn i P d e → ((j : ℕ) → IsIdle (part_at d.worker j)) → (j : ℕ) → IsIdle (part_at e.worker j)
idle-turn P i d e turn idle j = elim (cases_eq j i) [ inl same ↦ rw same turn.idle | inr other ↦ rw (turn.others j other) (idle j) ]

-- a processor's turn
pub driving-turn : (P : List Entry → Type 0) (start : Seen) (procs : List Cache) (i : ℕ) (c : Cache) (d e : Hand) → IsDriving start procs d → TookTurn i P d e → i < length procs → c.number ≡ i
    → IsCaching start.view.generation (part_at e.worker i) c → IsDriving start (set procs i c) e
driving-turn P start procs i c d e driving turn lt number caching =
    let long = length-set procs i c in
    record {
      number = turn.number ∙ driving.number;
      same = same-trans start d.worker e.worker driving.same turn.same;
      idle = idle-turn P i d e turn driving.idle;
      numbers = λ j low. elim (cases_eq j i) [
        | inl same ↦ (let at : (get_or (set procs i c) i no_cache).number ≡ i = ap (λ (x : Cache). x.number) (get_or-set_same procs i c no_cache lt) ∙ number in rw same at)
        | inr other ↦ ap (λ (x : Cache). x.number) (get_or-set_other procs i j c no_cache other) ∙ driving.numbers j (omega arith)
      ];
      caching = λ j low. elim (cases_eq j i) [
        | inl same ↦ (let at : IsCaching start.view.generation (part_at e.worker i) (get_or (set procs i c) i no_cache) = rw (get_or-set_same procs i c no_cache lt) caching in rw same at)
        | inr other ↦ (
            let old = driving.caching j (omega arith) in
            rw (turn.others j other, get_or-set_other procs i j c no_cache other) old)
      ];
      uncached = λ j high. (let other : j ≢ i = λ q. omega arith in ap (λ (h : Part). h.cached) (turn.others j other) ∙ driving.uncached j (omega arith));
    }

-- another worker's turn, in which nothing was cached
pub driving-other : (P : List Entry → Type 0) (start : Seen) (procs : List Cache) (i : ℕ) (d e : Hand) → IsDriving start procs d → TookTurn i P d e → length procs ≤ i
    → (part_at e.worker i).cached ≡ (part_at d.worker i).cached → IsDriving start procs e
driving-other P start procs i d e driving turn high same = record {
  number = turn.number ∙ driving.number;
  same = same-trans start d.worker e.worker driving.same turn.same;
  idle = idle-turn P i d e turn driving.idle;
  numbers = driving.numbers;
  caching = λ j low. (let other : j ≢ i = λ q. omega arith in rw (turn.others j other) (driving.caching j low));
  uncached = λ j past. elim (cases_eq j i) [
    | inl at ↦ subst (λ (k : ℕ). (part_at e.worker k).cached ≡ []) (sym at) (same ∙ driving.uncached i high)
    | inr other ↦ ap (λ (h : Part). h.cached) (turn.others j other) ∙ driving.uncached j past
  ];
}

-- the notes of a turn are those of its sweeps
pub collecting-turn : (P : List Entry → Type 0) (i : ℕ) (d e : Hand) → TookTurn i P d e → IsCollecting d → IsCollecting e
collecting-turn P i d e turn was =
    let g : e.worker.view.generation ≡ d.worker.view.generation = turn.same.generation in
    let notes : e.notes.items ≡ d.notes.items ++ reverse (map (note_at (cycle_at d.worker.view.generation)) (sweepings turn.said)) =
    turn.notes ∙ ap (λ (l : List SweepNote). d.notes.items ++ l) (notes-told d.worker.view.generation turn.said) in
    let more = collected-more (cycle_at d.worker.view.generation) i (λ w. (part_at d.worker w).log) (λ w. (part_at e.worker w).log) d.notes.items (sweepings turn.said) was
    (ap sweepings turn.log ∙ sweepings-append turn.said (part_at d.worker i).log) (λ v other. ap (λ (h : Part). sweepings h.log) (turn.others v (λ q. other (sym q)))) in
    rw (g, notes) more

-- a turn in which no event is answered
pub keeps-turn : (i : ℕ) (d e : Hand) → TookTurn i SaysNone d e → KeepsAnswers d.worker e.worker
keeps-turn i d e turn w events answers was =
    elim (cases_eq w i) [
      | inl same ↦ (
          let was' : SaysAnswers events answers (part_at d.worker i).log = rw same at was in
          let now : SaysAnswers events answers (turn.said ++ (part_at d.worker i).log) = answers-then [] events [] answers turn.said (part_at d.worker i).log (none-answers turn.said turn.did) was' in
          let there : SaysAnswers events answers (part_at e.worker i).log = rw turn.log now in
          rw same there)
      | inr other ↦ subst (λ (l : List Entry). SaysAnswers events answers l) (sym (ap (λ (h : Part). h.log) (turn.others w other))) was
    ]

pub keeps-trans : (a b c : Seen) → KeepsAnswers a b → KeepsAnswers b c → KeepsAnswers a c
keeps-trans a b c ab bc w events answers was = bc w events answers (ab w events answers was)

-- ---- the processors' answers, one processor after another

pub answered-none : (riding : Bool) (queues : List (List Event)) (d : Seen) → ((w : ℕ) → SaysNone (part_at d w).log) → HaveAnsweredTo riding queues 0 [] d
answered-none riding queues d none = record { size = refl; answered = λ w low. absurd (omega arith); others = λ w high. none w }

pub answered-turn : (riding : Bool) (queues : List (List Event)) (k : ℕ) (given : List (List Answer)) (answers : List Answer) (events : List Event) (d e : Hand) → HaveAnsweredTo riding queues k given d.worker → events ≡ get_or queues k []
    → TookTurn k (SaysAnswers (asked_of riding (reverse events) (reverse answers)) (given_of riding (reverse events) (reverse answers))) d e → HaveAnsweredTo riding queues (k + 1) (given ++ answers ∷ []) e.worker
answered-turn riding queues k given answers events d e was queue turn = record {
  size = (let l = length-append given (answers ∷ []) in let s = was.size in omega arith);
  answered = λ w low. elim (cases_eq w k) [
    | inl same ↦ (
        let here : get_or (given ++ answers ∷ []) k [] ≡ answers = get_or_push given answers [] k was.size in
        let old : SaysAnswers [] [] (part_at d.worker k).log = none-answers (part_at d.worker k).log (was.others k (omega arith)) in
        let asked = asked_of riding (reverse events) (reverse answers) in
        let told = given_of riding (reverse events) (reverse answers) in
        let now : SaysAnswers asked told (turn.said ++ (part_at d.worker k).log) = (
        let both = answers-then asked [] told [] turn.said (part_at d.worker k).log turn.did old in
        rw (append-nil asked, append-nil told) at both) in
        let there : SaysAnswers (asked_at riding queues (given ++ answers ∷ []) k) (given_at riding queues (given ++ answers ∷ []) k) (part_at e.worker k).log = rw (here, sym queue, turn.log) now in
        rw same there)
    | inr other ↦ (
        let below : w < k = omega arith in
        let here : get_or (given ++ answers ∷ []) w [] ≡ get_or given w [] = get_or_append_left given (answers ∷ []) [] w (let s = was.size in omega arith) in
        subst (λ (l : List Entry). SaysAnswers (asked_at riding queues (given ++ answers ∷ []) w) (given_at riding queues (given ++ answers ∷ []) w) l) (sym (ap (λ (h : Part). h.log) (turn.others w other))) (rw here (was.answered w below)))
  ];
  others = λ w high. (let other : w ≢ k = λ q. omega arith in subst (λ (l : List Entry). SaysNone l) (sym (ap (λ (h : Part). h.log) (turn.others w other))) (was.others w (omega arith)));
}

-- all have
pub answered-all : (riding : Bool) (queues : List (List Event)) (k : ℕ) (given : List (List Answer)) (d : Seen) → length queues ≤ k → HaveAnsweredTo riding queues k given d → HaveAnswered riding queues given d
answered-all riding queues k given d long was w =
    elim (cases_lt w k) [
      | inl low ↦ was.answered w low
      | inr high ↦ (
          let q : get_or queues w [] ≡ [] = get_or_past queues w [] (omega arith) in
          let a : get_or given w [] ≡ [] = get_or_past given w [] (let s = was.size in omega arith) in
          rw (q, a) (none-asked riding (part_at d w).log (was.others w high)))
    ]

-- ---- the processor of a number

-- a processor's number is its place
pub proc-number : (start : Seen) (procs : List Cache) (d : Hand) (c : Cache) (p : ℕ) → IsDriving start procs d → p < length procs → c ≡ get_or procs p no_cache → c.number ≡ p
proc-number start procs d c p driving lt is = ap (λ (x : Cache). x.number) is ∙ driving.numbers p lt

pub proc-caching : (start : Seen) (procs : List Cache) (d : Hand) (c : Cache) (p : ℕ) → IsDriving start procs d → p < length procs → c ≡ get_or procs p no_cache
    → IsCaching d.worker.view.generation (part_at d.worker c.number) c
proc-caching start procs d c p driving lt is =
    let base : IsCaching start.view.generation (part_at d.worker p) c = subst (λ (x : Cache). IsCaching start.view.generation (part_at d.worker p) x) (sym is) (driving.caching p lt) in
    let numbered : IsCaching start.view.generation (part_at d.worker c.number) c = subst (λ (k : ℕ). IsCaching start.view.generation (part_at d.worker k) c) (sym (proc-number start procs d c p driving lt is)) base in
    subst (λ (g : ℕ). IsCaching g (part_at d.worker c.number) c) (sym driving.same.generation) numbered

-- what a call told of it, by its place
pub placed-turn : (P : List Entry → Type 0) (start : Seen) (procs : List Cache) (d e : Hand) (c : Cache) (p : ℕ) → IsDriving start procs d → p < length procs → c ≡ get_or procs p no_cache → TookTurn c.number P d e → TookTurn p P d e
placed-turn P start procs d e c p driving lt is turn = subst (λ (k : ℕ). TookTurn k P d e) (proc-number start procs d c p driving lt is) turn

pub placed-caching : (start : Seen) (procs : List Cache) (d e : Hand) (c c' : Cache) (p : ℕ) → IsDriving start procs d → p < length procs → c ≡ get_or procs p no_cache
    → IsCaching d.worker.view.generation (part_at e.worker c.number) c' → IsCaching start.view.generation (part_at e.worker p) c'
placed-caching start procs d e c c' p driving lt is caching =
    let placed : IsCaching d.worker.view.generation (part_at e.worker p) c' = subst (λ (k : ℕ). IsCaching d.worker.view.generation (part_at e.worker k) c') (proc-number start procs d c p driving lt is) caching in
    subst (λ (g : ℕ). IsCaching g (part_at e.worker p) c') driving.same.generation placed

pub same-refl : (w : Seen) → IsSameRun w w
same-refl w = record { away = refl; table = refl; caching = refl; parts = refl; region = refl; goal = refl; procs = refl; generation = refl; marks = refl; before = refl; carried = refl }

-- those below a number have flushed, and one more
pub flushed-more : (procs : List Cache) (g p : ℕ) (c : Cache) → p < length procs → ((i : ℕ) → i < p → (get_or procs i no_cache).flushed ≡ g) → c.flushed ≡ g → (i : ℕ) → i < p + 1 → (get_or (set procs p c) i no_cache).flushed ≡ g
flushed-more procs g p c lt was now i low =
    elim (cases_eq i p) [
      | inl same ↦ subst (λ (k : ℕ). (get_or (set procs p c) k no_cache).flushed ≡ g) (sym same) (ap (λ (x : Cache). x.flushed) (get_or-set_same procs p c no_cache lt) ∙ now)
      | inr other ↦ ap (λ (x : Cache). x.flushed) (get_or-set_other procs p i c no_cache other) ∙ was i (omega arith)
    ]
