-- A run from its start over its cycles to its report.
use Rattle.std.proofs.Common.{◌≡◌, ℕ, zero, suc, ◌+◌, ◌*◌, ◌<◌, ◌≤◌, Bool, true, false, ◌&&◌, eqb, List, [], ◌∷◌, ◌++◌, map, reverse, take, length, get_or, Option, Some, refl, sym, ◌∙◌, ap, arith, ◌⊎◌, inl, inr, subst}
use Rattle.std.specs.List.{AllByRecursion, flat_map}
use Rattle.std.specs.Prelude.{All, ◌^◌}
use Rattle.std.specs.List.Sorted.{IsNonDecreasingBy, IsPermutation}
use Rattle.std.proofs.lemmas.Bool.{cases_Bool, eq-eqb}
use Rattle.std.proofs.lemmas.List.{get_or_append_left, length-append, length-reverse, reverse-reverse, take_all}
use lib.ListN.{get_elem?}
use mathlib.Core.Option.{some}
use Rattle.page_bitmap.specs.Counts.{one_if}
use Rattle.page_bitmap.specs.declared.line.Line.{Line}
use Rattle.page_alloc.specs.Blocks.{open_blocks}
use Rattle.page_alloc.specs.Journal.{AreAllowed}
use Rattle.page_alloc.specs.Lists.{In}
use Rattle.span_state.specs.MarkSet.{MarkSet, has_pair}
use Rattle.worker_log.specs.declared.Entry.{Entry}
use Rattle.worker_log.specs.declared.Entry.TheVariants.{Looked, LookedEmptyCell, Popped, Pushed, Swept, Took, Missed as MissedEntry, Gave, Allocated, Found, Read, Added, Pulled, NoPage, Cut as CutEntry, NoCut, Settled}
use Rattle.worker_log.specs.declared.Placing.{Placing}
use Rattle.worker_log.specs.Logs.{placings, refusals, sweepings}
use Rattle.worker_log.specs.Entries.{many}
use Rattle.span_laws.specs.TakeAnswers.{cycle_at}
use Rattle.span_laws.specs.Asks.{IsIdle}
use Rattle.span_laws.specs.MarkEndAsks.{IsKnown}
use Rattle.span_laws.specs.Logs.{is_placing_at}
use Rattle.span_laws.specs.Views.{Seen, parts_of}
use Rattle.span_laws.specs.MarkEnds.{allocated_pairs, placed_pairs}
use Rattle.span_laws.specs.declared.view.Part.{Part}
use Rattle.span_laws.specs.declared.view.View.{View}
use Rattle.span_state.specs.declared.sweep.SweepNote.{SweepNote}
use Rattle.trace_reader.specs.declared.trace.Trace.{Trace}
use Rattle.trace_reader.specs.declared.trace.Cycle.{Cycle}
use Rattle.trace_reader.specs.declared.trace.Event.{Event}
use Rattle.trace_reader.specs.Limits.{AreCycles, EventFits, WithinLimits, events_of}
use Rattle.cycle_history.specs.declared.Answer.{Answer}
use Rattle.cycle_history.specs.declared.Report.{Report}
use Rattle.cycle_history.specs.declared.places.Place.{Place}
use Rattle.cycle_history.specs.Counted.{AreObjectsOf}
use Rattle.cycle_history.specs.Found.{AreFound}
use Rattle.cycle_history.specs.Marked.{ArePlacesOf}
use Rattle.cycle_history.specs.Before.{AreClear, AreObjectsBefore, IsLimited}
use Rattle.cycle_history.specs.Objects.{Object}
use Rattle.cycle_history.specs.Requests.{caching_procs, last_cycle, marked_by, region_of}
use Rattle.cycle_history.specs.Sound.{HasAnswers, HasForm, IsSoundAndUsed, past_in}
use Rattle.cycle_history.specs.Sweeps.{AreTotals}
use Rattle.cycle_history.proofs.Firsts.{before-le}
use Rattle.cycle_history.proofs.Found.{found-kept}
use Rattle.cycle_history.proofs.Kept.{marks-grow}
use Rattle.cycle_history.proofs.OfObjects.{answers-before}
use Rattle.run_laws.specs.Reached.{Began, Reached}
use Rattle.run_laws.proofs.Ends.{reached-sound}
use Rattle.span_set.specs.declared.hand.Hand.{Hand}
use Rattle.proc_cache.specs.Cache.{Cache}
use Rattle.heap_run.specs.Parts.{part_at}
use Rattle.heap_run.specs.Runs.{HasBegun, HasCompleted}
use Rattle.heap_run.specs.Served.{answers_by, events_by}
use Rattle.heap_run.specs.Settled.{HasFlushed, HasWorked}
use Rattle.heap_run.specs.Swept.{AreCollected}
use Rattle.heap_run.specs.Turns.{HaveAnswered, IsCaching, IsCollecting, IsDriving, SaysNone, no_cache}
use Rattle.heap_run.specs.declared.run.Run.{Run}
use Rattle.heap_run.specs.Riding.{asked_of, given_of}
use Rattle.heap_run.proofs.Acted.{tells-length}
use Rattle.heap_run.proofs.Riding.{asked-many, given-many}
use Rattle.heap_run.proofs.Driving.{same-refl}
use Rattle.heap_run.proofs.Profiling.{HasTallied, counted-next, profiled-next, told-next}
use Rattle.heap_run.proofs.Telling.{objects-few, profile-in}
use Rattle.heap_run.proofs.Last.{placed-in, tells-last}
use Rattle.heap_run.proofs.Reaching.{Ends, goes-on}
use Rattle.profile_lines.specs.Read.{all_lines}
use Rattle.heap_run.proofs.Settling.{driving-now}
use Rattle.heap_run.proofs.Swept.{collected-none}

-- ---- pairs of a page and an index

pair-cases : (xs ys : List (ℕ × ℕ)) (p k : ℕ) → has_pair (xs ++ ys) p k ≡ true → (has_pair xs p k ≡ true) ⊎ (has_pair ys p k ≡ true)
pair-cases [] ys p k h = inr h
pair-cases (x ∷ xs) ys p k h =
    elim (cases_Bool (eqb x.0 p && eqb x.1 k)) [
      | inl on ↦ inl (rw on refl)
      | inr off ↦ (
          let h' : has_pair (xs ++ ys) p k ≡ true = rw off at h in
          elim (pair-cases xs ys p k h') [ inl a ↦ inl (rw off a) | inr b ↦ inr b ])
    ]

-- a pair at which a log places an object
logged-pair : (log : List Entry) (p k : ℕ) → has_pair (map (λ (a : Placing). (a.page, a.index)) (placings log)) p k ≡ true → 0 < many (is_placing_at p k) log
logged-pair [] p k h = cc
logged-pair (Allocated a ∷ log) p k h =
    elim (cases_Bool (eqb a.page p && eqb a.index k)) [
      | inl on ↦ (let one : one_if (is_placing_at p k (Allocated a)) ≡ 1 = ap one_if on in omega arith)
      | inr off ↦ (
          let h' : has_pair (map (λ (b : Placing). (b.page, b.index)) (placings log)) p k ≡ true = rw off at h in
          let rest = logged-pair log p k h' in omega arith)
    ]
logged-pair (Swept s ∷ log) p k h = let rest = logged-pair log p k h in omega arith
logged-pair (MissedEntry n line ∷ log) p k h = let rest = logged-pair log p k h in omega arith
logged-pair (Looked a b c ∷ log) p k h = let rest = logged-pair log p k h in omega arith
logged-pair (LookedEmptyCell a b ∷ log) p k h = let rest = logged-pair log p k h in omega arith
logged-pair (Pulled number line ∷ log) p k h = let rest = logged-pair log p k h in omega arith
logged-pair (NoPage ∷ log) p k h = let rest = logged-pair log p k h in omega arith
logged-pair (CutEntry page pages class ∷ log) p k h = let rest = logged-pair log p k h in omega arith
logged-pair (NoCut pages left ∷ log) p k h = let rest = logged-pair log p k h in omega arith
logged-pair (Settled number ∷ log) p k h = let rest = logged-pair log p k h in omega arith
logged-pair (Popped a b ∷ log) p k h = let rest = logged-pair log p k h in omega arith
logged-pair (Pushed a b ∷ log) p k h = let rest = logged-pair log p k h in omega arith
logged-pair (Took n line ∷ log) p k h = let rest = logged-pair log p k h in omega arith
logged-pair (Gave a b ∷ log) p k h = let rest = logged-pair log p k h in omega arith
logged-pair (Found a b ∷ log) p k h = let rest = logged-pair log p k h in omega arith
logged-pair (Read a b ∷ log) p k h = let rest = logged-pair log p k h in omega arith
logged-pair (Added a b ∷ log) p k h = let rest = logged-pair log p k h in omega arith

placed-pair : (ps : List Part) (p k : ℕ) → has_pair (placed_pairs ps) p k ≡ true → (i : ℕ) × (h : Part) × (get_elem? ps i ≡ some h) × (0 < many (is_placing_at p k) h.log)
placed-pair [] p k h = absurd (let e : false ≡ true = h in cc)
placed-pair (x ∷ ps) p k h =
    elim (pair-cases (map (λ (a : Placing). (a.page, a.index)) (placings x.log)) (placed_pairs ps) p k h) [
      | inl here ↦ (0, x, refl, logged-pair x.log p k here)
      | inr there ↦ (let at = placed-pair ps p k there in (suc at.0, at.1, at.2, at.3))
    ]

-- an allocated pair is known
known-pair : (n : ℕ) (v : View) (m : ℕ × ℕ) → has_pair (allocated_pairs n v) m.0 m.1 ≡ true → IsKnown n v m
known-pair n v m h = elim (pair-cases v.marks (placed_pairs (parts_of n v)) m.0 m.1 h) [ inl old ↦ inl old | inr new ↦ inr (placed-pair (parts_of n v) m.0 m.1 new) ]

has-own : (all : List (ℕ × ℕ)) (m : ℕ × ℕ) → In m all → has_pair all m.0 m.1 ≡ true
has-own [] m h = absurd h
has-own (x ∷ all) m h =
    elim h [
      | inl here ↦ (
          let a : eqb x.0 m.0 ≡ true = eq-eqb x.0 m.0 (ap (λ (y : ℕ × ℕ). y.0) here) in
          let b : eqb x.1 m.1 ≡ true = eq-eqb x.1 m.1 (ap (λ (y : ℕ × ℕ). y.1) here) in
          rw (a, b) refl)
      | inr there ↦ (let rest = has-own all m there in elim (cases_Bool (eqb x.0 m.0 && eqb x.1 m.1)) [ inl on ↦ rw on refl | inr off ↦ rw off rest ])
    ]

known-each : (n : ℕ) (v : View) (all some : List (ℕ × ℕ)) → ((m : ℕ × ℕ) → In m some → In m all) → ((p k : ℕ) → has_pair all p k ≡ true → has_pair (allocated_pairs n v) p k ≡ true) → AllByRecursion (IsKnown n v) some
known-each n v all [] sub h = tt
known-each n v all (m ∷ rest) sub h = (known-pair n v m (h m.0 m.1 (has-own all m (sub m (inl refl)))), known-each n v all rest (λ x i. sub x (inr i)) h)

-- all marks of a mark end are known, where what it marks is allocated
pub known-all : (n : ℕ) (v : View) (pairs : List (ℕ × ℕ)) → ((p k : ℕ) → has_pair pairs p k ≡ true → has_pair (allocated_pairs n v) p k ≡ true) → AllByRecursion (IsKnown n v) pairs
known-all n v pairs h = known-each n v pairs pairs (λ m i. i) h

-- ---- the events of a cycle

-- what holds of each event holds at each place
at-place : {X : Type 0} (P : X → Type 0) (xs : List X) (k : ℕ) (d : X) → k < length xs → AllByRecursion P xs → P (get_or xs k d)
at-place P [] k d lt all = absurd (omega arith)
at-place P (x ∷ xs) zero d lt all = all.0
at-place P (x ∷ xs) (suc k) d lt all = at-place P xs k d (omega arith) all.1

all-parts : {X : Type 0} (P : X → Type 0) (xs ys : List X) → AllByRecursion P (xs ++ ys) → AllByRecursion P xs × AllByRecursion P ys
all-parts P [] ys all = (tt, all)
all-parts P (x ∷ xs) ys all = let rest = all-parts P xs ys all.1 in ((all.0, rest.0), rest.1)

all-cycle : (P : Event → Type 0) (cycles : List Cycle) (c : ℕ) (d : Cycle) → c < length cycles → AllByRecursion P (flat_map (λ (x : Cycle). x.events) cycles) → AllByRecursion P (get_or cycles c d).events
all-cycle P [] c d lt all = absurd (omega arith)
all-cycle P (x ∷ cycles) zero d lt all = (all-parts P x.events (flat_map (λ (x : Cycle). x.events) cycles) all).0
all-cycle P (x ∷ cycles) (suc c) d lt all = all-cycle P cycles c d (omega arith) (all-parts P x.events (flat_map (λ (x : Cycle). x.events) cycles) all).1

pub events-of : (events : List Event) (read cycles : List Cycle) (c : ℕ) (d : Cycle) → events ≡ (get_or read c d).events → read ≡ cycles → events ≡ (get_or cycles c d).events
events-of events read cycles c d at same = at ∙ ap (λ (cs : List Cycle). (get_or cs c d).events) same

pub some-cycle : (first : ℕ) (live : ℕ → Type 0) (cycles : List Cycle) → AreCycles first live cycles → 1 ≤ length cycles
some-cycle first live [] are = absurd are
some-cycle first live (c ∷ cycles) are = omega arith

pub cycle-fits : (t : Trace) (c : ℕ) (d : Cycle) → IsLimited t → c < length t.cycles → AllByRecursion (EventFits t.header.procs) (get_or t.cycles c d).events
cycle-fits t c d limits lt = all-cycle (EventFits t.header.procs) t.cycles c d lt limits.events

pub procs-below : (procs n : ℕ) (events : List Event) → n ≡ procs → AllByRecursion (EventFits procs) events → All (λ (e : Event). e.proc < n) events
procs-below procs n events same fits k e lt = (let p = (at-place (EventFits procs) events k e lt fits).proc in omega arith)

-- the events of a worker are among all
all-by : (P : Event → Type 0) (w : ℕ) (events : List Event) → AllByRecursion P events → AllByRecursion P (events_by w events)
all-by P w [] all = tt
all-by P w (e ∷ events) all = elim (cases_Bool (eqb e.proc w)) [
  | inl on ↦ rw on (all.0, all-by P w events all.1)
  | inr off ↦ rw off (all-by P w events all.1)
]

pub sizes-by : (procs w : ℕ) (events queue : List Event) → queue ≡ events_by w events → AllByRecursion (EventFits procs) events → All (λ (e : Event). e.size ≤ 2 ^ 40) queue
sizes-by procs w events queue is fits k e lt =
    let all : AllByRecursion (EventFits procs) queue = subst (λ (l : List Event). AllByRecursion (EventFits procs) l) (sym is) (all-by (EventFits procs) w events fits) in
    (at-place (EventFits procs) queue k e lt all).size

-- as many answers as events, of each processor
pub given-sizes : (riding : Bool) (queues : List (List Event)) (given : List (List Answer)) (events : List Event) (d : Seen) → HaveAnswered riding queues given d → ((w : ℕ) → get_or queues w [] ≡ events_by w events)
    → (w : ℕ) → length (get_or given w []) ≡ length (events_by w events)
given-sizes riding queues given events d answered queue w =
    let es = reverse (get_or queues w []) in
    let ans = reverse (get_or given w []) in
    let a = tells-length (part_at d w).log (asked_of riding es ans) (given_of riding es ans) (placings (part_at d w).log) (refusals (part_at d w).log) (answered w) in
    let m = asked-many riding es ans in
    let n = given-many riding es ans in
    let b = length-reverse (get_or given w []) in
    let e = length-reverse (get_or queues w []) in
    let f = ap (λ (l : List Event). length l) (queue w) in
    omega arith

-- ---- a cycle runs to its end

-- as it begins no note waits, and no log has anything
pub blank-none : (d : Seen) → ((w : ℕ) → (part_at d w).log ≡ []) → (w : ℕ) → SaysNone (part_at d w).log
blank-none d blank w = rw (blank w) (refl, refl)

pub blank-collecting : (d : Hand) → ((w : ℕ) → (part_at d.worker w).log ≡ []) → d.notes.items ≡ [] → IsCollecting d
blank-collecting d blank none =
    let start = collected-none (cycle_at d.worker.view.generation) (λ w. (part_at d.worker w).log) (λ w. ap sweepings (blank w)) in
    rw none start

cycle-now : (g c : ℕ) → g ≡ 2 * c + 4 → cycle_at g ≡ c
cycle-now g c is = rw is (omega arith)

-- with other notes
drives-on : (start : Seen) (procs : List Cache) (d e : Hand) → e.worker ≡ d.worker → IsDriving start procs d → IsDriving e.worker procs e
drives-on start procs d e is driving =
    let now = driving-now start procs d driving in
    record {
      number = ap (λ (w : Seen). w.number) is ∙ now.number;
      same = same-refl e.worker;
      idle = λ i. subst (λ (w : Seen). IsIdle (part_at w i)) (sym is) (now.idle i);
      numbers = now.numbers;
      caching = λ i lt. subst (λ (w : Seen). IsCaching w.view.generation (part_at w i) (get_or procs i no_cache)) (sym is) (now.caching i lt);
      uncached = λ i past. subst (λ (w : Seen). (part_at w i).cached ≡ []) (sym is) (now.uncached i past);
    }

-- where none of the first objects is sampled, none is with more objects behind
clear-more : (old more : List Bool) (n : ℕ) → AreClear old n → AreClear (old ++ more) n
clear-more old more n clear = record {
  inside = (let long = length-append old more in let within = clear.inside in omega arith);
  unset = λ i low. get_or_append_left old more false i (let within = clear.inside in omega arith) ∙ clear.unset i low;
}

pub limited : (t : Trace) → WithinLimits t → IsLimited t
limited t limits = record { header = limits.header; events = limits.events; cycles = limits.cycles; objects = limits.objects; mark_ends = limits.mark_ends }

-- What a cycle's calls left: the workers worked, the answers were merged, and the notes filed.
pub record CycleRan (t : Trace) (c : ℕ) (d : Cycle) (old new : Run) (queues : List (List Event)) (given : List (List Answer)) (ended : Hand) : Type 0 where
  pub inside : c < length t.cycles
  pub queued : (w : ℕ) → get_or queues w [] ≡ events_by w (get_or t.cycles c d).events
  pub worked : HasWorked false queues given old.driver new.procs.items ended
  pub procs : length new.procs.items ≡ length old.procs.items
  pub more : List Answer
  pub grown : new.answers ≡ old.answers ++ more
  pub long : length more ≡ length (get_or t.cycles c d).events
  pub merged : (w : ℕ) → answers_by w (get_or t.cycles c d).events more ≡ get_or given w []
  pub sorted : List SweepNote
  pub filed : new.sweeps ≡ old.sweeps ++ sorted
  pub permutation : IsPermutation ended.notes.items sorted
  pub rising : IsNonDecreasingBy (λ (n : SweepNote). n.page) sorted
  pub worker : new.driver.worker ≡ ended.worker
  pub notes : new.driver.notes.items ≡ []
  pub shared : new.shared ≡ old.shared
  pub places : new.places ≡ old.places
  pub clear : new.clear ≡ old.clear
  pub marks : new.marks ≡ old.marks
  pub tallied : HasTallied t c d old new queues given more ended

pub cycle-run : (t : Trace) (c : ℕ) (d : Cycle) (old new : Run) (queues : List (List Event)) (given : List (List Answer)) (ended : Hand) → IsLimited t → HasBegun t c old → CycleRan t c d old new queues given ended → HasCompleted t c new
cycle-run t c d old new queues given ended limits begun ran =
    let s = begun.set in
    let w = ran.worked in
    let same = w.driving.same in
    let v = ended.worker in
    let gen : v.view.generation ≡ 2 * c + 4 = same.generation ∙ s.generation in
    let now : cycle_at v.view.generation ≡ c = cycle-now v.view.generation c gen in
    let ends : Ends t c d begun.objects old.answers ran.more queues given old.sweeps ended.notes.items ran.sorted v = record {
      cycles = limits.cycles;
      inside = ran.inside;
      region = same.region ∙ s.region;
      goal = same.goal ∙ s.goal;
      now = now;
      asked = begun.asked;
      began = subst (λ (l : List Line). Began (marked_by t) (region_of t) t.header.goal c l begun.objects (reverse old.sweeps) (has_pair v.view.carried)) (sym same.before)
          (subst (λ (l : List (ℕ × ℕ)). Began (marked_by t) (region_of t) t.header.goal c old.driver.worker.view.before begun.objects (reverse old.sweeps) (has_pair l)) (sym same.carried) begun.began);
      marks = λ e cyc before marks. begun.marked e cyc (before ∙ same.before) (marks ∙ ap (λ (l : List (ℕ × ℕ)). has_pair l) same.marks);
      queued = ran.queued;
      answered = w.answered;
      long = ran.long;
      merged = ran.merged;
      collected_are = subst (λ (k : ℕ). AreCollected k (λ i. (part_at v i).log) ended.notes.items) now w.collecting;
      permutation = ran.permutation;
      rising = ran.rising;
      settled = w.settled;
    } in
    let goes = goes-on t c d begun.objects old.answers ran.more queues given old.sweeps ended.notes.items ran.sorted v ends in
    let before = answers-before t c old.answers begun.objects begun.asked in
    let longer = length-append old.answers ran.more in
    record {
      set = record {
        works = (
          ap (λ (x : Seen). x.table) ran.worker ∙ same.table ∙ s.works.0 ∙ sym ran.shared,
          ap (λ (x : Seen). x.away) ran.worker ∙ same.away ∙ s.works.1,
        );
        parts = ap (λ (x : Seen). length x.view.parts) ran.worker ∙ same.parts ∙ s.parts;
        region = ap (λ (x : Seen). x.view.region) ran.worker ∙ same.region ∙ s.region;
        goal = ap (λ (x : Seen). x.view.goal) ran.worker ∙ same.goal ∙ s.goal;
        caching = ap (λ (x : Seen). x.view.procs) ran.worker ∙ same.procs ∙ s.caching;
        generation = ap (λ (x : Seen). x.view.generation) ran.worker ∙ gen;
        driving = drives-on old.driver.worker new.procs.items ended new.driver ran.worker w.driving;
        procs = ran.procs ∙ s.procs;
        notes = ran.notes;
        kept = ap (λ (l : List (Option Place)). length l) ran.places ∙ s.kept;
        found = subst (λ (l : List Answer). AreFound t l new.places) (sym ran.grown) (subst (λ (l : List (Option Place)). AreFound t (old.answers ++ ran.more) l) (sym ran.places)
            (found-kept t old.answers ran.more old.places (let k = s.kept in omega arith) s.found));
        clear = subst (λ (n : ℕ). AreClear new.sampled n) (sym ran.clear) (subst (λ (l : List Bool). AreClear l old.clear) (sym ran.tallied.flags_grown)
            (clear-more old.sampled ran.tallied.given_flags old.clear s.clear));
        placed = subst (λ (l : List Answer). ArePlacesOf t c l new.marks) (sym ran.grown) (subst (λ (m : MarkSet). ArePlacesOf t c (old.answers ++ ran.more) m) (sym ran.marks)
            (marks-grow t c old.answers ran.more old.marks limits before s.placed));
      };
      objects = goes.news ++ begun.objects;
      past = goes.past;
      asked = subst (λ (l : List Answer). AreObjectsBefore t (suc c) l (goes.news ++ begun.objects)) (sym ran.grown) goes.asked;
      reached = subst (λ (l : List SweepNote). Reached (marked_by t) (region_of t) t.header.goal c goes.past (goes.news ++ begun.objects) (reverse l) (has_pair (allocated_pairs new.driver.worker.number new.driver.worker.view))) (sym ran.filed)
          (subst (λ (x : Seen). Reached (marked_by t) (region_of t) t.header.goal c goes.past (goes.news ++ begun.objects) (reverse (old.sweeps ++ ran.sorted)) (has_pair (allocated_pairs x.number x.view))) (sym ran.worker) goes.reached);
      allowed = subst (λ (n : ℕ). AreAllowed n goes.past) (same.procs ∙ s.caching) goes.allowed;
      settled = goes.settled;
      journal = ap (λ (x : Seen). x.journal) ran.worker ∙ goes.journal;
      flushed = subst (λ (x : Seen). HasFlushed new.procs.items x) (sym ran.worker) w.flushed;
      last = tells-last t c d queues given old.answers ran.more new.answers old.sweeps ran.sorted ended.notes.items new.sweeps v new.driver.worker ran.inside before ran.grown ran.filed ran.worker w.answered ran.queued ran.merged
          (subst (λ (k : ℕ). AreCollected k (λ i. (part_at v i).log) ended.notes.items) now w.collecting) ran.permutation begun.began.notes_older;
      placed = λ i. placed-in goes.past goes.e (part_at new.driver.worker i).log i goes.facts.places (goes.numbers i) goes.whole (goes.logs i ∙ ap (λ (x : Seen). (part_at x i).log) (sym ran.worker));
      profiled = profiled-next t c d old new queues given ran.more ran.sorted ended ran.inside begun ran.queued ran.long ran.merged ran.procs ran.permutation ran.grown same.before ran.tallied goes;
      counted = counted-next t c d old new queues given ran.more ran.sorted ended ran.inside begun ran.queued ran.long ran.merged ran.procs ran.permutation ran.grown same.before ran.tallied goes;
      told = told-next t c d old new queues given ran.more ran.sorted ended ran.inside begun ran.queued ran.long ran.merged ran.procs ran.permutation ran.grown same.before ran.tallied goes;
    }

-- ---- the report

pub run-all : (t : Trace) (answers : List Answer) (objects : List Object) → 1 ≤ length t.cycles → AreObjectsBefore t (suc (last_cycle t)) answers objects → AreObjectsOf t answers objects
run-all t answers objects least asked =
    let all : take (suc (last_cycle t)) t.cycles ≡ t.cycles = take_all (suc (last_cycle t)) t.cycles (omega arith) in
    record { asked = rw all at asked.asked; printed = asked.printed }

pub all-answers : (t : Trace) (answers : List Answer) (objects : List Object) → 1 ≤ length t.cycles → AreObjectsBefore t (suc (last_cycle t)) answers objects → length answers ≡ length (events_of t)
all-answers t answers objects least asked =
    let all : take (suc (last_cycle t)) t.cycles ≡ t.cycles = take_all (suc (last_cycle t)) t.cycles (omega arith) in
    answers-before t (suc (last_cycle t)) answers objects asked ∙ ap (λ (cs : List Cycle). length (flat_map (λ (x : Cycle). x.events) cs)) all

pub report-sound : (t : Trace) (run : Run) (report : Report) (past : List Line) → IsLimited t → HasCompleted t (last_cycle t) run → run.driver.worker.journal ≡ Some past → past_in report ≡ past → report.answers ≡ run.answers → report.sweeps ≡ run.sweeps
    → ((objects : List Object) → AreObjectsOf t run.answers objects → AreTotals (marked_by t) (last_cycle t) objects report.totals)
    → report.profile ≡ run.profile.lines ++ all_lines run.profile.known run.driver.tally.view.calls (last_cycle t) run.profile.order → IsSoundAndUsed t report × HasForm t report run.profile.each
report-sound t run report past limits ran told journal printed sweeps totals lines =
    let least = some-cycle 0 (λ _. ⊥) t.cycles limits.cycles in
    let all = run-all t run.answers ran.objects least ran.asked in
    let one : Some ran.past ≡ Some past = sym ran.journal ∙ told in
    let same : ran.past ≡ past = cc in
    let reached : Reached (marked_by t) (region_of t) t.header.goal (last_cycle t) (past_in report) ran.objects (reverse run.sweeps) (has_pair (allocated_pairs run.driver.worker.number run.driver.worker.view)) =
    subst (λ (l : List Line). Reached (marked_by t) (region_of t) t.header.goal (last_cycle t) l ran.objects (reverse run.sweeps) (has_pair (allocated_pairs run.driver.worker.number run.driver.worker.view))) (same ∙ sym journal) ran.reached in
    let whole : ran.past ≡ past_in report = same ∙ sym journal in
    let allowed = subst (λ (l : List Line). AreAllowed (caching_procs t) l) whole ran.allowed in
    let settled = subst (λ (l : List Line). open_blocks l ≡ []) whole ran.settled in
    let answers : HasAnswers t report ran.objects = record { asked = all.asked; printed = all.printed ∙ ap (λ (l : List Answer). reverse l) (sym printed) } in
    let profile = profile-in t run report ran.objects ran.asked ran.profiled ran.counted ran.told lines in (
      reached-sound t report ran.objects (reverse run.sweeps) (has_pair (allocated_pairs run.driver.worker.number run.driver.worker.view)) reached allowed settled answers (sweeps ∙ sym (reverse-reverse run.sweeps)) (totals ran.objects all)
          (run.profile.each, profile),
      (ran.objects, answers, profile),
    )

-- the objects of a run are few
pub few-answers : (t : Trace) (c : ℕ) (run : Run) → IsLimited t → c < length t.cycles → HasCompleted t c run → (objects : List Object) → AreObjectsBefore t (suc c) run.answers objects → length objects < 2 ^ 64
few-answers t c run limits inside ran objects asked =
    let all = answers-before t (suc c) run.answers objects asked in
    let most = before-le t (suc c) in
    let few = limits.objects in
    objects-few t (suc c) run.answers objects (2 ^ 64) asked (let big : 1000000 < 2 ^ 64 = omega arith in omega arith)
