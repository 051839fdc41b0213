-- A mark end: the driver resets the unswept sets, and the next cycle begins.
use Rattle.std.proofs.Common.{◌≡◌, ℕ, zero, suc, ◌+◌, ◌<◌, ◌≤◌, Bool, true, false, List, [], ◌∷◌, ◌++◌, map, set, reverse, length, get_or, Option, unwrap_or, refl, sym, ◌∙◌, ap, arith, subst}
use Rattle.std.proofs.lemmas.Bool.{ne_eqb}
use Rattle.std.proofs.lemmas.List.{append-nil, length-map}
use Rattle.page_bitmap.specs.declared.line.Line.{Line}
use Rattle.span_state.specs.MarkSet.{MarkSet, has_pair}
use Rattle.sweep_laws.specs.Lists.{has}
use Rattle.sweep_laws.specs.Reading.{is_swept_set}
use Rattle.trace_reader.specs.declared.trace.Trace.{Trace}
use Rattle.worker_log.specs.declared.Entry.{Entry}
use Rattle.worker_log.specs.declared.Entry.TheVariants.{Read}
use Rattle.worker_log.specs.Logs.{placings}
use Rattle.worker_log.specs.Entries.{is_seen_empty, many}
use Rattle.worker_log.proofs.Logs.{many-append}
use Rattle.cycle_history.specs.declared.Answer.{Answer}
use Rattle.cycle_history.specs.Found.{AreFound}
use Rattle.cycle_history.specs.Marked.{AreMarksOf, ArePlacesOf}
use Rattle.cycle_history.specs.Before.{AreClear, AreObjectsBefore, objects_before}
use Rattle.cycle_history.specs.Objects.{Object}
use Rattle.cycle_history.specs.Requests.{marked_by, region_of}
use Rattle.sound_run.specs.Run.{IsRun}
use Rattle.run_laws.specs.CycleSoFar.{CycleSoFar}
use Rattle.run_laws.specs.Facts.{Marks}
use Rattle.run_laws.specs.Reached.{Began}
use Rattle.run_laws.proofs.Ends.{began-next}
use Rattle.run_laws.proofs.MarksOf.{facts-marks}
use Rattle.span_laws.specs.Asks.{IsIdle}
use Rattle.span_laws.specs.MarkEndAsks.{MayMark}
use Rattle.span_laws.specs.Views.{Seen, acts, no_part, parts_of}
use Rattle.span_laws.specs.MarkEnds.{after_next, allocated_pairs, rested}
use Rattle.span_laws.specs.declared.view.Part.{Part}
use Rattle.span_laws.specs.declared.view.View.{View}
use Rattle.span_set.specs.Resets.{Resets}
use Rattle.span_set.specs.declared.hand.Hand.{Hand}
use Rattle.proc_cache.specs.Cache.{Cache}
use Rattle.heap_run.specs.Parts.{part_at}
use Rattle.heap_run.specs.Runs.{HasBegun, HasCompleted}
use Rattle.heap_run.specs.Settled.{HasFlushed}
use Rattle.heap_run.specs.Turns.{HasActed, IsCaching, IsDriving, SaysNone, TookTurn, no_cache}
use Rattle.heap_run.specs.declared.run.Run.{Run}
use Rattle.heap_run.proofs.Parts.{get-map, own-part}
use Rattle.heap_run.proofs.Acted.{turn-own}
use Rattle.heap_run.proofs.Cycles.{marks-allocated}
use Rattle.heap_run.proofs.Driving.{driving-other, same-refl}
use Rattle.heap_run.proofs.Settling.{at-rest, driver-idle, driving-now, pairs-own}
use Rattle.heap_run.proofs.Running.{known-all}
use Rattle.heap_run.proofs.Telling.{HasMarked, counting-marked, profiled-marked, told-marked}

-- ---- the reset

reset-acted : (old new : Hand) → Resets old.worker new.worker → new.notes ≡ old.notes → IsIdle old.worker.view.own → HasActed SaysNone old new
reset-acted old new r notes idle =
    let own : Part = record old.worker.view.own { log = Read 1 old.worker.view.generation ∷ old.worker.view.own.log; reset = old.worker.view.own.reset ++ r.sets } in
    let is_own : new.worker.view.own ≡ own = ap (λ (w : Seen). w.view.own) r.view in
    record {
      said = Read 1 old.worker.view.generation ∷ [];
      did = (refl, refl);
      log = ap (λ (h : Part). h.log) is_own;
      away = ap (λ (w : Seen). w.away) r.view;
      table = ap (λ (w : Seen). w.table) r.view;
      number = ap (λ (w : Seen). w.number) r.view;
      caching = ap (λ (w : Seen). w.caching) r.view;
      view = ap (λ (w : Seen). w.view) r.view ∙ ap (λ (h : Part). acts old.worker.view h) (sym is_own);
      idle = record {
        sweeping = ap (λ (h : Part). h.sweeping) is_own ∙ idle.sweeping;
        held = ap (λ (h : Part). h.held) is_own ∙ idle.held;
        popped = ap (λ (h : Part). h.popped) is_own ∙ idle.popped;
        claimed = ap (λ (h : Part). h.claimed) is_own ∙ idle.claimed;
      };
      notes = ap (λ r. r.items) notes ∙ sym (append-nil old.notes.items);
    }

-- The driver reset the sets, and is at rest still.
pub record HasReset (procs : List Cache) (d e : Hand) : Type 0 where
  pub driving : IsDriving d.worker procs e
  pub number : e.worker.number ≡ d.worker.number
  pub flushed : HasFlushed procs e.worker
  pub view : e.worker.view ≡ acts d.worker.view e.worker.view.own
  pub journal : e.worker.journal ≡ d.worker.journal
  pub placed : placings e.worker.view.own.log ≡ placings d.worker.view.own.log
  pub reset : (k : ℕ) → k < 544 → is_swept_set e.worker.view.generation k ≡ false → has k e.worker.view.own.reset ≡ true

pub has-reset : (procs : List Cache) (d e : Hand) → length d.worker.view.parts ≡ 70 → length procs ≤ 64 → IsDriving d.worker procs d → HasFlushed procs d.worker → Resets d.worker e.worker → e.notes ≡ d.notes → HasReset procs d e
has-reset procs d e long few driving flushed r notes =
    let acted = reset-acted d e r notes (driver-idle d.worker procs d long driving) in
    let room : d.worker.number < length d.worker.view.parts = (let n = driving.number in omega arith) in
    let turn : TookTurn 69 SaysNone d e = subst (λ (k : ℕ). TookTurn k SaysNone d e) driving.number (turn-own SaysNone d e room acted) in
    let old : part_at d.worker 69 ≡ d.worker.view.own = ap (λ (k : ℕ). part_at d.worker k) (sym driving.number) ∙ own-part d.worker room in
    let en : e.worker.number ≡ 69 = turn.number ∙ driving.number in
    let new : part_at e.worker 69 ≡ e.worker.view.own = ap (λ (k : ℕ). part_at e.worker k) (sym en) ∙ own-part e.worker (let p = turn.same.parts in omega arith) in
    let cached : (part_at e.worker 69).cached ≡ (part_at d.worker 69).cached = ap (λ (h : Part). h.cached) new ∙ ap (λ (w : Seen). w.view.own.cached) r.view ∙ ap (λ (h : Part). h.cached) (sym old) in
    let g : e.worker.view.generation ≡ d.worker.view.generation = turn.same.generation in
    record {
      driving = driving-other SaysNone d.worker procs 69 d e driving turn (omega arith) cached;
      number = turn.number;
      flushed = record {
        flushed = λ i lt. flushed.flushed i lt ∙ sym g;
        empty = λ k low unswept. (
            let there = flushed.empty k low (ap (λ (n : ℕ). is_swept_set n k) (sym g) ∙ unswept) in
            let all : many (is_seen_empty k) (turn.said ++ (part_at d.worker 69).log) ≡ many (is_seen_empty k) turn.said + many (is_seen_empty k) (part_at d.worker 69).log = many-append (is_seen_empty k) turn.said (part_at d.worker 69).log in
            let some_there : 0 < many (is_seen_empty k) (turn.said ++ (part_at d.worker 69).log) = omega arith in
            subst (λ (l : List Entry). 0 < many (is_seen_empty k) l) (sym turn.log) some_there);
      };
      view = acted.view;
      journal = ap (λ (w : Seen). w.journal) r.view;
      placed = ap (λ (w : Seen). placings w.view.own.log) r.view;
      reset = λ k low unswept. r.unswept k low (ap (λ (n : ℕ). is_swept_set n k) (sym g) ∙ unswept);
    }

-- what is allocated is the same
pub reset-pairs : (procs : List Cache) (d e : Hand) → HasReset procs d e → allocated_pairs e.worker.number e.worker.view ≡ allocated_pairs d.worker.number d.worker.view
reset-pairs procs d e r =
    ap (λ (n : ℕ). allocated_pairs n e.worker.view) r.number ∙ ap (λ (v : View). allocated_pairs d.worker.number v) r.view ∙ pairs-own d.worker e.worker.view.own r.placed

-- ---- the marks

-- the marks of the next cycle
pub next-marks : (t : Trace) (c : ℕ) (run : Run) (past : List Line) (objects : List Object) (sampled : List Bool) (buckets : List ℕ) (marks : MarkSet) (pairs : List (ℕ × ℕ)) (e : CycleSoFar)
    → IsRun (marked_by t) (region_of t) t.header.goal c past objects → AreObjectsBefore t (suc c) run.answers objects → AreMarksOf t (suc c) run.answers sampled buckets marks → pairs ≡ marks.pairs
    → e.cycle ≡ suc c → e.before ≡ past → e.marks ≡ has_pair pairs → Marks (marked_by t) objects e
next-marks t c run past objects sampled buckets marks pairs e is asked found same cycle before marked =
    facts-marks t (region_of t) t.header.goal c objects run.answers sampled buckets marks e cycle
    (λ page k. ap (λ (f : ℕ → ℕ → Bool). f page k) marked ∙ ap (λ (l : List (ℕ × ℕ)). has_pair l page k) same)
    (subst (λ (l : List Line). IsRun (marked_by t) (region_of t) t.header.goal c l objects) (sym before) is) asked found

pub may-mark : (t : Trace) (c : ℕ) (run : Run) (e : Hand) (sampled : List Bool) (buckets : List ℕ) (marks : MarkSet) (pairs : List (ℕ × ℕ)) → c < 10001 → length run.procs.items ≤ 64 → HasCompleted t c run
    → HasReset run.procs.items run.driver e → AreMarksOf t (suc c) run.answers sampled buckets marks → pairs ≡ marks.pairs → MayMark e.worker pairs
may-mark t c run e sampled buckets marks pairs early few ran r found same =
    let long : length e.worker.view.parts ≡ 70 = r.driving.same.parts ∙ ran.set.parts in
    let next : CycleSoFar = record { cycle = suc c; before = ran.past; lines = []; known = []; carried = λ p k. false; marks = has_pair pairs; bits = λ p k. false; logs = λ w. []; news = []; notes = [] } in
    let are = next-marks t c run ran.past ran.objects sampled buckets marks pairs next ran.reached.run ran.asked found same refl refl refl in
    let allocated = marks-allocated (marked_by t) (region_of t) t.header.goal c ran.past ran.objects (reverse run.sweeps) (has_pair (allocated_pairs run.driver.worker.number run.driver.worker.view)) next ran.reached refl refl are in
    record {
      rest = at-rest run.driver.worker run.procs.items e long r.driving r.flushed;
      reset = r.reset;
      early = (let g = r.driving.same.generation in let h = ran.set.generation in omega arith);
      known = known-all e.worker.number e.worker.view pairs (λ p k on. subst (λ (l : List (ℕ × ℕ)). has_pair l p k ≡ true) (sym (reset-pairs run.procs.items run.driver e r)) (allocated p k on));
      told = (ran.past, r.journal ∙ ran.journal);
    }

-- ---- the next cycle

set-map : {A B : Type 0} (f : A → B) (xs : List A) (n : ℕ) (x : A) → set (map f xs) n (f x) ≡ map f (set xs n x)
set-map f [] n x = refl
set-map f (y ∷ xs) zero x = refl
set-map f (y ∷ xs) (suc n) x = ap (λ (l : List _). f y ∷ l) (set-map f xs n x)

-- each part rests
next-part : (w : Seen) (pairs : List (ℕ × ℕ)) (i : ℕ) → part_at (after_next pairs w) i ≡ rested (part_at w i)
next-part w pairs i =
    let all : parts_of w.number (after_next pairs w).view ≡ map rested (parts_of w.number w.view) = set-map rested w.view.parts w.number w.view.own in
    ap (λ (ps : List Part). get_or ps i no_part) all ∙ get-map rested (parts_of w.number w.view) i no_part

caching-next : (g : ℕ) (h : Part) (c : Cache) → IsCaching g h c → IsCaching (g + 2) (rested h) c
caching-next g h c are = record {
  serves = record {
    slots = λ j s at. (let one = are.serves.slots j s at in record { cached = one.cached; lent = one.lent; class = one.class; unpopped = refl });
    all = are.serves.all;
    once = are.serves.once;
    fresh = λ p hc. sym (ne_eqb c.flushed (g + 2) (λ q. (let e = are.serves.early in omega arith)));
    early = (let e = are.serves.early in omega arith);
  };
  used = λ p hc hf. absurd (let no : false ≡ true = hf in cc);
}

pub next-driving : (start : Seen) (procs : List Cache) (e f : Hand) (pairs : List (ℕ × ℕ)) → IsDriving start procs e → f.worker ≡ after_next pairs e.worker → IsDriving f.worker procs f
next-driving start procs e f pairs driving is =
    let now = driving-now start procs e driving in
    let at : (i : ℕ) → part_at f.worker i ≡ rested (part_at e.worker i) = λ i. ap (λ (w : Seen). part_at w i) is ∙ next-part e.worker pairs i in
    let g : f.worker.view.generation ≡ e.worker.view.generation + 2 = ap (λ (w : Seen). w.view.generation) is in
    record {
      number = ap (λ (w : Seen). w.number) is ∙ now.number;
      same = same-refl f.worker;
      idle = λ i. (let idle = now.idle i in subst IsIdle (sym (at i)) (record { sweeping = idle.sweeping; held = idle.held; popped = idle.popped; claimed = idle.claimed }));
      numbers = now.numbers;
      caching = λ i lt. subst (λ (k : ℕ). IsCaching k (part_at f.worker i) (get_or procs i no_cache)) (sym g)
          (subst (λ (h : Part). IsCaching (e.worker.view.generation + 2) h (get_or procs i no_cache)) (sym (at i)) (caching-next e.worker.view.generation (part_at e.worker i) (get_or procs i no_cache) (now.caching i lt)));
      uncached = λ i past. ap (λ (h : Part). h.cached) (at i) ∙ now.uncached i past;
    }

-- What a mark end's calls left.
pub record MarkRan (t : Trace) (c : ℕ) (old new : Run) (e : Hand) (marks : MarkSet) (pairs : List (ℕ × ℕ)) : Type 0 where
  pub reset : HasReset old.procs.items old.driver e
  pub same : pairs ≡ marks.pairs
  pub worker : new.driver.worker ≡ after_next pairs e.worker
  pub notes : new.driver.notes.items ≡ old.driver.notes.items
  pub shared : new.shared ≡ old.shared
  pub procs : new.procs ≡ old.procs
  pub sweeps : new.sweeps ≡ old.sweeps
  pub profile : HasMarked t c old new marks
  pub kept : length new.places ≡ objects_before t (suc c)
  pub places : AreFound t new.answers new.places
  pub clear : AreClear new.sampled new.clear

pub mark-begins : (t : Trace) (c : ℕ) (old new : Run) (e : Hand) (marks : MarkSet) (pairs : List (ℕ × ℕ)) → HasCompleted t c old → MarkRan t c old new e marks pairs → HasBegun t (suc c) new
mark-begins t c old new e marks pairs ran m =
    let r = m.reset in
    let s = ran.set in
    let before : new.driver.worker.view.before ≡ ran.past = ap (λ (w : Seen). w.view.before) m.worker ∙ ap (λ (j : Option (List Line)). unwrap_or j []) (r.journal ∙ ran.journal) in
    let carried : new.driver.worker.view.carried ≡ allocated_pairs old.driver.worker.number old.driver.worker.view = ap (λ (w : Seen). w.view.carried) m.worker ∙ reset-pairs old.procs.items old.driver e r in
    let marked : new.driver.worker.view.marks ≡ pairs = ap (λ (w : Seen). w.view.marks) m.worker in
    let next = began-next (marked_by t) (region_of t) t.header.goal c ran.past ran.objects (reverse old.sweeps) (has_pair (allocated_pairs old.driver.worker.number old.driver.worker.view)) ran.reached in
    let began : Began (marked_by t) (region_of t) t.header.goal (suc c) new.driver.worker.view.before ran.objects (reverse new.sweeps) (has_pair new.driver.worker.view.carried) =
    subst (λ (l : List Line). Began (marked_by t) (region_of t) t.header.goal (suc c) l ran.objects (reverse new.sweeps) (has_pair new.driver.worker.view.carried)) (sym before)
    (subst (λ (l : List (ℕ × ℕ)). Began (marked_by t) (region_of t) t.header.goal (suc c) ran.past ran.objects (reverse new.sweeps) (has_pair l)) (sym carried)
    (rw m.sweeps next)) in
    record {
      set = record {
        works = (
          ap (λ (w : Seen). w.table) m.worker ∙ r.driving.same.table ∙ s.works.0 ∙ sym m.shared,
          ap (λ (w : Seen). w.away) m.worker ∙ r.driving.same.away ∙ s.works.1,
        );
        parts = ap (λ (w : Seen). length w.view.parts) m.worker ∙ length-map e.worker.view.parts rested ∙ r.driving.same.parts ∙ s.parts;
        region = ap (λ (w : Seen). w.view.region) m.worker ∙ r.driving.same.region ∙ s.region;
        goal = ap (λ (w : Seen). w.view.goal) m.worker ∙ r.driving.same.goal ∙ s.goal;
        caching = ap (λ (w : Seen). w.view.procs) m.worker ∙ r.driving.same.procs ∙ s.caching;
        generation = (let a = ap (λ (w : Seen). w.view.generation) m.worker in let b = r.driving.same.generation in let g = s.generation in omega arith);
        driving = rw m.procs (next-driving old.driver.worker old.procs.items e new.driver pairs r.driving m.worker);
        procs = rw m.procs s.procs;
        notes = m.notes ∙ s.notes;
        kept = m.kept;
        found = m.places;
        clear = m.clear;
        placed = subst (λ (l : List Answer). ArePlacesOf t (suc c) l new.marks) (sym m.profile.answers) (subst (λ (x : MarkSet). ArePlacesOf t (suc c) old.answers x) (sym m.profile.marks_are) m.profile.found.places);
      };
      objects = ran.objects;
      asked = rw m.profile.answers ran.asked;
      began = began;
      marked = λ x cycle be mk. next-marks t c old ran.past ran.objects old.sampled old.buckets marks pairs x ran.reached.run ran.asked m.profile.found m.same cycle (be ∙ before) (mk ∙ ap (λ (l : List (ℕ × ℕ)). has_pair l) marked);
      marks = ap (λ (x : MarkSet). x.pairs) m.profile.marks_are ∙ sym m.same ∙ sym marked;
      blank = λ w. ap (λ (x : Seen). (part_at x w).log) m.worker ∙ ap (λ (h : Part). h.log) (next-part e.worker pairs w);
      profiled = profiled-marked t c old new marks ran.past ran.objects (has_pair (allocated_pairs old.driver.worker.number old.driver.worker.view)) (reverse old.sweeps) ran.reached ran.asked ran.profiled ran.counted ran.told m.profile before;
      counting = counting-marked t c old new marks ran.past ran.objects (has_pair (allocated_pairs old.driver.worker.number old.driver.worker.view)) (reverse old.sweeps) ran.reached ran.asked ran.profiled ran.counted ran.told m.profile before;
      told = told-marked t c old new marks ran.past ran.objects (has_pair (allocated_pairs old.driver.worker.number old.driver.worker.view)) (reverse old.sweeps) ran.reached ran.asked ran.profiled ran.counted ran.told m.profile before;
    }
