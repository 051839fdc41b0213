-- The end of a cycle, as the driver knows it.
use Rattle.std.proofs.Common.{◌≡◌, ℕ, zero, suc, ◌+◌, ◌<◌, ◌≤◌, true, false, List, [], ◌∷◌, ◌++◌, map, reverse, set, length, get_or, refl, sym, ◌∙◌, ap, arith, inl, inr, subst}
use Rattle.std.specs.Prelude.{◌==◌}
use Rattle.std.proofs.lemmas.Bool.{cases_lt, eq-eqb}
use Rattle.std.proofs.lemmas.List.{append-nil}
use Rattle.page_bitmap.specs.declared.line.Line.{Line}
use Rattle.sweep_laws.specs.Lists.{has}
use Rattle.sweep_laws.specs.Reading.{is_swept_set}
use Rattle.worker_log.specs.declared.Entry.{Entry}
use Rattle.worker_log.specs.declared.Placing.{Placing}
use Rattle.worker_log.specs.Logs.{placings, sweepings}
use Rattle.worker_log.specs.Entries.{is_placing_in, is_seen_empty, many}
use Rattle.worker_log.proofs.Logs.{many-append}
use Rattle.cycle_history.specs.Sound.{IsScavenged}
use Rattle.span_laws.specs.TakeAnswers.{cycle_at}
use Rattle.span_laws.specs.Asks.{IsFresh, IsIdle}
use Rattle.span_laws.specs.MarkEndAsks.{IsAtRest, MaySettle}
use Rattle.span_laws.specs.Cycle.{cycle_ended}
use Rattle.span_laws.specs.Settles.{SettlesCycle}
use Rattle.span_laws.specs.Views.{Seen, acts, drives}
use Rattle.span_laws.specs.Handed.{knows}
use Rattle.span_laws.specs.MarkEnds.{allocated_pairs, placed_pairs}
use Rattle.span_laws.specs.declared.view.Part.{Part}
use Rattle.span_state.specs.declared.sweep.SweepNote.{SweepNote}
use Rattle.sweep_lists.specs.Room.{Roomy}
use Rattle.span_set.specs.declared.hand.Hand.{Hand}
use Rattle.sweeper.specs.Work.{IsPlain, SawAllEmpty, HandSweeps}
use Rattle.heap_run.specs.Swept.{Made, note_at}
use Rattle.proc_cache.specs.Cache.{Cache}
use Rattle.scavenger.specs.Scavenges.{EndsScavenged}
use Rattle.heap_run.specs.Parts.{IsSameRun, part_at}
use Rattle.heap_run.specs.Settled.{HasFlushed, HasSettled}
use Rattle.heap_run.specs.Turns.{HasActed, IsCollecting, IsDriving, KeepsAnswers, SaysAnswers, SaysNone, TookTurn, no_cache}
use Rattle.heap_run.proofs.Parts.{each-part, log-at, own-part, same-trans}
use Rattle.heap_run.proofs.Acted.{acted-as, turn-own, works-acted}
use Rattle.heap_run.proofs.Driving.{collecting-turn, driving-other, keeps-trans, keeps-turn, same-refl}

-- ---- a worker that is told the journal

pub known-acted : (a b : Hand) → b.worker ≡ record a.worker { journal = b.worker.journal } → b.notes ≡ a.notes → IsIdle a.worker.view.own → HasActed SaysNone a b
known-acted a b is notes idle = record {
  said = [];
  did = (refl, refl);
  log = ap (λ (w : Seen). w.view.own.log) is;
  away = ap (λ (w : Seen). w.away) is;
  table = ap (λ (w : Seen). w.table) is;
  number = ap (λ (w : Seen). w.number) is;
  caching = ap (λ (w : Seen). w.caching) is;
  view = ap (λ (w : Seen). w.view) is ∙ ap (λ (w : Seen). acts a.worker.view w.view.own) (sym is);
  idle = subst (λ (w : Seen). IsIdle w.view.own) (sym is) idle;
  notes = ap (λ r. r.items) notes ∙ sym (append-nil a.notes.items);
}

-- number 69 drives
pub drives-driver : (w : Seen) → w.number ≡ 69 → drives w ≡ true
drives-driver w number = ap (λ (n : ℕ). n == 69) number

-- ---- all parts at rest

no-page : (p : ℕ) (pages : List ℕ) → pages ≡ [] → has p pages ≡ true → ⊥
no-page p pages none h =
    let e : has p [] ≡ true = subst (λ (l : List ℕ). has p l ≡ true) none h in
    let f : false ≡ true = e in
    cc

-- where each processor has flushed, what is cached was cached in this cycle
pub fresh-part : (start : Seen) (procs : List Cache) (d : Hand) (i : ℕ) → IsDriving start procs d → HasFlushed procs d.worker → IsFresh (part_at d.worker i)
fresh-part start procs d i driving flushed p hc =
    elim (cases_lt i (length procs)) [
      | inl lt ↦ (
          let one = driving.caching i lt in
          let g : (get_or procs i no_cache).flushed ≡ start.view.generation = flushed.flushed i lt ∙ driving.same.generation in
          one.serves.fresh p hc ∙ eq-eqb (get_or procs i no_cache).flushed start.view.generation g)
      | inr ge ↦ absurd (no-page p (part_at d.worker i).cached (driving.uncached i ge) hc)
    ]

-- and has an object
pub used-part : (start : Seen) (procs : List Cache) (d : Hand) (i : ℕ) → IsDriving start procs d → HasFlushed procs d.worker → (p : ℕ) → has p (part_at d.worker i).cached ≡ true → 0 < many (is_placing_in p) (part_at d.worker i).log
used-part start procs d i driving flushed p hc =
    elim (cases_lt i (length procs)) [
      | inl lt ↦ (driving.caching i lt).used p hc (fresh-part start procs d i driving flushed p hc)
      | inr ge ↦ absurd (no-page p (part_at d.worker i).cached (driving.uncached i ge) hc)
    ]

pub at-rest : (start : Seen) (procs : List Cache) (d : Hand) → length d.worker.view.parts ≡ 70 → IsDriving start procs d → HasFlushed procs d.worker → IsAtRest d.worker.number d.worker.view
at-rest start procs d long driving flushed =
    let own : part_at d.worker 69 ≡ d.worker.view.own =
    ap (λ (k : ℕ). part_at d.worker k) (sym driving.number) ∙ own-part d.worker (let n = driving.number in omega arith) in
    record {
      driver = driving.number;
      idle = each-part d.worker IsIdle driving.idle;
      fresh = each-part d.worker IsFresh (λ i. fresh-part start procs d i driving flushed);
      empty = λ k low unswept. (let s = flushed.empty k low unswept in subst (λ (l : List Entry). 0 < many (is_seen_empty k) l) (ap (λ (h : Part). h.log) own) s);
    }

pub may-settle : (start : Seen) (procs : List Cache) (d : Hand) → length d.worker.view.parts ≡ 70 → IsDriving start procs d → HasFlushed procs d.worker → MaySettle d.worker
may-settle start procs d long driving flushed = record {
  rest = at-rest start procs d long driving flushed;
  used = each-part d.worker (λ h. (p : ℕ) → has p h.cached ≡ true → 0 < many (is_placing_in p) h.log) (λ i. used-part start procs d i driving flushed);
}

-- ---- what is told as a cycle ends

-- the placed pairs depend on the logs alone
placed-set : (ps : List Part) (n : ℕ) (h k : Part) → placings h.log ≡ placings k.log → placed_pairs (set ps n h) ≡ placed_pairs (set ps n k)
placed-set [] n h k same = refl
placed-set (p ∷ ps) zero h k same = ap (λ (l : List Placing). map (λ a. (a.page, a.index)) l ++ placed_pairs ps) same
placed-set (p ∷ ps) (suc n) h k same = ap (λ (l : List (ℕ × ℕ)). map (λ a. (a.page, a.index)) (placings p.log) ++ l) (placed-set ps n h k same)

pub pairs-own : (w : Seen) (h : Part) → placings h.log ≡ placings w.view.own.log → allocated_pairs w.number (acts w.view h) ≡ allocated_pairs w.number w.view
pairs-own w h same = ap (λ (l : List (ℕ × ℕ)). w.view.marks ++ l) (placed-set w.view.parts w.number h w.view.own same)

pub settled : (old new : Seen) → EndsScavenged old → SettlesCycle old new → HasSettled new
settled old new scavenged settles =
    let lines = settles.0 in
    let past = lines ++ old.view.before in
    let same : past ≡ scavenged.0 = settles.3 scavenged.0 scavenged.1 in
    let now : HasSettled (knows past old) = record {
      e = cycle_ended old.number old.view lines settles.1;
      ends = settles.4;
      cycle = refl;
      before = refl;
      carried = refl;
      marks = refl;
      bits = refl;
      logs = λ w. log-at old w;
      journal = refl;
      allowed = settles.5;
      scavenged = subst (λ (l : List Line). IsScavenged old.view.region old.view.goal l) (sym same) scavenged.2;
    } in
    subst HasSettled (sym settles.2) now

-- ---- from step to step

-- the same, by another start that nothing but parts has changed since
pub driving-from : (first start : Seen) (procs : List Cache) (d : Hand) → IsSameRun first start → IsDriving start procs d → IsDriving first procs d
driving-from first start procs d same driving = record {
  number = driving.number;
  same = same-trans first start d.worker same driving.same;
  idle = driving.idle;
  numbers = driving.numbers;
  caching = λ i lt. rw (sym same.generation) (driving.caching i lt);
  uncached = driving.uncached;
}

-- from now on
pub driving-now : (start : Seen) (procs : List Cache) (d : Hand) → IsDriving start procs d → IsDriving d.worker procs d
driving-now start procs d driving = record {
  number = driving.number;
  same = same-refl d.worker;
  idle = driving.idle;
  numbers = driving.numbers;
  caching = λ i lt. rw driving.same.generation (driving.caching i lt);
  uncached = driving.uncached;
}

-- The driver was told the journal, and nothing else changed.
pub record IsToldIn (d e : Hand) : Type 0 where
  pub worker : e.worker ≡ record d.worker { journal = e.worker.journal }
  pub notes : e.notes ≡ d.notes

told-part : (d e : Hand) → IsToldIn d e → (i : ℕ) → part_at e.worker i ≡ part_at d.worker i
told-part d e t i = ap (λ (w : Seen). part_at w i) t.worker

told-same : (d e : Hand) → IsToldIn d e → IsSameRun d.worker e.worker
told-same d e t = subst (λ (w : Seen). IsSameRun d.worker w) (sym t.worker) (record {
  away = refl;
  table = refl;
  caching = refl;
  parts = refl;
  region = refl;
  goal = refl;
  procs = refl;
  generation = refl;
  marks = refl;
  before = refl;
  carried = refl;
})

pub told-driving : (start : Seen) (procs : List Cache) (d e : Hand) → IsToldIn d e → IsDriving start procs d → IsDriving start procs e
told-driving start procs d e t driving = record {
  number = ap (λ (w : Seen). w.number) t.worker ∙ driving.number;
  same = same-trans start d.worker e.worker driving.same (told-same d e t);
  idle = λ i. rw (told-part d e t i) (driving.idle i);
  numbers = driving.numbers;
  caching = λ i lt. rw (told-part d e t i) (driving.caching i lt);
  uncached = λ i past. ap (λ (h : Part). h.cached) (told-part d e t i) ∙ driving.uncached i past;
}

pub told-collecting : (d e : Hand) → IsToldIn d e → IsCollecting d → IsCollecting e
told-collecting d e t was = record {
  made = was.made;
  told = (
      let g : e.worker.view.generation ≡ d.worker.view.generation = ap (λ (w : Seen). w.view.generation) t.worker in
      ap (λ (n : Roomy SweepNote). n.items) t.notes ∙ was.told ∙ ap (λ (k : ℕ). reverse (map (λ (x : Made). note_at (cycle_at k) x.sweep) was.made)) (sym g));
  each = λ w. was.each w ∙ ap (λ (h : Part). sweepings h.log) (sym (told-part d e t w));
}

pub told-keeps : (d e : Hand) → IsToldIn d e → KeepsAnswers d.worker e.worker
told-keeps d e t w events answers was = subst (λ (l : List Entry). SaysAnswers events answers l) (ap (λ (h : Part). h.log) (sym (told-part d e t w))) was

pub told-flushed : (procs : List Cache) (d e : Hand) → IsToldIn d e → HasFlushed procs d.worker → HasFlushed procs e.worker
told-flushed procs d e t was =
    let g : e.worker.view.generation ≡ d.worker.view.generation = ap (λ (w : Seen). w.view.generation) t.worker in
    record {
      flushed = λ i lt. was.flushed i lt ∙ sym g;
      empty = λ k low unswept. (
          let there = was.empty k low (ap (λ (n : ℕ). is_swept_set n k) (sym g) ∙ unswept) in
          subst (λ (l : List Entry). 0 < many (is_seen_empty k) l) (ap (λ (h : Part). h.log) (sym (told-part d e t 69))) there);
    }

-- ---- the driver's full sweep

-- What the driver did as it swept all that was left.
pub record HasSweptAll (start : Seen) (procs : List Cache) (d e : Hand) : Type 0 where
  pub driving : IsDriving start procs e
  pub collecting : IsCollecting e
  pub keeps : KeepsAnswers d.worker e.worker
  pub empty : (k : ℕ) → k < 544 → is_swept_set e.worker.view.generation k ≡ false → 0 < many (is_seen_empty k) (part_at e.worker 69).log

own-idle : (d : Hand) → d.worker.number ≡ 69 → length d.worker.view.parts ≡ 70 → IsIdle (part_at d.worker 69) → IsIdle d.worker.view.own
own-idle d number long idle =
    let own : part_at d.worker 69 ≡ d.worker.view.own = ap (λ (k : ℕ). part_at d.worker k) (sym number) ∙ own-part d.worker (omega arith) in
    subst IsIdle own idle

pub driver-idle : (start : Seen) (procs : List Cache) (d : Hand) → length d.worker.view.parts ≡ 70 → IsDriving start procs d → IsIdle d.worker.view.own
driver-idle start procs d long driving = own-idle d driving.number long (driving.idle 69)

pub swept-all : (start : Seen) (procs : List Cache) (d e : Hand) → length d.worker.view.parts ≡ 70 → length procs ≤ 64 → IsDriving start procs d → IsCollecting d
    → HandSweeps [] (λ said. IsPlain said × SawAllEmpty d.worker.view.generation said) d e → HasSweptAll start procs d e
swept-all start procs d e long few driving collecting works =
    let idle = driver-idle start procs d long driving in
    let acted = works-acted (λ said. IsPlain said × SawAllEmpty d.worker.view.generation said) d e works (λ said p. p.0.takes_none.unmissed) idle in
    let room : d.worker.number < length d.worker.view.parts = (let n = driving.number in omega arith) in
    let P : List Entry → Type 0 = λ said. SaysNone said × (IsPlain said × SawAllEmpty d.worker.view.generation said) in
    let turn : TookTurn 69 P d e = subst (λ (k : ℕ). TookTurn k P d e) driving.number (turn-own P d e room acted) in
    let none : TookTurn 69 SaysNone d e = subst (λ (k : ℕ). TookTurn k SaysNone d e) driving.number (turn-own SaysNone d e room (acted-as P SaysNone d e acted (λ said p. p.0))) in
    let old : part_at d.worker 69 ≡ d.worker.view.own = ap (λ (k : ℕ). part_at d.worker k) (sym driving.number) ∙ own-part d.worker room in
    let en : e.worker.number ≡ 69 = turn.number ∙ driving.number in
    let new : part_at e.worker 69 ≡ e.worker.view.own = ap (λ (k : ℕ). part_at e.worker k) (sym en) ∙ own-part e.worker (let p = turn.same.parts in omega arith) in
    let cached : (part_at e.worker 69).cached ≡ (part_at d.worker 69).cached = ap (λ (h : Part). h.cached) new ∙ works.does.stays.cached ∙ ap (λ (h : Part). h.cached) (sym old) in
    record {
      driving = driving-other P start procs 69 d e driving turn (omega arith) cached;
      collecting = collecting-turn P 69 d e turn collecting;
      keeps = keeps-turn 69 d e none;
      empty = λ k low unswept. (
          let said = turn.did.1.1 k low (ap (λ (n : ℕ). is_swept_set n k) (sym turn.same.generation) ∙ unswept) in
          let all : many (is_seen_empty k) (turn.said ++ (part_at d.worker 69).log) ≡ many (is_seen_empty k) turn.said + many (is_seen_empty k) (part_at d.worker 69).log = many-append (is_seen_empty k) turn.said (part_at d.worker 69).log in
          let there : 0 < many (is_seen_empty k) (turn.said ++ (part_at d.worker 69).log) = omega arith in
          subst (λ (l : List Entry). 0 < many (is_seen_empty k) l) (sym turn.log) there);
    }

-- ---- the end of a cycle, step by step: the full sweep, the flushes, the scavenging and what is told

pub record HasFlushedAll (procs : List Cache) (d e : Hand) : Type 0 where
  pub driving : IsDriving d.worker procs e
  pub collecting : IsCollecting e
  pub keeps : KeepsAnswers d.worker e.worker
  pub flushed : (i : ℕ) → i < length procs → (get_or procs i no_cache).flushed ≡ d.worker.view.generation
  pub own : part_at e.worker 69 ≡ part_at d.worker 69

pub flushed-all : (start : Seen) (old procs : List Cache) (d e f : Hand) → HasSweptAll start old d e → HasFlushedAll procs e f → HasFlushed procs f.worker
flushed-all start old procs d e f swept flushed = record {
  flushed = λ i lt. flushed.flushed i lt ∙ sym flushed.driving.same.generation;
  empty = λ k low unswept. (
      let there = swept.empty k low (ap (λ (n : ℕ). is_swept_set n k) (sym flushed.driving.same.generation) ∙ unswept) in
      subst (λ (l : List Entry). 0 < many (is_seen_empty k) l) (ap (λ (h : Part). h.log) (sym flushed.own)) there);
}

pub record EndsAll (start : Seen) (procs : List Cache) (d e : Hand) : Type 0 where
  pub driving : IsDriving start procs e
  pub collecting : IsCollecting e
  pub keeps : KeepsAnswers d.worker e.worker
  pub flushed : HasFlushed procs e.worker

-- the scavenging and what is told change nothing of it
pub told-ends : (start : Seen) (procs : List Cache) (d e f : Hand) → EndsAll start procs d e → IsToldIn e f → EndsAll start procs d f
told-ends start procs d e f ends told = record {
  driving = told-driving start procs e f told ends.driving;
  collecting = told-collecting e f told ends.collecting;
  keeps = keeps-trans d.worker e.worker f.worker ends.keeps (told-keeps e f told);
  flushed = told-flushed procs e f told ends.flushed;
}

pub ends-swept : (start : Seen) (old procs : List Cache) (d e f : Hand) → HasSweptAll start old d e → HasFlushedAll procs e f → EndsAll start procs d f
ends-swept start old procs d e f swept flushed = record {
  driving = driving-from start e.worker procs f swept.driving.same flushed.driving;
  collecting = flushed.collecting;
  keeps = keeps-trans d.worker e.worker f.worker swept.keeps flushed.keeps;
  flushed = flushed-all start old procs d e f swept flushed;
}

pub ends-room : (start : Seen) (procs : List Cache) (d e : Hand) → length start.view.parts ≡ 70 → EndsAll start procs d e → (length e.worker.view.parts ≡ 70) × (e.worker.number < length e.worker.view.parts)
ends-room start procs d e long ends =
    let p = ends.driving.same.parts in
    let n = ends.driving.number in
    (omega arith, omega arith)

-- ---- from the processors' turns to the end

pub mid-driving : (start : Seen) (procs : List Cache) (d e f : Hand) → length procs ≤ 64 → IsDriving start procs d → ((ps : List Cache) → length ps ≤ 64 → IsDriving d.worker ps d → IsDriving d.worker ps e)
    → TookTurn 68 SaysNone e f → (part_at f.worker 68).cached ≡ (part_at e.worker 68).cached → IsDriving start procs f
mid-driving start procs d e f few driving sweepers turn cached =
    let one = sweepers procs few (driving-now start procs d driving) in
    driving-from start d.worker procs f driving.same (driving-other SaysNone d.worker procs 68 e f one turn (omega arith) cached)
