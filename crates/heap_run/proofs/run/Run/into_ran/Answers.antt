use Rattle.std.proofs.Common.{◌≡◌, ℕ, ◌+◌, ◌++◌, List, length, refl, sym, subst}
use Rattle.trace_reader.specs.declared.trace.Trace.{Trace}
use Rattle.trace_reader.specs.Limits.{events_of}
use Rattle.cycle_history.specs.Before.{IsLimited}
use Rattle.cycle_history.specs.Counted.{AreZeros}
use Rattle.cycle_history.specs.Requests.{last_cycle}
use Rattle.cycle_history.proofs.OfObjects.{objects-zeros}
use Rattle.cycle_history.specs.Counted.{AreObjectsOf}
use Rattle.cycle_history.specs.Objects.{Object}
use Rattle.cycle_history.specs.Requests.{marked_by}
use Rattle.cycle_history.specs.Sweeps.{AreTotals}
use Rattle.profile_lines.specs.Read.{all_lines}
use Rattle.heap_run.specs.Courses.{base_of, trace_of}
use Rattle.heap_run.specs.Runs.{HasCompleted}
use Rattle.heap_run.proofs.Ending.{base-last, form-by, left-by, sound-by}
use Rattle.heap_run.proofs.Last.{placed-told}
use Rattle.heap_run.proofs.OnCourse.{ends-itself}
use Rattle.heap_run.proofs.Running.{all-answers, few-answers, report-sound, run-all, some-cycle}
use Rattle.heap_run.proofs.Telling.{few-objects}
use Rattle.heap_run.proofs.run.Run.into_ran.Goals as goal

pub read_rest-requires-clause-limits : goal.read_rest-requires-clause-limits
read_rest-requires-clause-limits c =
    let k = last_cycle (trace_of c.args.course) in
    let m = ends-itself k (k + 1) c.args.course c.args.self c.requires.on in
    subst (λ (t : Trace). IsLimited t) (sym c.base.ensures) m.may.limited

pub read_rest-requires-clause-ring : goal.read_rest-requires-clause-ring
read_rest-requires-clause-ring c =
    let k = last_cycle (trace_of c.args.course) in
    (c.requires.ran (base_of c.args.course) (ends-itself k (k + 1) c.args.course c.args.self c.requires.on)).profiled.ring

pub read_rest-requires-clause-drives : goal.read_rest-requires-clause-drives
read_rest-requires-clause-drives c =
    let k = last_cycle (trace_of c.args.course) in
    (c.requires.ran (base_of c.args.course) (ends-itself k (k + 1) c.args.course c.args.self c.requires.on)).profiled.drives

pub read_rest-requires-clause-alone : goal.read_rest-requires-clause-alone
read_rest-requires-clause-alone c =
    let k = last_cycle (trace_of c.args.course) in
    (c.requires.ran (base_of c.args.course) (ends-itself k (k + 1) c.args.course c.args.self c.requires.on)).profiled.alone

pub read_rest-requires-clause-room : goal.read_rest-requires-clause-room
read_rest-requires-clause-room c =
    let k = last_cycle (trace_of c.args.course) in
    (c.requires.ran (base_of c.args.course) (ends-itself k (k + 1) c.args.course c.args.self c.requires.on)).profiled.room

pub read_rest-requires-clause-order : goal.read_rest-requires-clause-order
read_rest-requires-clause-order c =
    let k = last_cycle (trace_of c.args.course) in
    (c.requires.ran (base_of c.args.course) (ends-itself k (k + 1) c.args.course c.args.self c.requires.on)).profiled.order

pub read_rest-requires-clause-few : goal.read_rest-requires-clause-few
read_rest-requires-clause-few c =
    let k = last_cycle (trace_of c.args.course) in
    let m = ends-itself k (k + 1) c.args.course c.args.self c.requires.on in
    let t = base_of c.args.course in
    let ran = c.requires.ran t m in
    few-objects t k k ran.objects c.args.self c.args.self.driver.tally.view.calls (few-answers t k c.args.self m.may.limited m.may.more ran ran.objects ran.asked) ran.counted.shows

pub read_rest-requires-clause-works : goal.read_rest-requires-clause-works
read_rest-requires-clause-works c =
    let k = last_cycle (trace_of c.args.course) in
    (c.requires.ran (base_of c.args.course) (ends-itself k (k + 1) c.args.course c.args.self c.requires.on)).set.works

pub read_rest-requires-clause-driver : goal.read_rest-requires-clause-driver
read_rest-requires-clause-driver c =
    let k = last_cycle (trace_of c.args.course) in
    (c.requires.ran (base_of c.args.course) (ends-itself k (k + 1) c.args.course c.args.self c.requires.on)).set.driving.number

pub read_rest-requires-clause-answers : goal.read_rest-requires-clause-answers
read_rest-requires-clause-answers c =
    let k = last_cycle (trace_of c.args.course) in
    let t = base_of c.args.course in
    let m = ends-itself k (k + 1) c.args.course c.args.self c.requires.on in
    let last = base-last k (k + 1) c.args.course c.args.self refl c.requires.on in
    let ran = subst (λ (n : ℕ). HasCompleted t n c.args.self) (sym last) (c.requires.ran t m) in
    subst (λ (u : Trace). length c.args.self.answers ≡ length (events_of u)) (sym c.base.ensures) (all-answers t c.args.self.answers ran.objects (some-cycle 0 (λ _. ⊥) t.cycles m.may.limited.cycles) ran.asked)

pub read_rest-requires-clause-zeros : goal.read_rest-requires-clause-zeros
read_rest-requires-clause-zeros c =
    let k = last_cycle (trace_of c.args.course) in
    let t = base_of c.args.course in
    let m = ends-itself k (k + 1) c.args.course c.args.self c.requires.on in
    let last = base-last k (k + 1) c.args.course c.args.self refl c.requires.on in
    let ran = subst (λ (n : ℕ). HasCompleted t n c.args.self) (sym last) (c.requires.ran t m) in
    subst (λ (u : Trace). AreZeros u c.args.self.answers) (sym c.base.ensures)
    (objects-zeros t c.args.self.answers ran.objects (run-all t c.args.self.answers ran.objects (some-cycle 0 (λ _. ⊥) t.cycles m.may.limited.cycles) ran.asked))

pub read_rest-requires-clause-told : goal.read_rest-requires-clause-told
read_rest-requires-clause-told c =
    let k = last_cycle (trace_of c.args.course) in
    let ran = c.requires.ran (base_of c.args.course) (ends-itself k (k + 1) c.args.course c.args.self c.requires.on) in
    (ran.past, ran.journal)

pub returns-clause-sound : goal.returns-clause-sound
returns-clause-sound c =
    let k = last_cycle (trace_of c.args.course) in
    let t = base_of c.args.course in
    let run = c.args.self in
    let m = ends-itself k (k + 1) c.args.course run c.requires.on in
    let last = base-last k (k + 1) c.args.course run refl c.requires.on in
    let ran = subst (λ (n : ℕ). HasCompleted t n run) (sym last) (c.requires.ran t m) in
    let totals = subst (λ (u : Trace). (objects : List Object) → AreObjectsOf u run.answers objects → AreTotals (marked_by u) (last_cycle u) objects c.in_ok-journal.totals) c.base.ensures c.in_ok-journal.ensures.totals in
    let lines = subst (λ (u : Trace). c.read_rest.new.profile.lines ≡ run.profile.lines ++ all_lines run.profile.known run.driver.tally.view.calls (last_cycle u) run.profile.order) c.base.ensures c.in_ok-journal.ensures.lines in
    sound-by c.args.course run _ c.requires.on c.printed.ensures (report-sound t run _ _ m.may.limited ran c.in_ok-journal.ensures.journal refl refl refl totals lines).0

pub returns-clause-form : goal.returns-clause-form
returns-clause-form c =
    let k = last_cycle (trace_of c.args.course) in
    let t = base_of c.args.course in
    let run = c.args.self in
    let m = ends-itself k (k + 1) c.args.course run c.requires.on in
    let last = base-last k (k + 1) c.args.course run refl c.requires.on in
    let ran = subst (λ (n : ℕ). HasCompleted t n run) (sym last) (c.requires.ran t m) in
    let totals = subst (λ (u : Trace). (objects : List Object) → AreObjectsOf u run.answers objects → AreTotals (marked_by u) (last_cycle u) objects c.in_ok-journal.totals) c.base.ensures c.in_ok-journal.ensures.totals in
    let lines = subst (λ (u : Trace). c.read_rest.new.profile.lines ≡ run.profile.lines ++ all_lines run.profile.known run.driver.tally.view.calls (last_cycle u) run.profile.order) c.base.ensures c.in_ok-journal.ensures.lines in
    form-by c.args.course run _ _ c.requires.on c.printed.ensures (report-sound t run _ _ m.may.limited ran c.in_ok-journal.ensures.journal refl refl refl totals lines).1

pub returns-clause-left : goal.returns-clause-left
returns-clause-left c =
    let k = last_cycle (trace_of c.args.course) in
    let t = base_of c.args.course in
    let run = c.args.self in
    let m = ends-itself k (k + 1) c.args.course run c.requires.on in
    let last = base-last k (k + 1) c.args.course run refl c.requires.on in
    let ran = subst (λ (n : ℕ). HasCompleted t n run) (sym last) (c.requires.ran t m) in
    let s = c.in_ok-journal.ensures.same in
    left-by c.args.course run _ c.requires.on c.printed.ensures (record {
      works = rw s ran.set.works;
      number = rw s ran.set.driving.number;
      journal = rw s c.in_ok-journal.ensures.journal;
      last = rw s ran.last;
      placed = rw s (placed-told ran.past _ run.driver.worker ran.journal c.in_ok-journal.ensures.journal ran.placed);
    })
