use Rattle.std.proofs.Common.{◌≡◌, ℕ, ◌+◌, ◌<◌, length, sym, ◌∙◌, arith, subst}
use Rattle.std.specs.Prelude.{OnOk}
use Rattle.trace_reader.specs.declared.trace.Trace.{Trace}
use Rattle.cycle_history.specs.Before.{AreAlike, IsLimited}
use Rattle.cycle_history.specs.Requests.{last_cycle}
use Rattle.heap_run.specs.Courses.{HasBegunAll, HasCompletedAll, HasShownAll, HasShownEnd, IsOnCourse, base_of, trace_of}
use Rattle.heap_run.specs.Runs.{HasBegun, HasCompleted}
use Rattle.heap_run.proofs.GoingOn.{goes-on-course, gone-trace, may-go-on, next-begun, next-itself, next-ran, next-shown}
use Rattle.heap_run.proofs.run.Run.run_cycles.Goals as goal

pub next_cycle-requires : goal.next_cycle-requires
next_cycle-requires g c =
    let k = c.loop-cycle.cycle in
    let same : trace_of c.run_and_show.new.course ≡ trace_of c.args.course.now = c.run_and_show.ensures.trace ∙ c.loop-cycle.invariant.trace in
    let all = c.last-last.ensures in
    let test = c.loop-cycle-test.true in
    let lt : k + 1 < length (trace_of c.args.course.now).cycles = omega arith in
    record { may = may-go-on k c.run_and_show.new.course c.run_and_show.new.self c.in_ok-run_and_show.ensures.on (subst (λ (t : Trace). k + 1 < length t.cycles) (sym same) lt) }

pub mark_end-requires-clause-limits : goal.mark_end-requires-clause-limits
mark_end-requires-clause-limits g c =
    let k = c.loop-cycle.cycle in
    let same : trace_of c.run_and_show.new.course ≡ trace_of c.args.course.now = c.run_and_show.ensures.trace ∙ c.loop-cycle.invariant.trace in
    let all = c.last-last.ensures in
    let test = c.loop-cycle-test.true in
    let lt : k + 1 < length (trace_of c.args.course.now).cycles = omega arith in
    let own = next-itself k c.run_and_show.new.course c.next_cycle.new.self c.run_and_show.new.self c.in_ok-run_and_show.ensures.on c.in_ok-next_cycle.ensures.gone
    (subst (λ (t : Trace). k + 1 < length t.cycles) (sym same) lt) c.in_ok-run_and_show.ensures.ran in
    subst (λ (t : Trace). IsLimited t) (sym c.base.ensures) own.limited

pub mark_end-requires-clause-before : goal.mark_end-requires-clause-before
mark_end-requires-clause-before g c =
    let k = c.loop-cycle.cycle in
    let same : trace_of c.run_and_show.new.course ≡ trace_of c.args.course.now = c.run_and_show.ensures.trace ∙ c.loop-cycle.invariant.trace in
    let all = c.last-last.ensures in
    let test = c.loop-cycle-test.true in
    let lt : k + 1 < length (trace_of c.args.course.now).cycles = omega arith in
    let own = next-itself k c.run_and_show.new.course c.next_cycle.new.self c.run_and_show.new.self c.in_ok-run_and_show.ensures.on c.in_ok-next_cycle.ensures.gone
    (subst (λ (t : Trace). k + 1 < length t.cycles) (sym same) lt) c.in_ok-run_and_show.ensures.ran in
    subst (λ (t : Trace). k < last_cycle t) (sym c.base.ensures) (let more = own.more in omega arith)

pub mark_end-requires-clause-ran : goal.mark_end-requires-clause-ran
mark_end-requires-clause-ran g c =
    let k = c.loop-cycle.cycle in
    let same : trace_of c.run_and_show.new.course ≡ trace_of c.args.course.now = c.run_and_show.ensures.trace ∙ c.loop-cycle.invariant.trace in
    let all = c.last-last.ensures in
    let test = c.loop-cycle-test.true in
    let lt : k + 1 < length (trace_of c.args.course.now).cycles = omega arith in
    let more = subst (λ (t : Trace). k + 1 < length t.cycles) (sym same) lt in
    let on = c.in_ok-run_and_show.ensures.on in
    let gone = c.in_ok-next_cycle.ensures.gone in
    let course = c.run_and_show.new.course in
    let next = c.next_cycle.new.self in
    let run = c.run_and_show.new.self in
    let ran = c.in_ok-run_and_show.ensures.ran in
    subst (λ (t : Trace). HasCompleted t k run) (sym c.base.ensures) (next-ran k course next run on gone more ran (base_of next) (next-itself k course next run on gone more ran))

pub loop-cycle-preserved : goal.loop-cycle-preserved
loop-cycle-preserved g c =
    let k = c.loop-cycle.cycle in
    let b = g.B.Board.buckets in
    let i = c.loop-cycle.invariant in
    let same : trace_of c.run_and_show.new.course ≡ trace_of c.args.course.now = c.run_and_show.ensures.trace ∙ i.trace in
    let all = c.last-last.ensures in
    let test = c.loop-cycle-test.true in
    let lt : k + 1 < length (trace_of c.args.course.now).cycles = omega arith in
    let more = subst (λ (t : Trace). k + 1 < length t.cycles) (sym same) lt in
    let course = c.run_and_show.new.course in
    let next = c.next_cycle.new.self in
    let run = c.run_and_show.new.self in
    let run' = c.mark_end.new.self in
    let ran = c.in_ok-run_and_show.ensures in
    let gone = c.in_ok-next_cycle.ensures.gone in
    let marked = c.in_ok-mark_end.ensures in
    let begun = subst (λ (u : Trace). (t : Trace) → IsLimited t → k + 1 < length t.cycles → AreAlike (k + 1) u t → HasCompleted t k run → HasBegun t (k + 1) run') c.base.ensures marked.begun in
    record {
      trace = gone-trace k course next gone ∙ same;
      on = goes-on-course k course next run run' ran.on gone more marked.kept.0 marked.known;
      begun = next-begun k course next run ran.on gone more ran.ran run' marked.kept.0 marked.kept.1 marked.known begun;
      each = marked.each ∙ ran.each ∙ i.each;
      publisher = c.run_and_show.ensures.publisher ∙ i.publisher;
      viewers = c.run_and_show.ensures.viewers ∙ i.viewers;
      shown = next-shown k course next run ran.on gone more ran.ran run' marked.kept.0 marked.kept.1 marked.known b c.run_and_show.new.audience.publisher ran.shown;
    }

pub run_and_show-requires-2-clause-on : goal.run_and_show-requires-2-clause-on
run_and_show-requires-2-clause-on g c κs within =
    let all : c.loop-cycle.cycle ≡ c.last-last.result = (let past = c.loop-cycle-test.false in let end = c.loop-cycle.auto.cycle-end in omega arith) in
    subst (λ (k : ℕ). IsOnCourse k k c.loop-cycle.course c.loop-cycle.self) all c.loop-cycle.invariant.on

pub run_and_show-requires-2-clause-begun : goal.run_and_show-requires-2-clause-begun
run_and_show-requires-2-clause-begun g c κs within =
    let all : c.loop-cycle.cycle ≡ c.last-last.result = (let past = c.loop-cycle-test.false in let end = c.loop-cycle.auto.cycle-end in omega arith) in
    subst (λ (k : ℕ). HasBegunAll k (base_of c.loop-cycle.course) c.loop-cycle.self) all c.loop-cycle.invariant.begun

pub run_and_show-requires-2-clause-before : goal.run_and_show-requires-2-clause-before
run_and_show-requires-2-clause-before g c κs within =
    let all : c.loop-cycle.cycle ≡ c.last-last.result = (let past = c.loop-cycle-test.false in let end = c.loop-cycle.auto.cycle-end in omega arith) in
    subst (λ (k : ℕ). HasShownAll g.B.Board.buckets k (base_of c.loop-cycle.course) c.loop-cycle.self c.loop-cycle.audience.publisher) all c.loop-cycle.invariant.shown

pub returns-clause-on : goal.returns-clause-on
returns-clause-on g c =
    let all : c.last-last.result ≡ last_cycle (trace_of c.args.course.now) = (let last = c.last-last.ensures in omega arith) in
    subst (λ (k : ℕ). OnOk c.run_and_show-2.result (IsOnCourse k (k + 1) c.run_and_show-2.new.course c.run_and_show-2.new.self)) all c.run_and_show-2.ensures.on

pub returns-clause-ran : goal.returns-clause-ran
returns-clause-ran g c =
    let all : c.last-last.result ≡ last_cycle (trace_of c.args.course.now) = (let last = c.last-last.ensures in omega arith) in
    subst (λ (k : ℕ). OnOk c.run_and_show-2.result (HasCompletedAll k (base_of c.run_and_show-2.new.course) c.run_and_show-2.new.self)) all c.run_and_show-2.ensures.ran

pub returns-clause-shown : goal.returns-clause-shown
returns-clause-shown g c =
    let all : c.last-last.result ≡ last_cycle (trace_of c.args.course.now) = (let last = c.last-last.ensures in omega arith) in
    subst (λ (k : ℕ). OnOk c.run_and_show-2.result (HasShownEnd g.B.Board.buckets k (base_of c.run_and_show-2.new.course) c.run_and_show-2.new.self c.run_and_show-2.new.audience.publisher)) all c.run_and_show-2.ensures.shown
