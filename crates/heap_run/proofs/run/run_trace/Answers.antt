use Rattle.std.proofs.Common.{◌≡◌, ◌+◌, Bool, IfOk, sym, ◌∙◌, subst}
use Rattle.trace_reader.specs.declared.trace.Trace.{Trace}
use Rattle.cycle_history.specs.Before.{IsLimited}
use Rattle.cycle_history.specs.Requests.{last_cycle}
use Rattle.tiny_alloc.specs.Versions.{HasFormByVersion, IsSoundByVersion}
use Rattle.heap_run.specs.Courses.{HasCompletedAll, IsFresh, IsOnCourse, base_of}
use Rattle.heap_run.specs.Versions.{IsLeftByVersion}
use Rattle.heap_run.specs.declared.run.Ran.{Ran}
use Rattle.heap_run.proofs.OnCourse.{fresh-trace}
use Rattle.heap_run.proofs.Running.{limited}
use Rattle.heap_run.proofs.run.run_trace.Goals as goal

pub new-requires : goal.new-requires
new-requires g c = record { limits = limited c.args.trace.now c.requires.limits }

pub start-requires-clause-limits : goal.start-requires-clause-limits
start-requires-clause-limits g c =
    subst (λ (t : Trace). IsLimited t) (sym (fresh-trace c.args.trace.now c.in_ok-course.course c.in_ok-course.ensures.fresh)) (limited c.args.trace.now c.requires.limits)

pub start-requires-clause-fresh : goal.start-requires-clause-fresh
start-requires-clause-fresh g c =
    let course = c.in_ok-course.course in
    let fresh = c.in_ok-course.ensures.fresh in
    subst (λ (t : Trace). IsFresh t course) (sym (fresh-trace c.args.trace.now course fresh)) fresh

pub run_cycles-ran-requires-clause-limits : goal.run_cycles-ran-requires-clause-limits
run_cycles-ran-requires-clause-limits g c κs within =
    subst (λ (t : Trace). IsLimited t) (sym (fresh-trace c.args.trace.now c.in_ok-course.course c.in_ok-course.ensures.fresh)) (limited c.args.trace.now c.requires.limits)

pub into_ran-requires-clause-on : goal.into_ran-requires-clause-on
into_ran-requires-clause-on g c =
    let course = c.run_cycles-ran.new.course in
    let run = c.run_cycles-ran.new.self in
    subst (λ (t : Trace). IsOnCourse (last_cycle t) (last_cycle t + 1) course run) (sym c.run_cycles-ran.ensures.trace) c.in_ok-ran.ensures.on

pub into_ran-requires-clause-ran : goal.into_ran-requires-clause-ran
into_ran-requires-clause-ran g c =
    let course = c.run_cycles-ran.new.course in
    let run = c.run_cycles-ran.new.self in
    subst (λ (t : Trace). HasCompletedAll (last_cycle t) (base_of course) run) (sym c.run_cycles-ran.ensures.trace) c.in_ok-ran.ensures.ran

pub returns-clause-sound : goal.returns-clause-sound
returns-clause-sound g c =
    let same = c.run_cycles-ran.ensures.trace ∙ fresh-trace c.args.trace.now c.in_ok-course.course c.in_ok-course.ensures.fresh in
    subst (λ (t : Trace). IfOk c.into_ran.result (λ (ran : Ran). IsSoundByVersion t ran.report)) same c.into_ran.ensures.sound

pub returns-clause-form : goal.returns-clause-form
returns-clause-form g c =
    let same = c.run_cycles-ran.ensures.trace ∙ fresh-trace c.args.trace.now c.in_ok-course.course c.in_ok-course.ensures.fresh in
    let each : c.run_cycles-ran.new.self.profile.each ≡ c.args.options.each = c.in_ok-ran.ensures.each ∙ c.in_ok-run.ensures.each in
    subst (λ (e : Bool). IfOk c.into_ran.result (λ (ran : Ran). HasFormByVersion c.args.trace.now ran.report e)) each
    (subst (λ (t : Trace). IfOk c.into_ran.result (λ (ran : Ran). HasFormByVersion t ran.report c.run_cycles-ran.new.self.profile.each)) same c.into_ran.ensures.form)

pub returns-clause-left : goal.returns-clause-left
returns-clause-left g c =
    let same = c.run_cycles-ran.ensures.trace ∙ fresh-trace c.args.trace.now c.in_ok-course.course c.in_ok-course.ensures.fresh in
    subst (λ (t : Trace). IfOk c.into_ran.result (λ (ran : Ran). IsLeftByVersion t ran)) same c.into_ran.ensures.left
