use Rattle.std.proofs.Common.{ℕ, suc, ◌+◌, ◌<◌, Bool, List, length, Option, refl, sym, ◌∙◌, subst, arith}
use Rattle.trace_reader.specs.declared.trace.Trace.{Trace}
use Rattle.profile_cycle.specs.declared.counts.Count.{Count}
use Rattle.cycle_history.specs.Requests.{last_cycle}
use Rattle.tiny_alloc.specs.Versions.{HasFormByVersion, IsSoundByVersion}
use Rattle.heap_run.specs.Courses.{HasCompletedAll, HasShownEnd, IsOnCourse, base_of, trace_of}
use Rattle.heap_run.specs.Runs.{HasCompleted}
use Rattle.heap_run.specs.Versions.{IsLeftByVersion, IsWatchedByVersion}
use Rattle.heap_run.specs.Watching.{HasShown}
use Rattle.heap_run.proofs.Ending.{base-last, watched-by, with_answers}
use Rattle.heap_run.proofs.OnCourse.{ends-itself}
use Rattle.heap_run.proofs.Showing.{published-none, watched-all}
use Rattle.heap_run.proofs.watched.run_with.Goals as goal

pub run_cycles-requires-clause-unshown : goal.run_cycles-requires-clause-unshown
run_cycles-requires-clause-unshown g c κs within t m =
    subst (λ (p : Option (List (List Count))). HasShown g.B.Board.buckets t 0 0 c.args.run p) (sym (c.seat.ensures.publisher ∙ c.requires.unshown))
    (c.requires.buckets, published-none t c.args.run)

pub into_ran-requires-clause-on : goal.into_ran-requires-clause-on
into_ran-requires-clause-on g c =
    let course = c.run_cycles.new.course in
    let run = c.run_cycles.new.self in
    subst (λ (t : Trace). IsOnCourse (last_cycle t) (last_cycle t + 1) course run) (sym c.run_cycles.ensures.trace) c.in_ok-run_cycles.ensures.on

pub into_ran-requires-clause-ran : goal.into_ran-requires-clause-ran
into_ran-requires-clause-ran g c =
    let course = c.run_cycles.new.course in
    let run = c.run_cycles.new.self in
    subst (λ (t : Trace). HasCompletedAll (last_cycle t) (base_of course) run) (sym c.run_cycles.ensures.trace) c.in_ok-run_cycles.ensures.ran

pub returns-clause-sound : goal.returns-clause-sound
returns-clause-sound g c = subst (λ (t : Trace). IsSoundByVersion t c.in_ok-ran.ran.report) c.run_cycles.ensures.trace c.in_ok-ran.ensures.sound

pub returns-clause-form : goal.returns-clause-form
returns-clause-form g c =
    subst (λ (each : Bool). HasFormByVersion (trace_of c.args.course) c.in_ok-ran.ran.report each) (c.in_ok-run_cycles.ensures.each ∙ c.requires.each)
    (subst (λ (t : Trace). HasFormByVersion t c.in_ok-ran.ran.report c.run_cycles.new.self.profile.each) c.run_cycles.ensures.trace c.in_ok-ran.ensures.form)

pub returns-clause-left : goal.returns-clause-left
returns-clause-left g c = subst (λ (t : Trace). IsLeftByVersion t c.in_ok-ran.ran) c.run_cycles.ensures.trace c.in_ok-ran.ensures.left

pub returns-clause-seen : goal.returns-clause-seen
returns-clause-seen g c =
    let b = g.B.Board.buckets in
    let known : b < 4294967296 = (let few = c.len-buckets.ensures.few in let l = c.len-buckets.ensures.buckets in let e = c.requires.buckets in omega arith) in
    let course = c.run_cycles.new.course in
    let run = c.run_cycles.new.self in
    let k = last_cycle (trace_of course) in
    let e = c.in_ok-run_cycles.ensures in
    let on = subst (λ (t : Trace). IsOnCourse (last_cycle t) (last_cycle t + 1) course run) (sym c.run_cycles.ensures.trace) e.on in
    let ran = subst (λ (t : Trace). HasCompletedAll (last_cycle t) (base_of course) run) (sym c.run_cycles.ensures.trace) e.ran in
    let t = base_of course in
    let m = ends-itself k (k + 1) course run on in
    let last = base-last k (k + 1) course run refl on in
    let shown = subst (λ (u : Trace). HasShownEnd b (last_cycle u) (base_of course) run c.run_cycles.new.audience.publisher) (sym c.run_cycles.ensures.trace) e.shown t m in
    let readers = length c.args.watchers in
    let report = c.in_ok-ran.ran.report in
    subst (λ (u : Trace). IsWatchedByVersion u readers report c.in_ok-seen.seen) c.run_cycles.ensures.trace
    (watched-by course run readers report c.in_ok-seen.seen on c.in_ok-ran.ensures.answers
    (watched-all t run (with_answers run.answers report) b c.run_cycles.new.audience.publisher c.in_ok-seen.seen readers m.may.limited (subst (λ (n : ℕ). HasCompleted t n run) (sym last) (ran t m)) known
    (subst (λ (n : ℕ). HasShown b t (suc n) n run c.run_cycles.new.audience.publisher) (sym last) shown) c.in_ok-seen.ensures.seen refl
    (c.in_ok-seen.ensures.count ∙ c.run_cycles.ensures.viewers ∙ c.in_ok-seat.ensures.viewers)))
