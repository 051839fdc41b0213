use Rattle.std.proofs.Common.{suc, ◌+◌, ◌-◌, ◌≤◌, List, sym, subst, arith}
use Rattle.trace_reader.specs.declared.trace.Trace.{Trace}
use Rattle.profile_cycle.specs.declared.buckets.Bucket.{Bucket}
use Rattle.cycle_history.specs.Before.{IsLimited}
use Rattle.cycle_history.specs.Requests.{last_cycle}
use Rattle.heap_run.specs.Watching.{HasShown}
use Rattle.heap_run.specs.declared.run.Run.{Run}
use Rattle.heap_run.specs.Courses.{HasCompletedAll, HasShownEnd, IsOnCourse, MayEnd, base_of}
use Rattle.heap_run.specs.Runs.{HasCompleted}
use Rattle.heap_run.proofs.OnCourse.{end-becomes, ends-itself}
use Rattle.heap_run.proofs.Showing.{shown-on}
use Rattle.heap_run.proofs.Results.{on-any, on-ok}
use Rattle.heap_run.proofs.run.Run.run_and_show.Goals as goal

pub show-requires-clause-limits : goal.show-requires-clause-limits
show-requires-clause-limits g c =
    let own = ends-itself c.args.cycle (c.args.cycle + 1) c.run_cycle.new.course c.run_cycle.new.self c.in_ok-run_cycle.ensures.on in
    subst (λ (t : Trace). IsLimited t) (sym c.base.ensures) own.may.limited

pub show-requires-clause-inside : goal.show-requires-clause-inside
show-requires-clause-inside g c =
    let own = ends-itself c.args.cycle (c.args.cycle + 1) c.run_cycle.new.course c.run_cycle.new.self c.in_ok-run_cycle.ensures.on in
    subst (λ (t : Trace). c.args.cycle ≤ last_cycle t) (sym c.base.ensures) (let more = own.may.more in omega arith)

pub show-requires-clause-ran : goal.show-requires-clause-ran
show-requires-clause-ran g c =
    let own = ends-itself c.args.cycle (c.args.cycle + 1) c.run_cycle.new.course c.run_cycle.new.self c.in_ok-run_cycle.ensures.on in
    subst (λ (t : Trace). HasCompleted t c.args.cycle c.run_cycle.new.self) (sym c.base.ensures) (c.in_ok-run_cycle.ensures.ran (base_of c.run_cycle.new.course) own)

pub show-requires-clause-before : goal.show-requires-clause-before
show-requires-clause-before g c =
    let k = c.args.cycle in
    let new = c.run_cycle.new.self in
    let own = ends-itself k (k + 1) c.run_cycle.new.course new c.in_ok-run_cycle.ensures.on in
    let known = c.in_ok-run_cycle.ensures.follows.known in
    let may = end-becomes k c.args.self.now.profile.known (base_of c.args.course.now) (base_of c.run_cycle.new.course) (base_of c.run_cycle.new.course) c.in_ok-run_cycle.ensures.alike
    (subst (λ (l : List Bucket). MayEnd k l (base_of c.run_cycle.new.course) (base_of c.run_cycle.new.course)) known own) in
    let shown = shown-on g.B.Board.buckets (base_of c.run_cycle.new.course) k (k - 1) c.args.self.now new c.args.audience.now.publisher may.more (c.requires.begun (base_of c.run_cycle.new.course) may)
    c.in_ok-run_cycle.ensures.follows (omega arith) (c.requires.before (base_of c.run_cycle.new.course) may) in
    subst (λ (t : Trace). HasShown g.B.Board.buckets t (suc k) (k - 1) new c.args.audience.now.publisher) (sym c.base.ensures) shown

pub returns-clause-on : goal.returns-clause-on
returns-clause-on g c = on-any c.show.result
    (subst (λ (x : Run). IsOnCourse c.args.cycle (c.args.cycle + 1) c.run_cycle.new.course x) (sym c.show.ensures.same) c.in_ok-run_cycle.ensures.on)

pub returns-clause-ran : goal.returns-clause-ran
returns-clause-ran g c = on-any c.show.result (subst (λ (x : Run). HasCompletedAll c.args.cycle (base_of c.run_cycle.new.course) x) (sym c.show.ensures.same) c.in_ok-run_cycle.ensures.ran)

pub returns-clause-shown : goal.returns-clause-shown
returns-clause-shown g c =
    let k = c.args.cycle in
    let new = c.run_cycle.new.self in
    let base = base_of c.run_cycle.new.course in
    let e = c.in_ok-run_cycle.ensures in
    on-ok c.show.result (λ shows. subst (λ (x : Run). HasShownEnd g.B.Board.buckets k base x c.show.new.publisher) (sym c.show.ensures.same) (λ t m. (
    let may = end-becomes k c.args.self.now.profile.known (base_of c.args.course.now) base t e.alike (subst (λ (l : List Bucket). MayEnd k l base t) e.follows.known m) in
    shows t (e.ran t m) (shown-on g.B.Board.buckets t k (k - 1) c.args.self.now new c.args.audience.now.publisher may.more (c.requires.begun t may) e.follows (omega arith) (c.requires.before t may)))))
    c.show.ensures.shown
