use Rattle.std.proofs.Common.{suc, ◌-◌, ◌<◌, ◌≤◌, List, length, Option, Some, sym, ◌∙◌, ap, subst, arith}
use Rattle.profile_cycle.specs.declared.counts.Count.{Count}
use Rattle.heap_run.specs.Watching.{HasShown}
use Rattle.heap_run.proofs.Running.{few-answers, some-cycle}
use Rattle.heap_run.proofs.Showing.{counts-long, published-next}
use Rattle.heap_run.proofs.Telling.{few-objects}
use Rattle.heap_run.proofs.Results.{on-ok}
use Rattle.heap_run.proofs.run.Run.show.Goals as goal

pub counts-requires-clause-few : goal.counts-requires-clause-few
counts-requires-clause-few g c =
    let t = c.args._trace.now in
    let run = c.args.self.now in
    let ran = c.requires.ran in
    let least = some-cycle 0 (λ _. ⊥) t.cycles c.requires.limits.cycles in
    let inside : c.args.cycle < length t.cycles = (let i = c.requires.inside in omega arith) in
    few-objects t c.args.cycle c.args.cycle ran.objects run run.driver.tally.view.calls (few-answers t c.args.cycle run c.requires.limits inside ran ran.objects ran.asked) ran.counted.shows

pub publish-requires-clause-buckets : goal.publish-requires-clause-buckets
publish-requires-clause-buckets g c =
    let t = c.args._trace.now in
    let run = c.args.self.now in
    let was = subst (λ (p : Option (List (List Count))). HasShown g.B.Board.buckets t (suc c.args.cycle) (c.args.cycle - 1) run p) c.in-Some.is c.requires.before in
    ap (λ (l : List Count). length l) c.in_ok-counts.ensures.counts ∙ counts-long run.driver.tally.view.calls 0 run.profile.known ∙ was.0

pub returns-clause-shown : goal.returns-clause-shown
returns-clause-shown g c =
    let b = g.B.Board.buckets in
    let run = c.args.self.now in
    let k = c.args.cycle in
    let p = c.in-Some.publisher in
    let some : 1 ≤ k = (let no = c.if-cycle-eq0.false in omega arith) in
    on-ok c.publish.result (λ more t ran before. (
    let was = subst (λ (p : Option (List (List Count))). HasShown b t (suc k) (k - 1) run p) c.in-Some.is before in
    subst (λ (ps : List (List Count)). HasShown b t (suc k) k run (Some ps)) (sym more)
    (was.0, published-next t k run p c.in_ok-counts.counts some ran c.in_ok-counts.ensures.counts was.1))) c.publish.ensures.ok
