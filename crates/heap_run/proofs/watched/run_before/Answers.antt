use Rattle.std.proofs.Common.{◌≡◌, ℕ, List, length, IfOk, ◌∙◌, ap, subst}
use Rattle.std.proofs.lemmas.List.{length-replicate}
use Rattle.profile_cycle.specs.declared.counts.Count.{Count}
use Rattle.heap_run.specs.Courses.{trace_of}
use Rattle.heap_run.specs.Versions.{IsWatchedByVersion}
use Rattle.heap_run.specs.declared.watched.Watched.{Watched}
use Rattle.heap_run.proofs.watched.run_before.Goals as goal

pub returns-clause-seen : goal.returns-clause-seen
returns-clause-seen g c =
    let many : length c.in_ok-publisher.watchers ≡ c.args.readers = ap (λ (l : List (List (List Count))). length l) c.in_ok-publisher.ensures.watchers ∙ length-replicate c.args.readers _ in
    subst (λ (n : ℕ). IfOk c.run_with-watched.result (λ (w : Watched). IsWatchedByVersion (trace_of c.args.course) n w.ran.report w.seen)) many c.run_with-watched.ensures.seen
