use Rattle.std.proofs.Common.{sym, subst}
use Rattle.trace_reader.specs.Draft.{AreEnded}
use Rattle.trace_reader.proofs.Keeping.{finishes}
use Rattle.trace_reader.proofs.draft.Draft.finish.Goals as goal

pub returns-clause-ended : goal.returns-clause-ended
returns-clause-ended c = λ all. subst AreEnded (sym c.in_ok-push.ensures.ok) (finishes c.args.self c.end_cycle.new.self _ c.in_ok-end_cycle.ensures all)
