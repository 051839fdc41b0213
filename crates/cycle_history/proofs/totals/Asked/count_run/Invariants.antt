use Rattle.cycle_history.specs.Counted.{AreCounts}
use Rattle.cycle_history.proofs.totals.Asked.count_run.Given as goal

-- the objects so far are counted
abbrev pub invariant-loop-object : goal.invariant-loop-object
invariant-loop-object l = AreCounts l.self.trace.now l.self.answers.now l.object l.counts
