use Rattle.cycle_history.specs.MarkedLoops.{AreKept}
use Rattle.cycle_history.proofs.marks.Objects.unmark_run.Given as goal

-- the objects so far are unmarked
abbrev pub invariant-loop-object : goal.invariant-loop-object
invariant-loop-object l = AreKept l.self.trace.now l.self.mark l.self.answers.now l.object l.marks
