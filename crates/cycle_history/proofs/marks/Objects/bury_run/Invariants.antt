use Rattle.std.proofs.Common.{length}
use Rattle.cycle_history.specs.Marked.{AreMarksBelow}
use Rattle.cycle_history.proofs.marks.Objects.bury_run.Given as goal

-- the objects so far are settled
abbrev pub invariant-loop-object : goal.invariant-loop-object
invariant-loop-object l = AreMarksBelow l.self.trace.now l.self.mark l.self.answers.now l.self.sampled.now l.self.buckets.now (length l.self.answers.now) l.object l.marks
