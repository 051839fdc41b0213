use Rattle.cycle_history.specs.Marked.{AreMarksBelow}
use Rattle.cycle_history.proofs.marks.Objects.mark_span.Given as goal

-- the objects so far are marked
abbrev pub invariant-loop-object : goal.invariant-loop-object
invariant-loop-object l = AreMarksBelow l.self.trace.now l.self.mark l.self.answers.now l.self.sampled.now l.self.buckets.now l.object 0 l.marks
