use Rattle.std.proofs.Common.{◌≡◌, ◌-◌, ◌≤◌}
use Rattle.cycle_history.specs.Marked.{AreMarksBelow}
use Rattle.cycle_history.specs.MarkedLoops.{IsBehind}
use Rattle.cycle_history.proofs.marks.Objects.mark_from.Given as goal

-- the objects so far are marked
abbrev pub invariant-loop-next : goal.invariant-loop-next
invariant-loop-next l = record {
  inside : l.next ≤ l.all;
  spans : l.marked.spans.now ≡ l.fn.marked.spans.now;
  behind : IsBehind l.marked l.next;
  below : AreMarksBelow l.self.trace.now l.self.mark l.self.answers.now l.self.sampled.now l.self.buckets.now l.next 0 l.marks;
}

abbrev pub decreases-loop-next : goal.decreases-loop-next
decreases-loop-next l = l.all - l.next
