use Rattle.std.proofs.Common.{◌≡◌, ◌-◌, ◌≤◌}
use Rattle.cycle_history.specs.MarkedLoops.{AreKept, IsBehind}
use Rattle.cycle_history.proofs.marks.Objects.unmark.Given as goal

-- the objects so far are unmarked
abbrev pub invariant-loop-next : goal.invariant-loop-next
invariant-loop-next l = record {
  order : l.low ≤ l.next;
  inside : l.next ≤ l.high;
  spans : l.marked.spans.now ≡ l.fn.marked.spans.now;
  behind : IsBehind l.marked l.next;
  kept : AreKept l.self.trace.now l.self.mark l.self.answers.now l.next l.marks;
}

abbrev pub decreases-loop-next : goal.decreases-loop-next
decreases-loop-next l = l.high - l.next
