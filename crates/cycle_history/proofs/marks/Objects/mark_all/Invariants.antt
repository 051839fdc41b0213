use Rattle.std.proofs.Common.{◌≡◌, ◌-◌}
use Rattle.cycle_history.specs.Before.{marks_at, objects_before}
use Rattle.cycle_history.specs.MarkedLoops.{AreKept, AreWalked, IsBehind}
use Rattle.cycle_history.proofs.marks.Objects.mark_all.Given as goal

-- the spans so far are walked
abbrev pub invariant-loop-span : goal.invariant-loop-span
invariant-loop-span l = record {
  spans : l.marked.spans.now ≡ marks_at l.self.trace.now l.self.mark;
  walked : AreWalked (λ n. IsBehind l.marked n × AreKept l.self.trace.now l.self.mark l.self.answers.now n l.marks)
      (objects_before l.self.trace.now (l.self.mark - 1)) l.span-items l.span-index;
}
