use Rattle.std.proofs.Common.{◌-◌, ◌≤◌}
use Rattle.cycle_history.specs.Counted.{AreCounts, AreLiving}
use Rattle.cycle_history.proofs.totals.Asked.count.Given as goal

-- the objects so far are counted
abbrev pub invariant-loop-low : goal.invariant-loop-low
invariant-loop-low l = record {
  from : l.self.first ≤ l.low;
  inside : l.low ≤ l.end;
  living : AreLiving l.self.trace.now l.low l.living;
  counted : AreCounts l.self.trace.now l.self.answers.now l.low l.counts;
}

abbrev pub decreases-loop-low : goal.decreases-loop-low
decreases-loop-low l = l.end - l.low
