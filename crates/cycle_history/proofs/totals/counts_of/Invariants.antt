use Rattle.std.proofs.Common.{◌≡◌}
use Rattle.cycle_history.specs.Counted.{AreCounts, AreLiving}
use Rattle.cycle_history.specs.Before.{objects_before}
use Rattle.cycle_history.proofs.totals.counts_of.Given as goal

-- the cycles so far are counted
abbrev pub invariant-loop-cycle : goal.invariant-loop-cycle
invariant-loop-cycle l = record {
  first : l.first ≡ objects_before l.trace l.cycle;
  living : AreLiving l.trace l.first l.living;
  counted : AreCounts l.trace l.answers l.first l.counts;
}
