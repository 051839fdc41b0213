use Rattle.std.proofs.Common.{◌-◌, length}
use Rattle.cycle_history.specs.Before.{AreClear}
use Rattle.cycle_history.proofs.marks.clear_end.Given as goal

-- none is set so far
abbrev pub invariant-loop-end : goal.invariant-loop-end
invariant-loop-end l = AreClear l.flags l.end

abbrev pub decreases-loop-end : goal.decreases-loop-end
decreases-loop-end l = length l.flags - l.end
