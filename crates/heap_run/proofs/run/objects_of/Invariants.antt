use Rattle.std.proofs.Common.{◌≡◌}
use Rattle.cycle_history.specs.Before.{objects_before}
use Rattle.heap_run.proofs.run.objects_of.Given as goal

-- the objects of the cycles so far are counted
abbrev pub invariant-loop-cycle : goal.invariant-loop-cycle
invariant-loop-cycle l = l.objects ≡ objects_before l.trace l.cycle
