use Rattle.std.proofs.Common.{◌≡◌}
use Rattle.cycle_history.specs.Before.{objects_before}
use Rattle.tiny_check_tests.proofs.read.objects.Given as goal

-- the objects of the cycles so far
abbrev pub invariant-loop-cycle : goal.invariant-loop-cycle
invariant-loop-cycle l = l.count ≡ objects_before l.trace l.cycle
