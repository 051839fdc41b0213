use Rattle.std.proofs.Common.{◌+◌}
use Rattle.cycle_history.specs.Before.{objects_before}
use Rattle.bench.specs.Filled.{AreFilled}
use Rattle.bench.proofs.history.answers.grow.Given as goal

-- the answers of the objects so far are there
abbrev pub invariant-loop-event : goal.invariant-loop-event
invariant-loop-event l = AreFilled l.trace (objects_before l.trace l.cycle + l.event-index) l.answers
