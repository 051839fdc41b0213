use Rattle.cycle_history.specs.Before.{objects_before}
use Rattle.bench.specs.Filled.{AreFilled}
use Rattle.bench.proofs.history.work.fill.Given as goal

-- the answers of the cycles so far are there
abbrev pub invariant-loop-cycle : goal.invariant-loop-cycle
invariant-loop-cycle l = AreFilled l.trace (objects_before l.trace l.cycle) l.answers
