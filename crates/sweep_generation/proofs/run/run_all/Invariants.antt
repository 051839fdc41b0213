use Rattle.std.proofs.Common.{take}
use Rattle.sweep_laws.proofs.StepsKept.{Ran}
use Rattle.sweep_generation.proofs.run.run_all.Given as goal

abbrev pub invariant-loop-mv : goal.invariant-loop-mv
invariant-loop-mv l = Ran l.fn.core l.core (take l.mv-index l.moves)
