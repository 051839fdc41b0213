use Rattle.std.proofs.Common.{drop}
use Rattle.sweep_laws.specs.Lists.{rises}
use Rattle.sweep_generation.proofs.Packed.{RisesFrom}
use Rattle.sweep_generation.proofs.tries_next.is_rising.Given as goal

abbrev pub invariant-loop-mark : goal.invariant-loop-mark
invariant-loop-mark l = RisesFrom l.last l.risen l.mark-index (drop l.mark-index l.rest) (rises l.marks)
