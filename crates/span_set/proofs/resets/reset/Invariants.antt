use Rattle.span_set.specs.Resets.{ResetsBelow}
use Rattle.span_set.proofs.resets.reset.Given as goal

abbrev pub invariant-loop-set : goal.invariant-loop-set
invariant-loop-set l = ResetsBelow l.set l.fn.driver l.driver
