use Rattle.span_table_tests.specs.Rows.{SeesBelow}
use Rattle.span_table_tests.proofs.turns.sees_all_empty.Given as goal

abbrev pub invariant-loop-set : goal.invariant-loop-set
invariant-loop-set l = SeesBelow l.set l.fn.w l.w
