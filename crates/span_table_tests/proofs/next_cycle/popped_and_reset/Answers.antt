use Rattle.span_table_tests.proofs.Driving.{sees_empty}
use Rattle.span_table_tests.proofs.next_cycle.popped_and_reset.Goals as goal

pub reset-requires-clause-empty : goal.reset-requires-clause-empty
reset-requires-clause-empty g c = λ k l u. sees_empty c.pop_unswept-popped.new.w c.sees_all_empty.new.w c.if-not-sees_all_empty.ensures k l u
