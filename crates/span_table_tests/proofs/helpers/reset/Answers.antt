use Rattle.span_table_tests.proofs.Tables.{looked_empty}
use Rattle.span_table_tests.proofs.helpers.reset.Goals as goal

pub reset_set-requires-clause-empty : goal.reset_set-requires-clause-empty
reset_set-requires-clause-empty c = looked_empty c.args.set c.look-head.result.0 c.look-head.result.1 c.is_swept.new.w c.look-head.new.w c.look-head.ensures.view c.if-head-tail.false
