use Rattle.span_set.specs.Sets.{swept_of}
use Rattle.span_table_tests.proofs.Tables.{pop_keeps}
use Rattle.span_table_tests.proofs.helpers.pop.Goals as goal

pub returns : goal.returns
returns c = pop_keeps (swept_of c.args.w.now.view.generation c.args.set) c.args.w.now c.pop_swept.new.w c.pop_swept.result c.pop_swept.ensures
