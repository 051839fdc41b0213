use Rattle.span_table_tests.proofs.Tables.{ready_tried}
use Rattle.span_table_tests.proofs.table.Table.try_take.Goals as goal

pub invariant_of-self : goal.invariant_of-self
invariant_of-self g c = let s = c.args.self.now in
    record { ready = ready_tried s.shared s.driver s.ready c.max.result 0 c.try_span.new.w c.try_span.result c.try_span.ensures }
