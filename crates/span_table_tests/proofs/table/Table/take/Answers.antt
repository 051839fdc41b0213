use Rattle.span_table_tests.proofs.Tables.{ready_taken}
use Rattle.span_table_tests.proofs.table.Table.take.Goals as goal

pub invariant_of-self : goal.invariant_of-self
invariant_of-self g c = let s = c.args.self.now in
    record { ready = ready_taken s.shared s.driver s.ready c.max.result 0 c.take_span.new.w c.take_span.result c.take_span.ensures }
