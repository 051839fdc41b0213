use Rattle.span_table_tests.proofs.Tables.{ready_kept}
use Rattle.span_table_tests.proofs.table.Table.pop.Goals as goal

pub invariant_of-self : goal.invariant_of-self
invariant_of-self c = let s = c.args.self.now in
    record { ready = ready_kept s.shared s.driver s.ready c.pop.new.w c.pop.ensures }
