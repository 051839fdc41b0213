use Rattle.span_table_tests.proofs.Tables.{pop_base_keeps, ready_kept}
use Rattle.span_table_tests.proofs.table.Table.pop_unswept.Goals as goal

pub invariant_of-self : goal.invariant_of-self
invariant_of-self c = let s = c.args.self.now in
    record { ready = ready_kept s.shared s.driver s.ready c.pop_unswept.new.w (pop_base_keeps _ s.driver c.pop_unswept.new.w c.pop_unswept.result c.pop_unswept.ensures) }
