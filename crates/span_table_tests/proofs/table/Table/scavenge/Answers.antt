use Rattle.span_table_tests.proofs.Tables.{ready_stepped}
use Rattle.span_table_tests.proofs.table.Table.scavenge.Goals as goal

pub invariant_of-self : goal.invariant_of-self
invariant_of-self g c = let s = c.args.self.now in
    record { ready = ready_stepped s.shared s.driver s.ready c.scavenge_step.new.w c.scavenge_step.result c.scavenge_step.ensures }
