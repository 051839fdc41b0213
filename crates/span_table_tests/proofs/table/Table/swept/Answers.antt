use Rattle.span_table_tests.proofs.Tables.{ready_acts}
use Rattle.span_table_tests.proofs.table.Table.swept.Goals as goal

pub invariant_of-self : goal.invariant_of-self
invariant_of-self c = let s = c.args.self.now in
    record { ready = ready_acts s.shared s.driver s.ready _ _ c.swept.new.w c.swept.ensures s.ready.unclaimed }
