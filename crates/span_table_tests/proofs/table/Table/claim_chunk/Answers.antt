use Rattle.span_table_tests.proofs.Tables.{ready_acts}
use Rattle.span_table_tests.proofs.table.Table.claim_chunk.Goals as goal

pub invariant_of-self : goal.invariant_of-self
invariant_of-self c = let s = c.args.self.now in
    record { ready = ready_acts s.shared s.driver s.ready _ _ c.claim_chunk.new.w c.claim_chunk.ensures s.ready.unclaimed }
