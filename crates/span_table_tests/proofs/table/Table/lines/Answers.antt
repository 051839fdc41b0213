use Rattle.span_table_tests.proofs.Tables.{stepped_knows}
use Rattle.span_table_tests.proofs.table.Table.lines.Goals as goal

pub journal_copy-requires-clause-told : goal.journal_copy-requires-clause-told
journal_copy-requires-clause-told g c = let s = c.args.self.now in stepped_knows s.shared s.driver s.ready c.scavenge_step.new.w _ c.in_ok-scavenge_step.ensures.4
