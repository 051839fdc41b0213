use Rattle.span_table_tests.proofs.Tables.{stepped_knows}
use Rattle.span_table_tests.proofs.table.Table.close.Goals as goal

pub close-pages-requires-clause-told : goal.close-pages-requires-clause-told
close-pages-requires-clause-told g c = let s = c.args.self in stepped_knows s.shared s.driver s.ready c.scavenge_step.new.w _ c.in_ok-scavenge_step.ensures.4
