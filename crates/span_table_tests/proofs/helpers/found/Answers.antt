use Rattle.span_table_tests.proofs.Tables.{ready_acts}
use Rattle.span_table_tests.proofs.helpers.found.Goals as goal

pub returns-in-Got : goal.returns-in-Got
returns-in-Got c = ready_acts c.args.shared.now c.args.w.now c.requires.ready _ _ c.acquire.new.w c.in-Got.ensures.1 c.requires.ready.unclaimed

pub returns-in-Other : goal.returns-in-Other
returns-in-Other c = ready_acts c.args.shared.now c.args.w.now c.requires.ready _ _ c.acquire.new.w c.in-Other.ensures.1 c.requires.ready.unclaimed
