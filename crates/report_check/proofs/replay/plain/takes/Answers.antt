use Rattle.report_check.proofs.Coming.{blocks-more, take-test, take-missed}
use Rattle.report_check.proofs.replay.plain.takes.Goals as goal

pub take-requires-clause-blocks : goal.take-requires-clause-blocks
take-requires-clause-blocks c = blocks-more c.args.pages.now c.reserve_line.new.self c.args.cycle c.requires.blocks c.in_ok-reserve_line.ensures.same

pub returns-in-Ok : goal.returns-in-Ok
returns-in-Ok c = take-test c.args.pages.now c.reserve_line.new.self c.take.new.self c.args.cycle c.args.page c.in-Ok.first c.args.n c.args.class c.in_ok-reserve_line.ensures.same c.in-Ok.ensures.taken

pub returns-in-Err : goal.returns-in-Err
returns-in-Err c = take-missed c.args.pages.now c.reserve_line.new.self c.take.new.self c.args.cycle c.args.page c.args.n c.args.class c.in_ok-reserve_line.ensures.same c.in-Err.ensures.missed
