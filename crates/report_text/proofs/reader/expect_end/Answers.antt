use Rattle.std.proofs.Common.{◌∙◌}
use Rattle.trace_reader.proofs.Reading.{stands_failed, stands_seen}
use Rattle.report_text.proofs.Reading.{behind_end}
use Rattle.report_text.proofs.reader.expect_end.Goals as goal

pub returns-in_default-clause-stands : goal.returns-in_default-clause-stands
returns-in_default-clause-stands g c = stands_failed g.S.Source.left c.args.lines.now c.next_line.new.self c.in_default.ensures.failed c.next_line.ensures.number

pub returns-in-Finished-clause-stands : goal.returns-in-Finished-clause-stands
returns-in-Finished-clause-stands g c = stands_seen g.S.Source.left c.args.lines.now c.next_line.new.self c.in-Ok.seen c.in-Ok.ensures.shows c.next_line.ensures.number

pub returns-in_default-seen-clause-refused : goal.returns-in_default-seen-clause-refused
returns-in_default-seen-clause-refused g c = λ _.
    behind_end g.S.Source.left c.args.lines.now c.next_line.new.self c.in-Ok.seen c.number.result c.in-Ok.ensures.shows c.in_default-seen.not-Finished (c.number.ensures ∙ c.next_line.ensures.number)

pub returns-in_default-seen-clause-stands : goal.returns-in_default-seen-clause-stands
returns-in_default-seen-clause-stands g c = stands_seen g.S.Source.left c.args.lines.now c.next_line.new.self c.in-Ok.seen c.in-Ok.ensures.shows c.next_line.ensures.number
