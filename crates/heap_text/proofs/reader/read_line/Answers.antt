use Rattle.trace_reader.proofs.Reading.{stands_failed, stands_seen}
use Rattle.heap_text.proofs.Reading.{stops_long, stops_over}
use Rattle.heap_text.proofs.reader.read_line.Goals as goal

pub returns-in_default-clause-stands : goal.returns-in_default-clause-stands
returns-in_default-clause-stands g c = stands_failed g.S.Source.left c.args.lines.now c.next_line.new.self c.in_default.ensures.failed c.next_line.ensures.number

pub returns-in-Line-clause-stands : goal.returns-in-Line-clause-stands
returns-in-Line-clause-stands g c = stands_seen g.S.Source.left c.args.lines.now c.next_line.new.self c.in-Ok.seen c.in-Ok.ensures.shows c.next_line.ensures.number

pub returns-in-Finished-clause-stands : goal.returns-in-Finished-clause-stands
returns-in-Finished-clause-stands g c = stands_seen g.S.Source.left c.args.lines.now c.next_line.new.self c.in-Ok.seen c.in-Ok.ensures.shows c.next_line.ensures.number

pub returns-in-Cut-clause-stands : goal.returns-in-Cut-clause-stands
returns-in-Cut-clause-stands g c = stands_seen g.S.Source.left c.args.lines.now c.next_line.new.self c.in-Ok.seen c.in-Ok.ensures.shows c.next_line.ensures.number

pub returns-in-Long-clause-refused : goal.returns-in-Long-clause-refused
returns-in-Long-clause-refused g c = λ _.
    stops_long g.S.Source.left c.args.lines.now c.next_line.new.self c.in-Ok.seen c.number-in-Long.result c.in-Ok.ensures.shows c.in-Long.is c.number-in-Long.ensures c.next_line.ensures.number

pub returns-in-Long-clause-stands : goal.returns-in-Long-clause-stands
returns-in-Long-clause-stands g c = stands_seen g.S.Source.left c.args.lines.now c.next_line.new.self c.in-Ok.seen c.in-Ok.ensures.shows c.next_line.ensures.number

pub returns-in-Over-clause-refused : goal.returns-in-Over-clause-refused
returns-in-Over-clause-refused g c = λ _.
    stops_over g.S.Source.left c.args.lines.now c.next_line.new.self c.in-Ok.seen c.number-in-Over.result c.in-Ok.ensures.shows c.in-Over.is c.number-in-Over.ensures c.next_line.ensures.number

pub returns-in-Over-clause-stands : goal.returns-in-Over-clause-stands
returns-in-Over-clause-stands g c = stands_seen g.S.Source.left c.args.lines.now c.next_line.new.self c.in-Ok.seen c.in-Ok.ensures.shows c.next_line.ensures.number
