use Rattle.std.proofs.Common.{◌∙◌}
use Rattle.trace_reader.specs.declared.fault.TraceFault.TheVariants.{Malformed, Truncated, Limit}
use Rattle.trace_reader.specs.declared.fault.Which.TheVariants.{Bytes}
use Rattle.trace_reader.proofs.Reading.{tell_over, tell_long, tell_cut, tells_read, tells_trace, stands_seen, stands_failed}
use Rattle.trace_reader.proofs.reader.read_line.Goals as goal

pub returns-in_default-clause-refused : goal.returns-in_default-clause-refused
returns-in_default-clause-refused g c = λ past. tells_read g.S.Source.left c.args.lines.now c.next_line.new.self past c.in_default.ensures.failed c.next_line.ensures.number c.in_default.ensures.all_used

pub returns-in_default-clause-stands : goal.returns-in_default-clause-stands
returns-in_default-clause-stands g c = stands_failed g.S.Source.left c.args.lines.now c.next_line.new.self c.in_default.ensures.failed c.next_line.ensures.number

pub returns-in-Cut-clause-refused : goal.returns-in-Cut-clause-refused
returns-in-Cut-clause-refused g c = λ past. tells_trace g.S.Source.left c.args.lines.now c.next_line.new.self past (Truncated c.number.result) tt
    (tell_cut g.S.Source.left c.args.lines.now c.next_line.new.self c.in-Ok.seen c.number.result past c.in-Ok.ensures.shows c.in-Cut.is c.in-Ok.ensures.at_end (c.number.ensures ∙ c.next_line.ensures.number)) c.number.ensures

pub returns-in-Cut-clause-stands : goal.returns-in-Cut-clause-stands
returns-in-Cut-clause-stands g c = stands_seen g.S.Source.left c.args.lines.now c.next_line.new.self c.in-Ok.seen c.in-Ok.ensures.shows c.next_line.ensures.number

pub returns-in-Long-clause-refused : goal.returns-in-Long-clause-refused
returns-in-Long-clause-refused g c = λ past. tells_trace g.S.Source.left c.args.lines.now c.next_line.new.self past (Malformed c.number-in-Long.result) tt
    (tell_long g.S.Source.left c.args.lines.now c.next_line.new.self c.in-Ok.seen c.number-in-Long.result past c.in-Ok.ensures.shows c.in-Long.is (c.number-in-Long.ensures ∙ c.next_line.ensures.number)) c.number-in-Long.ensures

pub returns-in-Long-clause-stands : goal.returns-in-Long-clause-stands
returns-in-Long-clause-stands g c = stands_seen g.S.Source.left c.args.lines.now c.next_line.new.self c.in-Ok.seen c.in-Ok.ensures.shows c.next_line.ensures.number

pub returns-in-Over-clause-refused : goal.returns-in-Over-clause-refused
returns-in-Over-clause-refused g c = λ past. tells_trace g.S.Source.left c.args.lines.now c.next_line.new.self past (Limit c.number-in-Over.result Bytes) tt
    (tell_over g.S.Source.left c.args.lines.now c.next_line.new.self c.in-Ok.seen c.number-in-Over.result past c.in-Ok.ensures.shows c.in-Over.is (c.number-in-Over.ensures ∙ c.next_line.ensures.number)) c.number-in-Over.ensures

pub returns-in-Over-clause-stands : goal.returns-in-Over-clause-stands
returns-in-Over-clause-stands g c = stands_seen g.S.Source.left c.args.lines.now c.next_line.new.self c.in-Ok.seen c.in-Ok.ensures.shows c.next_line.ensures.number

pub returns-in-Line-clause-stands : goal.returns-in-Line-clause-stands
returns-in-Line-clause-stands g c = stands_seen g.S.Source.left c.args.lines.now c.next_line.new.self c.in-Ok.seen c.in-Ok.ensures.shows c.next_line.ensures.number
