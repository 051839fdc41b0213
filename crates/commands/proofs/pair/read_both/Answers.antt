use Rattle.std.proofs.Common.{Err, ap}
use Rattle.trace_reader.proofs.Broken.{broken_in_trace}
use Rattle.commands.specs.Pair.{IsUnendedReport}
use Rattle.commands.proofs.Pairs.{broken_report, reads_pair, report_unread, trace_unread}
use Rattle.commands.proofs.pair.read_both.Goals as goal

pub returns-in-Ok-read_report-clause-read : goal.returns-in-Ok-read_report-clause-read
returns-in-Ok-read_report-clause-read g c =
    reads_pair g.S.Source.left c.args.lines.now c.read_trace.new.lines c.restart.new.self c.read_report.new.lines c.in-Ok.trace c.in-Ok-read_report.report c.in-Ok.ensures.spelled c.requires.room c.restart.ensures.left c.restart.ensures.dry
    (c.in-Ok.ensures.lines.bytes.wet c.requires.fresh) c.restart.ensures.room c.in-Ok-read_report.ensures.read

pub returns-in-Err-clause-broken_off : goal.returns-in-Err-clause-broken_off
returns-in-Err-clause-broken_off g c = λ is.
    broken_in_trace IsUnendedReport g.S.Source.left c.args.lines.now c.read_trace.new.lines c.requires.number c.requires.room (c.in-Err.ensures.refused.read_fault (trace_unread c.in-Err.fault is))

pub returns-in-Err-read_report-clause-broken_off : goal.returns-in-Err-read_report-clause-broken_off
returns-in-Err-read_report-clause-broken_off g c = λ is.
    broken_report g.S.Source.left c.args.lines.now c.read_trace.new.lines c.restart.new.self c.read_report.new.lines c.in-Ok.trace c.in-Ok.ensures.spelled c.requires.room c.restart.ensures.left c.restart.ensures.room
    (c.in-Err-read_report.ensures.broken_off (ap Err (report_unread c.in-Err-read_report.fault is)))
