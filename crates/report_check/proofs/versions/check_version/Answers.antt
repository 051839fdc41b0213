use Rattle.std.proofs.Common.{arith}
use Rattle.report_check.proofs.Judged.{plain-judged, tiny-judged}
use Rattle.report_check.proofs.versions.check_version.Goals as goal

pub returns-then-trace-lt-TINY_VERSION : goal.returns-then-trace-lt-TINY_VERSION
returns-then-trace-lt-TINY_VERSION c = plain-judged c.args.trace.now c.args.report.now c.check.result (omega arith) c.check.ensures

pub returns : goal.returns
returns c = tiny-judged c.args.trace.now c.args.report.now c.check_tiny.result (omega arith) c.check_tiny.ensures
