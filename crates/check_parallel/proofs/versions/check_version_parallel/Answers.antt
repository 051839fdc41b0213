use Rattle.std.proofs.Common.{arith}
use Rattle.report_check.proofs.Judged.{plain-judged, tiny-judged}
use Rattle.check_parallel.proofs.versions.check_version_parallel.Goals as goal

pub returns-then-trace-lt-TINY_VERSION : goal.returns-then-trace-lt-TINY_VERSION
returns-then-trace-lt-TINY_VERSION g c = plain-judged c.args.trace.now c.args.report.now c.check_parallel.result (omega arith) c.check_parallel.ensures

pub returns : goal.returns
returns g c = tiny-judged c.args.trace.now c.args.report.now c.judge_tiny.result (omega arith) c.judge_tiny.ensures
