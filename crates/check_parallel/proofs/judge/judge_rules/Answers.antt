use Rattle.report_check.proofs.Sounding.{rules-handed-on}
use Rattle.check_parallel.proofs.judge.judge_rules.Goals as goal

pub returns-in_err-settled : goal.returns-in_err-settled
returns-in_err-settled g c = rules-handed-on c.args.trace.now c.args.report.now c.from_residual.result c.in_err-settled.field-0.0 c.from_residual.ensures.1 c.in_err-settled.ensures.broken
