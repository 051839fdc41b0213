use Rattle.report_check.proofs.Sounding.{rules-handed-on}
use Rattle.report_check.proofs.judge.judge_rules.Goals as goal

pub returns-in_err-items : goal.returns-in_err-items
returns-in_err-items c = rules-handed-on c.args.trace.now c.args.report.now c.from_residual.result c.in_err-items.field-0.0 c.from_residual.ensures.1 c.in_err-items.ensures.broken
