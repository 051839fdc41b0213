use Rattle.std.proofs.Common.{subst}
use Rattle.cycle_history.specs.declared.Report.{Report}
use Rattle.report_check.specs.Answers.{BreaksAnswers}
use Rattle.report_check.specs.Fault.{IsFaultOf}
use Rattle.report_check.proofs.Faults.{err-from}
use Rattle.report_check.specs.Versions.{IsFaultTiny}
use Rattle.report_check.proofs.Judged.{tiny-1}
use Rattle.report_check.proofs.tiny.based.base_report.Goals as goal

pub returns-in_err-judge_answers-clause-broken : goal.returns-in_err-judge_answers-clause-broken
returns-in_err-judge_answers-clause-broken c =
    err-from c.from_residual.result c.in_err-judge_answers.field-0.0 (IsFaultTiny c.args.trace.now c.args.report.now) c.from_residual.ensures.1
    (tiny-1 c.args.trace.now c.args.report.now c.in_err-judge_answers.field-0.0
    (subst (λ (report : Report). IsFaultOf 1 (BreaksAnswers c.args.trace.now report) c.in_err-judge_answers.field-0.0) c.of.ensures c.in_err-judge_answers.ensures.fault))
