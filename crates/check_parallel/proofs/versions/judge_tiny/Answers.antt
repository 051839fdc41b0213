use Rattle.std.proofs.Common.{subst}
use Rattle.cycle_history.specs.declared.Report.{Report}
use Rattle.report_check.specs.Fault.{IsFault, MeetsChecked}
use Rattle.report_check.proofs.Judged.{base-broken, tiny-handed-on}
use Rattle.check_parallel.proofs.versions.judge_tiny.Goals as goal

pub returns-in_err-base : goal.returns-in_err-base
returns-in_err-base g c = tiny-handed-on c.args.trace.now c.args.report.now c.from_residual.result c.in_err-base.field-0.0 c.from_residual.ensures.1 c.in_err-base.ensures.broken

pub returns-in_err-judge_rules : goal.returns-in_err-judge_rules
returns-in_err-judge_rules g c =
    tiny-handed-on c.args.trace.now c.args.report.now c.from_residual-in_err-judge_rules.result c.in_err-judge_rules.field-0.0 c.from_residual-in_err-judge_rules.ensures.1
    (base-broken c.args.trace.now c.args.report.now c.in_ok-base.base c.in_err-judge_rules.field-0.0 c.in_ok-base.ensures.base
    (subst (λ (report : Report). IsFault c.in_ok-base.base.trace report c.in_err-judge_rules.field-0.0) c.with_answers-answered.ensures c.in_err-judge_rules.ensures.broken))

pub returns : goal.returns
returns g c = c.judge_riders.ensures c.args.trace.now c.in_ok-base.ensures.base
    (subst (λ (report : Report). MeetsChecked c.in_ok-base.base.trace report) c.with_answers-answered.ensures c.in_ok-judge_rules.ensures.met)
