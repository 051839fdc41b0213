use Rattle.report_check.specs.declared.fault.CheckFault.{CheckFault}
use Rattle.report_check.specs.Fault.{IsFault}
use Rattle.report_check.specs.Items.{objects_of}
use Rattle.report_check.proofs.Faults.{err-from, fault-1, fault-2}
use Rattle.check_parallel.proofs.Answering.{err-map, if-ok}
use Rattle.check_parallel.proofs.settled.lived_of.Goals as goal

pub returns-in-Ok-clause-lived : goal.returns-in-Ok-clause-lived
returns-in-Ok-clause-lived c = if-ok c.args.lived c.in-Ok.lived _ c.in-Ok.is c.requires.judged.0

pub returns-in_err-items_of-clause-broken : goal.returns-in_err-items_of-clause-broken
returns-in_err-items_of-clause-broken c =
    err-from c.from_residual.result c.in_err-items_of.field-0.0 (IsFault c.args.trace.now c.args.report.now) c.from_residual.ensures.1 (fault-1 c.args.trace.now c.args.report.now c.in_err-items_of.field-0.0 c.in_err-items_of.ensures.fault)

pub returns-clause-broken : goal.returns-clause-broken
returns-clause-broken c =
    err-map c.args.lived _ _
    (λ (fault : CheckFault) is. fault-2 c.args.trace.now c.args.report.now (objects_of c.in_ok-items_of.field-0) fault c.in_ok-items_of.ensures.answers is) c.requires.judged.1
