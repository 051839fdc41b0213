use Rattle.report_check.specs.declared.fault.CheckFault.{CheckFault}
use Rattle.report_check.specs.Items.{objects_of}
use Rattle.report_check.proofs.Righting.{swept-all}
use Rattle.check_parallel.proofs.Answering.{err-both, err-map, if-err, ok-map, when-ok}
use Rattle.check_parallel.specs.Parts.{FaultOfSweeps, MeetsSweeps}
use Rattle.check_parallel.proofs.closing.sweeps_of.Goals as goal

pub returns-in_err-gives : goal.returns-in_err-gives
returns-in_err-gives c t report items lasts known lived noted =
    err-both c.from_residual.result c.in_err-gives.field-0.0 (MeetsSweeps t report items) (FaultOfSweeps t report items) c.from_residual.ensures.1
    (if-err c.args.lived.gives c.in_err-gives.field-0.0 _ c.in_err-gives.was lived.gives.1 (objects_of items))

pub returns-in_err-notes : goal.returns-in_err-notes
returns-in_err-notes c t report items lasts known lived noted =
    let gives = when-ok c.args.lived.gives _ _ c.in_ok-gives.was lived.gives.0 in
    err-both c.from_residual-in_err-notes.result c.in_err-notes.field-0.0 (MeetsSweeps t report items) (FaultOfSweeps t report items) c.from_residual-in_err-notes.ensures.1
    (if-err c.args.notes c.in_err-notes.field-0.0 _ c.in_err-notes.was noted.1 gives)

pub returns : goal.returns
returns c t report items lasts known lived noted =
    let gives = when-ok c.args.lived.gives _ _ c.in_ok-gives.was lived.gives.0 in
    let notes = when-ok c.args.notes _ _ c.in_ok-notes.was noted.0 in (
      ok-map c.args.lived.lives _ _ (λ all. swept-all t report items lasts known gives notes all) lived.lives.0,
      err-map c.args.lived.lives _ _ (λ (fault : CheckFault) is. is (objects_of items) gives notes) lived.lives.1,
    )
