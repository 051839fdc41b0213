use Rattle.std.proofs.Common.{inl, inr}
use Rattle.report_check.specs.declared.fault.CheckFault.{CheckFault}
use Rattle.check_parallel.specs.Parts.{FaultOfInside, FaultOfMisses, MeetsInside, MeetsMisses, FailsInTurn}
use Rattle.check_parallel.proofs.Answering.{err-both, err-map, if-err, ok-map, when-ok}
use Rattle.check_parallel.proofs.judge.judge_early.Goals as goal

pub returns-in_err-misses : goal.returns-in_err-misses
returns-in_err-misses g c =
    let report = c.args.report.now in
    let items = c.args.items.now in
    err-both c.from_residual.result c.in_err-misses.field-0.0 (MeetsMisses report items × MeetsInside c.args.trace.now items) (FailsInTurn (FaultOfMisses report items) (MeetsMisses report items) (FaultOfInside c.args.trace.now items))
    c.from_residual.ensures.1 (inl (if-err c.join-misses.result.0 c.in_err-misses.field-0.0 _ c.in_err-misses.was c.join-misses.ensures.first.1))

pub returns : goal.returns
returns g c =
    let met = when-ok c.join-misses.result.0 _ _ c.in_ok-misses.was c.join-misses.ensures.first.0 in (
      ok-map c.join-misses.result.1 _ _ (λ inside. (met, inside)) c.join-misses.ensures.second.0,
      err-map c.join-misses.result.1 _ _ (λ (fault : CheckFault) f. inr (met, f)) c.join-misses.ensures.second.1,
    )
