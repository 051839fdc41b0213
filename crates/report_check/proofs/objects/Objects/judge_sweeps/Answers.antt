use Rattle.std.specs.Prelude.{OnOk}
use Rattle.std.proofs.Common.{Result, Ok, Err}
use Rattle.report_check.specs.declared.fault.CheckFault.{CheckFault}
use Rattle.report_check.specs.Items.{objects_of}
use Rattle.cycle_history.specs.Requests.{last_cycle, marked_by}
use Rattle.report_check.specs.Closing.{BreaksSweeps}
use Rattle.report_check.specs.Fault.{IsFaultOf}
use Rattle.report_check.proofs.Faults.{err-from, err-map}
use Rattle.report_check.proofs.Righting.{swept-all}
use Rattle.report_check.proofs.objects.Objects.judge_sweeps.Goals as goal

ok-map : {T : Type 0} {P Q : Type 0} (r : Result T CheckFault) → (P → Q) → OnOk r P → OnOk r Q
ok-map (Ok x) to h = to h
ok-map (Err e) to h = tt

pub returns-clause-sweeps : goal.returns-clause-sweeps
returns-clause-sweeps c =
    ok-map c.judge_lives.result
    (λ all. swept-all c.args.self.now.trace.now c.args.self.now.report.now c.args.self.now.items.now c.args.self.now.lasts.now c.requires.known c.in_ok-judge_gives.ensures.gives c.in_ok-judge_notes.ensures.right all)
    c.judge_lives.ensures.swept

pub returns-clause-fault : goal.returns-clause-fault
returns-clause-fault c = err-map c.judge_lives.result _ _ (λ (fault : CheckFault) is. is (objects_of c.args.self.now.items.now) c.in_ok-judge_gives.ensures.gives c.in_ok-judge_notes.ensures.right) c.judge_lives.ensures.fault

pub returns-in_err-judge_gives-clause-fault : goal.returns-in_err-judge_gives-clause-fault
returns-in_err-judge_gives-clause-fault c =
    let t = c.args.self.now.trace.now in
    let objects = objects_of c.args.self.now.items.now in
    err-from c.from_residual.result c.in_err-judge_gives.field-0.0 (IsFaultOf 7 (BreaksSweeps (marked_by t) (last_cycle t) c.args.self.now.report.now objects)) c.from_residual.ensures.1 (c.in_err-judge_gives.ensures.fault objects)
