use Rattle.std.proofs.Common.{ℕ, refl, sym, subst}
use Rattle.cycle_history.specs.Requests.{last_cycle, marked_by}
use Rattle.report_check.specs.Lines.{IsLeast}
use Rattle.report_check.specs.Closing.{BreaksSweeps}
use Rattle.report_check.proofs.Righting.{end-fault, on-false, on-true}
use Rattle.report_check.proofs.unswept.judge_lives.Goals as goal

pub returns-then-not-branch-clause-fault : goal.returns-then-not-branch-clause-fault
returns-then-not-branch-clause-fault c objects gives right =
    let lacks = on-false _ _ _ c.if-not-branch.true c.in_ok-all_swept.ensures in (
      refl,
      subst (λ (k : ℕ). IsLeast (BreaksSweeps (marked_by c.args.trace.now) (last_cycle c.args.trace.now) c.args.report.now objects) k) (sym c.end_of-line.ensures)
          (end-fault c.args.trace.now c.args.report.now objects gives right lacks),
    )

pub returns-clause-swept : goal.returns-clause-swept
returns-clause-swept c = on-true _ _ _ c.if-not-branch.false c.in_ok-all_swept.ensures
