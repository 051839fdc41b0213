use Rattle.std.proofs.Common.{arith, inl, inr}
use Rattle.cycle_history.specs.declared.Prof.{Prof}
use Rattle.cycle_history.specs.Requests.{last_cycle, marked_by}
use Rattle.report_check.specs.Published.{IsRightProf}
use Rattle.report_check.specs.Items.{objects_of}
use Rattle.report_check.specs.Sampling.{samples_by}
use Rattle.report_check.proofs.Printing.{profs-next}
use Rattle.report_check.proofs.objects.Objects.first_wrong_prof.Goals.{else-place-gt0-via-then-place-gt0+else-not-comes_before, else-place-gt0-via-else-place-gt0}
use Rattle.report_check.proofs.objects.Objects.first_wrong_prof.Goals as goal

pub loop-place-preserved : goal.loop-place-preserved
loop-place-preserved c =
    profs-next (IsRightProf c.args.each (marked_by c.args.self.now.trace.now) (samples_by c.args.self.now.trace.now c.args.sampled.now) (last_cycle c.args.self.now.trace.now) (objects_of c.args.self.now.items.now))
    c.args.self.now.report.now.profile c.profile-lines.result.now c.loop-place.place none c.profile-lines.ensures c.loop-place-test.true c.if-not-is_right_prof.ensures
    (elim c.else-place-gt0.branch [
      | else-place-gt0-via-then-place-gt0+else-not-comes_before w ↦ inr w.if-not-comes_before.ensures
      | else-place-gt0-via-else-place-gt0 w ↦ inl (let e = w.if-place-gt0.false in omega arith)
    ]) c.loop-place.invariant
  where
    none : Prof
    none = record { mark = 0; stack = 0; size = 0; allocs = 0; frees = 0 }
