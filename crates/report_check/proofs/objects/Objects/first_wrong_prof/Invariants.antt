use Rattle.cycle_history.specs.Requests.{last_cycle, marked_by}
use Rattle.report_check.specs.Published.{IsRightProf}
use Rattle.report_check.specs.Items.{objects_of}
use Rattle.report_check.specs.Printed.{AreRightProfs}
use Rattle.report_check.specs.Sampling.{samples_by}
use Rattle.report_check.proofs.objects.Objects.first_wrong_prof.Given as goal

-- the lines so far are right, and stand in order
abbrev pub invariant-loop-place : goal.invariant-loop-place
invariant-loop-place l = AreRightProfs (IsRightProf l.each (marked_by l.self.trace.now) (samples_by l.self.trace.now l.sampled) (last_cycle l.self.trace.now) (objects_of l.self.items.now)) l.self.report.now.profile l.place
