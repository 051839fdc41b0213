use Rattle.std.proofs.Common.{ℕ, Bool, length, refl, sym, subst}
use Rattle.cycle_history.specs.Requests.{last_cycle, marked_by}
use Rattle.report_check.specs.Lines.{IsLeast}
use Rattle.report_check.specs.Published.{BreaksProfile, IsRightProf}
use Rattle.report_check.specs.Items.{objects_of}
use Rattle.report_check.specs.Printed.{AllPrinted, AreRightProfs, IsFirstWrongProf, LacksLine}
use Rattle.report_check.specs.Sampling.{samples_by}
use Rattle.report_check.proofs.Righting.{on-false, on-true}
use Rattle.report_check.proofs.Showing.{lacks-fault, prof-fault, profile-has}
use Rattle.report_check.proofs.objects.Objects.judge_profile.Goals as goal

pub returns-in-Some-clause-fault : goal.returns-in-Some-clause-fault
returns-in-Some-clause-fault c =
    let t = c.args.self.now.trace.now in
    let report = c.args.self.now.report.now in
    let items = c.args.self.now.items.now in
    let is = subst (λ (each : Bool). IsFirstWrongProf (IsRightProf each (marked_by t) (samples_by t c.in_ok-sampled.sampled) (last_cycle t) (objects_of items)) report.profile c.in-Some.place) c.is_of_each-each.ensures c.in-Some.ensures in
    (refl, subst (λ (k : ℕ). IsLeast (BreaksProfile t report (objects_of items)) k) (sym c.profile_at-line.ensures) (prof-fault t report items c.in_ok-sampled.sampled c.in-Some.place c.in_ok-sampled.ensures is))

pub returns-then-not-branch-clause-fault : goal.returns-then-not-branch-clause-fault
returns-then-not-branch-clause-fault c =
    let t = c.args.self.now.trace.now in
    let report = c.args.self.now.report.now in
    let items = c.args.self.now.items.now in
    let s = samples_by t c.in_ok-sampled.sampled in
    let right = subst (λ (each : Bool). AreRightProfs (IsRightProf each (marked_by t) s (last_cycle t) (objects_of items)) report.profile (length report.profile)) c.is_of_each-each.ensures c.in_default.ensures in
    let lacks = subst (λ (each : Bool). LacksLine each (marked_by t) s (last_cycle t) (objects_of items) report.profile) c.is_of_each-each.ensures (on-false _ _ _ c.if-not-branch.true c.in_ok-all_printed.ensures) in
    (refl, subst (λ (k : ℕ). IsLeast (BreaksProfile t report (objects_of items)) k) (sym c.end_of-line.ensures) (lacks-fault t report items c.in_ok-sampled.sampled c.in_ok-sampled.ensures right lacks))

pub returns-clause-profile : goal.returns-clause-profile
returns-clause-profile c =
    let t = c.args.self.now.trace.now in
    let report = c.args.self.now.report.now in
    let items = c.args.self.now.items.now in
    let s = samples_by t c.in_ok-sampled.sampled in
    let right = subst (λ (each : Bool). AreRightProfs (IsRightProf each (marked_by t) s (last_cycle t) (objects_of items)) report.profile (length report.profile)) c.is_of_each-each.ensures c.in_default.ensures in
    let all = subst (λ (each : Bool). AllPrinted each (marked_by t) s (last_cycle t) (objects_of items) report.profile) c.is_of_each-each.ensures (on-true _ _ _ c.if-not-branch.false c.in_ok-all_printed.ensures) in
    profile-has t report items c.in_ok-sampled.sampled c.in_ok-sampled.ensures right all
