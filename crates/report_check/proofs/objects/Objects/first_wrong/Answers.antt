use Rattle.std.proofs.Common.{◌≡◌, ℕ, ◌+◌, ◌-◌, ◌<◌, List, length, Some, ap, subst, arith}
use Rattle.std.specs.List.{slice_get}
use Rattle.span_state.specs.declared.sweep.SweepNote.{SweepNote}
use Rattle.cycle_history.specs.Before.{objects_before}
use Rattle.report_check.specs.Ledgers.{IsLedger}
use Rattle.report_check.specs.Sweeping.{IsDisorder}
use Rattle.report_check.specs.SaidSweeps.{AreSaidRight, IsNoteOf, SaysRight}
use Rattle.report_check.proofs.Righting.{ahead-first, ahead-more, right-more, right-says, wrong-at, wrong-last}
use Rattle.report_check.proofs.objects.Objects.first_wrong.Goals as goal

-- nothing of the cycle stands there
none-of : (sweeps : List SweepNote) (place end cycle : ℕ) → ¬ IsNoteOf sweeps place end cycle → (note : SweepNote) → place < end → slice_get sweeps place ≡ Some note → note.cycle ≡ cycle → ⊥
none-of sweeps place end cycle off note lt at is = off (lt, (note, at, is))

pub loop-cycle-init : goal.loop-cycle-init
loop-cycle-init c =
    let sweeps = c.args.self.now.report.now.sweeps in
    let d = subst (λ (ss : List SweepNote). IsDisorder ss c.in_order-end.result) c.sweeps-sweeps.ensures c.in_order-end.ensures in
    let off = subst (λ (ss : List SweepNote). ¬ IsNoteOf ss 0 c.in_order-end.result 0) c.sweeps-sweeps.ensures c.if-is_of.ensures in
    record {
      some = omega arith;
      ledger = c.in_ok-ledger.ensures;
      inside = omega arith;
      right = λ k note lt. absurd (omega arith);
      ahead = ahead-first sweeps c.in_order-end.result d.order d.few (none-of sweeps 0 c.in_order-end.result 0 off);
    }

pub returns-then-is_of-2-clause-wrong : goal.returns-then-is_of-2-clause-wrong
returns-then-is_of-2-clause-wrong c =
    let t = c.args.self.now.trace.now in
    let report = c.args.self.now.report.now in
    let items = c.args.self.now.items.now in
    let lasts = c.args.self.now.lasts.now in
    let cycle = c.loop-cycle.cycle in
    let place = c.right_from-place.result in
    let end = c.in_order-end.result in
    let d = subst (λ (ss : List SweepNote). IsDisorder ss end) c.sweeps-sweeps.ensures c.in_order-end.ensures in
    let of = subst (λ (ss : List SweepNote). IsNoteOf ss place end cycle) c.sweeps-sweeps.ensures c.if-is_of-2.ensures in
    let said = subst (λ (ss : List SweepNote). AreSaidRight c.go_on.new.self ss c.loop-cycle.place place cycle) c.sweeps-sweeps.ensures c.right_from-place.ensures.right in
    let wrong = subst (λ (ss : List SweepNote). (note : SweepNote) → place < end → slice_get ss place ≡ Some note → note.cycle ≡ cycle → ¬ SaysRight c.go_on.new.self note) c.sweeps-sweeps.ensures c.right_from-place.ensures.wrong in
    let some = c.loop-cycle.invariant.some in
    let lt = c.loop-cycle-test.true in
    let size = c.len-cycle-end.ensures in
    let tells = c.in_ok-go_on.ensures.tells in
    let note = of.1.0 in
    wrong-at t report _ place end note of.1.1
    (λ right. wrong note of.0 of.1.1 of.1.2 (right-says t report items lasts cycle c.go_on.new.self note c.requires.known tells some of.1.2 right)) d.order c.right_from-place.ensures.end
    (right-more t report items lasts cycle c.loop-cycle.place place c.go_on.new.self c.requires.known tells some (omega arith) said c.loop-cycle.invariant.right)

pub loop-cycle-preserved : goal.loop-cycle-preserved
loop-cycle-preserved c =
    let t = c.args.self.now.trace.now in
    let report = c.args.self.now.report.now in
    let items = c.args.self.now.items.now in
    let lasts = c.args.self.now.lasts.now in
    let cycle = c.loop-cycle.cycle in
    let place = c.right_from-place.result in
    let end = c.in_order-end.result in
    let d = subst (λ (ss : List SweepNote). IsDisorder ss end) c.sweeps-sweeps.ensures c.in_order-end.ensures in
    let off = subst (λ (ss : List SweepNote). ¬ IsNoteOf ss place end cycle) c.sweeps-sweeps.ensures c.if-is_of-2.ensures in
    let said = subst (λ (ss : List SweepNote). AreSaidRight c.go_on.new.self ss c.loop-cycle.place place cycle) c.sweeps-sweeps.ensures c.right_from-place.ensures.right in
    let some = c.loop-cycle.invariant.some in
    let lt = c.loop-cycle-test.true in
    let size = c.len-cycle-end.ensures in
    let tells = c.in_ok-go_on.ensures.tells in
    let e : cycle ≡ cycle + 1 - 1 = omega arith in
    record {
      some = omega arith;
      ledger = subst (λ (k : ℕ). IsLedger t report items lasts k (objects_before t (cycle + 1)) c.go_on.new.self) e c.in_ok-go_on.ensures.ledger;
      inside = c.right_from-place.ensures.end;
      right = right-more t report items lasts cycle c.loop-cycle.place place c.go_on.new.self c.requires.known tells some (omega arith) said c.loop-cycle.invariant.right;
      ahead = ahead-more report.sweeps cycle c.loop-cycle.place place end d.order d.few c.right_from-place.ensures.from (none-of report.sweeps place end cycle off) c.loop-cycle.invariant.ahead;
    }

pub returns-then-place-sweeps-clause-wrong : goal.returns-then-place-sweeps-clause-wrong
returns-then-place-sweeps-clause-wrong c =
    let t = c.args.self.now.trace.now in
    let report = c.args.self.now.report.now in
    let end = c.in_order-end.result in
    let d = subst (λ (ss : List SweepNote). IsDisorder ss end) c.sweeps-sweeps.ensures c.in_order-end.ensures in
    let long = ap (λ (ss : List SweepNote). length ss) c.sweeps-sweeps.ensures in
    let lt = c.if-place-sweeps.true in
    let some = c.loop-cycle.invariant.some in
    let out = c.loop-cycle-test.false in
    let size = c.len-cycle-end.ensures in
    wrong-last t report _ c.loop-cycle.place end c.loop-cycle.cycle d c.loop-cycle.invariant.inside (omega arith) (omega arith) c.loop-cycle.invariant.ahead c.loop-cycle.invariant.right
