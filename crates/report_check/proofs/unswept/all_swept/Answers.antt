use Rattle.std.proofs.Common.{◌+◌, ◌-◌, false, List, Option, sym, subst, arith}
use Rattle.page_alloc.specs.Journal.{at_end}
use Rattle.cycle_history.specs.Requests.{region_of}
use Rattle.cycle_history.specs.Sound.{past_in}
use Rattle.span_state.specs.declared.sweep.SweepNote.{SweepNote}
use Rattle.report_check.specs.declared.lives.OpenLife.{OpenLife}
use Rattle.report_check.specs.Keys.{AreKeys}
use Rattle.report_check.specs.Lives.{AreLives}
use Rattle.report_check.proofs.Ledgers.{open-later}
use Rattle.report_check.proofs.Righting.{lacks-sweep, on-false, on-true, swept-more}
use Rattle.report_check.proofs.unswept.all_swept.Goals as goal

pub loop-cycle-init : goal.loop-cycle-init
loop-cycle-init c = record { some = omega arith; opened = c.in_ok-opened.ensures c.args.report.now 0; all = λ m life lt. absurd (omega arith) }

pub returns-then-not-all_noted : goal.returns-then-not-all_noted
returns-then-not-all_noted c =
    let keys = subst (λ (ss : List SweepNote). AreKeys false ss c.in_ok-keys.keys) c.sweeps.ensures c.in_ok-keys.ensures in
    let lacks = on-false _ _ _ c.if-not-all_noted.true (c.all_noted.ensures c.args.report.now.sweeps keys) in
    let are = subst (λ (ls : List (Option OpenLife)). AreLives (region_of c.args.trace.now) (at_end (c.loop-cycle.cycle - 1) (past_in c.args.report.now)) ls) (sym c.deref.ensures.value) c.take_up.ensures.lives in
    let some = c.loop-cycle.invariant.some in
    let lt = c.loop-cycle-test.true in
    let size = c.len-cycle-end.ensures in
    lacks-sweep c.args.trace.now c.args.report.now c.deref.result.now c.loop-cycle.cycle lacks.0 lacks.1 are some (omega arith) lacks.2 lacks.3

pub loop-cycle-preserved : goal.loop-cycle-preserved
loop-cycle-preserved c =
    let keys = subst (λ (ss : List SweepNote). AreKeys false ss c.in_ok-keys.keys) c.sweeps.ensures c.in_ok-keys.ensures in
    let noted = on-true _ _ _ c.if-not-all_noted.false (c.all_noted.ensures c.args.report.now.sweeps keys) in
    let are = subst (λ (ls : List (Option OpenLife)). AreLives (region_of c.args.trace.now) (at_end (c.loop-cycle.cycle - 1) (past_in c.args.report.now)) ls) (sym c.deref.ensures.value) c.take_up.ensures.lives in
    let some = c.loop-cycle.invariant.some in
    record {
      some = omega arith;
      opened = open-later c.args.trace.now c.args.report.now (c.loop-cycle.cycle - 1) (c.loop-cycle.cycle + 1 - 1) c.take_up.new.self (omega arith) c.take_up.ensures.open;
      all = swept-more c.args.trace.now c.args.report.now c.deref.result.now c.loop-cycle.cycle are some noted c.loop-cycle.invariant.all;
    }
