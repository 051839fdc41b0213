use Rattle.std.proofs.Common.{◌≡◌, ℕ, ◌+◌, false, List, length, get_or, Some, sym, ◌∙◌, ap, subst, arith}
use Rattle.std.specs.List.{slice_get}
use Rattle.trace_reader.specs.declared.trace.Cycle.{Cycle}
use Rattle.trace_reader.specs.declared.trace.Event.{Event}
use Rattle.trace_reader.specs.Limits.{events_of}
use Rattle.cycle_history.specs.Before.{objects_before}
use Rattle.cycle_history.proofs.Firsts.{event-at}
use Rattle.bench.specs.Filled.{AreFilled}
use Rattle.bench.proofs.history.answers.grow.Goals as goal

none : Event
none = record { proc = 0; size = 0; scan = false; stack = 0 }

pub push-requires-clause-event : goal.push-requires-clause-event
unfolding none
push-requires-clause-event c =
    let t = c.args.trace.now in
    let d = c.index-as_slice-cycle.result in
    let items : c.as_slice-event-items.result.now ≡ (get_or t.cycles c.args.cycle d).events = c.as_slice-event-items.ensures ∙ ap (λ (cs : List Cycle). (get_or cs c.args.cycle d).events) c.as_slice.ensures in
    let size = ap (λ (es : List Event). length es) items in
    let lt = c.loop-event-test.true in
    ap (λ (n : ℕ). slice_get (events_of t) n) c.loop-event.invariant.all
    ∙ event-at t c.args.cycle c.loop-event.event-index d none c.requires.cycle (omega arith)
    ∙ ap (λ (es : List Event). Some (get_or es c.loop-event.event-index none)) (sym items)

pub loop-event-preserved : goal.loop-event-preserved
loop-event-preserved c =
    let all = c.loop-event.invariant.all in
    let next : length c.loop-event.answers + 1 ≡ objects_before c.args.trace.now c.args.cycle + (c.loop-event.event-index + 1) = omega arith in
    subst (λ (n : ℕ). AreFilled c.args.trace.now n c.push.new.answers) next c.in_ok-push.ensures
