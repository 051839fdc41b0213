use Rattle.std.proofs.Common.{◌+◌, arith}
use Rattle.tiny_alloc.specs.Parts.{part_by}
use Rattle.tiny_alloc.proofs.Listed.{events-next, events-number}
use Rattle.tiny_alloc.proofs.base.based_events.Goals as goal

pub overflow_add-number : goal.overflow_add-number
overflow_add-number c =
    let lt = c.loop-event-test.true in
    let n = events-number (part_by c.args.parts.now) c.args.first c.loop-event.event-index c.args.events.now c.loop-event.based c.loop-event.invariant (omega arith) in
    let number = c.len.ensures in
    let inside = c.requires.inside in
    let few = c.requires.few in
    omega arith

pub bounds-parts-number : goal.bounds-parts-number
bounds-parts-number c =
    let lt = c.loop-event-test.true in
    let n = events-number (part_by c.args.parts.now) c.args.first c.loop-event.event-index c.args.events.now c.loop-event.based c.loop-event.invariant (omega arith) in
    let number = c.len.ensures in
    let inside = c.requires.inside in
    let few = c.requires.few in
    omega arith

pub offset_bounds-parts-number : goal.offset_bounds-parts-number
offset_bounds-parts-number c =
    let lt = c.loop-event-test.true in
    let n = events-number (part_by c.args.parts.now) c.args.first c.loop-event.event-index c.args.events.now c.loop-event.based c.loop-event.invariant (omega arith) in
    let number = c.len.ensures in
    let inside = c.requires.inside in
    let few = c.requires.few in
    omega arith

pub loop-event-preserved : goal.loop-event-preserved
loop-event-preserved c =
    let lt = c.loop-event-test.true in
    let n = events-number (part_by c.args.parts.now) c.args.first c.loop-event.event-index c.args.events.now c.loop-event.based c.loop-event.invariant (omega arith) in
    let number = c.len.ensures in
    let inside = c.requires.inside in
    events-next c.args.parts.now c.args.first c.loop-event.event-index (c.args.first + c.len.result) c.args.events.now c.loop-event.based c.push.new.self _ _ _ lt (omega arith) c.loop-event.invariant (omega arith)
    c.based_event.ensures c.in_ok-push.ensures.ok
