use Rattle.std.proofs.Common.{[]}
use Rattle.tiny_alloc.specs.Growing.{lone_event}
use Rattle.tiny_alloc.proofs.Alone.{mapped-all, mapped-next}
use Rattle.tiny_alloc.proofs.lone.lone_events.Goals as goal

pub loop-event-init : goal.loop-event-init
loop-event-init c = c.new-lone.ensures

pub loop-event-preserved : goal.loop-event-preserved
loop-event-preserved c =
    mapped-next lone_event c.args.events.now [] c.loop-event.lone c.push.new.self c.loop-event.event-index _ c.lone_event.result c.loop-event-test.true
    c.loop-event.invariant c.lone_event.ensures c.in_ok-push.ensures.ok

pub returns : goal.returns
returns c = mapped-all lone_event c.args.events.now [] c.loop-event.lone c.loop-event.event-index c.loop-event.invariant c.loop-event-test.false
