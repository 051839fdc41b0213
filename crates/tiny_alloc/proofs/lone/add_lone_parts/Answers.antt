use Rattle.std.proofs.Common.{sym}
use Rattle.std.proofs.lemmas.List.{append-nil}
use Rattle.tiny_alloc.specs.Growing.{lone_part}
use Rattle.tiny_alloc.proofs.Alone.{mapped-all, mapped-next}
use Rattle.tiny_alloc.proofs.lone.add_lone_parts.Goals as goal

pub loop-event-init : goal.loop-event-init
loop-event-init c = sym (append-nil c.args.parts.now.items)

pub loop-event-preserved : goal.loop-event-preserved
loop-event-preserved c =
    mapped-next lone_part c.args.events.now c.args.parts.now.items c.loop-event.parts.items c.push.new.self.items c.loop-event.event-index _ c.lone_part.result c.loop-event-test.true
    c.loop-event.invariant c.lone_part.ensures c.in_ok-push.ensures.items

pub returns : goal.returns
returns c = mapped-all lone_part c.args.events.now c.args.parts.now.items c.loop-event.parts.items c.loop-event.event-index c.loop-event.invariant c.loop-event-test.false
