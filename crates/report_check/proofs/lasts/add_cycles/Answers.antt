use Rattle.report_check.proofs.Lasting.{cycle-more}
use Rattle.report_check.proofs.lasts.add_cycles.Goals as goal

pub loop-event-preserved : goal.loop-event-preserved
loop-event-preserved c =
    cycle-more c.loop-event.cycles.items c.push.new.self.items c.args.cycles.now.items c.args.cycle c.loop-event._event-index c.args.events.now c.loop-event.invariant c.in_ok-push.ensures.items c.loop-event-test.true
