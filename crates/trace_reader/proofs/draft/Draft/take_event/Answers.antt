use Rattle.std.proofs.Common.{arith}
use Rattle.trace_reader.proofs.Keeping.{took_event}
use Rattle.trace_reader.proofs.draft.Draft.take_event.Goals as goal

pub returns-clause-took : goal.returns-clause-took
returns-clause-took c = rw c.in_ok-push.ensures.ok
    (took_event c.args.self.now c.end_cycle.new.self c.in_ok-event.event c.args.form c.in_ok-end_cycle.ensures c.in_ok-event.ensures.event c.in_ok-event.ensures.fits (omega arith))
