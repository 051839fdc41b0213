use Rattle.std.proofs.Common.{◌-◌}
use Rattle.heap_run.specs.Out.{AreSent}
use Rattle.heap_run.proofs.going_out.send_all.Given as goal

abbrev pub invariant-loop-sent : goal.invariant-loop-sent
invariant-loop-sent l = AreSent l.start l.queues.events l.background (l.count - l.sent) l.out.lanes.items l.out.resting.items l.procs.items l.given l.driver
