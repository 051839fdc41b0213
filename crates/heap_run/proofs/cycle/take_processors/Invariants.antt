use Rattle.heap_run.specs.Out.{AreStillOut}
use Rattle.heap_run.proofs.cycle.take_processors.Given as goal

abbrev pub invariant-loop-number : goal.invariant-loop-number
invariant-loop-number l = AreStillOut l.queues.riding l.start l.shop.marks.now l.queues.events l.queues.buckets l.background l.number l.out.lanes.items l.out.resting.items l.procs.items l.given l.driver
