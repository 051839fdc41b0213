use Rattle.std.proofs.Common.{[]}
use Rattle.span_set.specs.Tallies.{Frees}
use Rattle.sweeper.specs.ReclaimSteps.{CoversChunks}
use Rattle.sweeper.specs.Work.{HandSweeps}
use Rattle.sweeper.proofs.reclaimer.reclaim.Given as goal

abbrev pub invariant-loop : goal.invariant-loop
invariant-loop g l = record { did : HandSweeps [] (CoversChunks l.fn.hand.worker.view.marks l.region l.counter l.given) l.fn.hand l.hand; tally : Frees l.shop.marks.now l.fn.hand l.hand }
