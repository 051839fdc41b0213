use Rattle.std.proofs.Common.{[], length, ◌<◌, ◌≤◌, ◌*◌, ◌-◌}
use Rattle.span_set.specs.Tallies.{Frees}
use Rattle.sweeper.specs.ReclaimSteps.{CoversPages}
use Rattle.sweeper.specs.Work.{HandSweeps}
use Rattle.sweeper.proofs.reclaimer.reclaim_chunk.Given as goal

abbrev pub invariant-loop-behind : goal.invariant-loop-behind
invariant-loop-behind g l = record {
  did : HandSweeps [] (CoversPages l.fn.hand.worker.view.marks (512 * l.chunk) l.next l.given) l.fn.hand l.hand;
  before : l.next ≤ l.end;
  room : length l.hand.notes.items < l.hand.notes.space;
  tally : Frees l.shop.marks.now l.fn.hand l.hand;
}

abbrev pub decreases-loop-behind : goal.decreases-loop-behind
decreases-loop-behind g l = l.end - l.next
