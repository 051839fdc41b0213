use Rattle.std.proofs.Common.{◌≡◌, ℕ, ◌+◌, List, length}
use Rattle.heap_run.specs.Out.{AreOf, HasOut, HasTaken, IsBack, RisesFrom}
use Rattle.heap_run.proofs.cycle.take_helpers.Given as goal

abbrev pub invariant-loop-back : goal.invariant-loop-back
invariant-loop-back l = record {
  many : length l.lanes.items + l._back ≡ length l.initial.lanes.items;
  taken : HasTaken l.queues.riding l.start l.shop.marks.now l.queues.events l.queues.buckets (length l.start.procs.value.items) l.procs.items l.given l.driver;
  is : List ℕ;
  outs : HasOut l.start.driver.value is l.driver;
  still : AreOf (IsBack l.queues.riding l.start l.shop.marks.now l.queues.events l.queues.buckets) is l.lanes.items;
  high : RisesFrom 64 is;
}
