use Rattle.std.proofs.Common.{◌-◌, ◌≤◌}
use Rattle.span_set.specs.Tallies.{Frees}
use Rattle.sweeper.specs.Tries.{FindsNone}
use Rattle.sweeper.proofs.sweep.sweep_one.Given as goal

abbrev pub invariant-loop-index : goal.invariant-loop-index
invariant-loop-index g l = record { did : FindsNone l.next l.fn.hand l.hand; few : l.next ≤ 272; tally : Frees l.shop.marks.now l.fn.hand l.hand }

abbrev pub decreases-loop-index : goal.decreases-loop-index
decreases-loop-index g l = 272 - l.next
