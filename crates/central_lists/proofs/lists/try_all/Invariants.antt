use Rattle.std.proofs.Common.{◌-◌}
use Rattle.span_set.specs.Tallies.{Frees}
use Rattle.central_lists.specs.Tries.{TriedSome}
use Rattle.central_lists.proofs.lists.try_all.Given as goal

abbrev pub invariant-loop-tried : goal.invariant-loop-tried
invariant-loop-tried l = record { tried : TriedSome l.fn.hand.worker.view.generation l.class l.before l.tried l.fn.hand l.hand; tally : Frees l.shop.marks.now l.fn.hand l.hand }

abbrev pub decreases-loop-tried : goal.decreases-loop-tried
decreases-loop-tried l = 100 - l.tried
