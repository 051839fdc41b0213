use Rattle.std.proofs.Common.{◌-◌, ◌≤◌}
use Rattle.std.specs.Prelude.{Ok, None}
use Rattle.span_set.specs.Tallies.{Frees}
use Rattle.sweeper.specs.PaySteps.{SweepsUntil}
use Rattle.sweeper.proofs.payments.sweep_until.Given as goal

abbrev pub invariant-loop-index : goal.invariant-loop-index
invariant-loop-index g l = record { did : SweepsUntil l.next l.target l.fn.hand l.hand (Ok None); few : l.next ≤ 272; tally : Frees l.shop.marks.now l.fn.hand l.hand }

abbrev pub decreases-loop-index : goal.decreases-loop-index
decreases-loop-index g l = 272 - l.next
