use Rattle.span_set.specs.Sets.{unswept_of}
use Rattle.span_set.specs.Tallies.{Frees}
use Rattle.sweeper.specs.PaySteps.{SweepsSome}
use Rattle.sweeper.proofs.payments.sweep_entries.Given as goal

abbrev pub invariant-loop : goal.invariant-loop
invariant-loop g l = record { did : SweepsSome (unswept_of l.fn.hand.worker.view.generation l.set) l.counter l.fn.hand l.hand; tally : Frees l.shop.marks.now l.fn.hand l.hand }
