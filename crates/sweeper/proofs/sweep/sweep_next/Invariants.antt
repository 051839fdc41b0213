use Rattle.span_set.specs.Sets.{unswept_of}
use Rattle.span_set.specs.Tallies.{Frees}
use Rattle.sweeper.specs.Tries.{DropsSome}
use Rattle.sweeper.proofs.sweep.sweep_next.Given as goal

abbrev pub invariant-loop : goal.invariant-loop
invariant-loop g l = record { did : DropsSome (unswept_of l.fn.hand.worker.view.generation l.set) l.counter l.fn.hand l.hand; tally : Frees l.shop.marks.now l.fn.hand l.hand }
