use Rattle.std.proofs.Common.{◌≡◌, ◌++◌, map, take}
use Rattle.sample_laws.specs.Numbers.{number_of}
use Rattle.heap_run.proofs.queues.number_all.Given as goal

abbrev pub invariant-loop-event : goal.invariant-loop-event
invariant-loop-event l = (l.numbers ≡ l.initial.numbers ++ map (number_of l.known) (take l.event-index l.events))
