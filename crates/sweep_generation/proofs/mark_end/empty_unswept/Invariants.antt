use Rattle.std.proofs.Common.{◌≡◌}
use Rattle.sweep_lists.specs.Loops.{changed_to, emptied_at}
use Rattle.sweep_generation.proofs.mark_end.empty_unswept.Given as goal

abbrev pub invariant-loop-k : goal.invariant-loop-k
invariant-loop-k l = l.sets ≡ changed_to (emptied_at l.generation) 0 l.k l.initial.sets
