use Rattle.std.proofs.Common.{◌≡◌}
use Rattle.sweep_lists.specs.Loops.{changed_to, marked_place}
use Rattle.sweep_lists.proofs.places.set_marked.Given as goal

abbrev pub invariant-loop-k : goal.invariant-loop-k
invariant-loop-k l = l.places ≡ changed_to (marked_place l.marks.pairs) 0 l.k l.initial.places
