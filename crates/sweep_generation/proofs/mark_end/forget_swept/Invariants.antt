use Rattle.std.proofs.Common.{◌≡◌}
use Rattle.sweep_lists.specs.Loops.{changed_to, without_swept}
use Rattle.sweep_generation.proofs.mark_end.forget_swept.Given as goal

abbrev pub invariant-loop-k : goal.invariant-loop-k
invariant-loop-k l = l.hands ≡ changed_to without_swept 0 l.k l.initial.hands
