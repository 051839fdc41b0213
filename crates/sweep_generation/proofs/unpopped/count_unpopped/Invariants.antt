use Rattle.std.proofs.Common.{◌≡◌, ◌+◌, ◌≤◌, drop, map}
use Rattle.sweep_lists.specs.Views.{set_view}
use Rattle.sweep_generation.specs.Unpopped.{count_unpopped}
use Rattle.sweep_generation.proofs.unpopped.count_unpopped.Given as goal

abbrev pub invariant-loop-number : goal.invariant-loop-number
invariant-loop-number l = record {
  few : l.count ≤ l.number;
  rest : count_unpopped l.generation 0 (map set_view l.sets) ≡ l.count + count_unpopped l.generation l.number (map set_view (drop l.number l.sets));
}
