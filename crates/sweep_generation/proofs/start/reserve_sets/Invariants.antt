use Rattle.std.proofs.Common.{◌≡◌, ◌<◌, ◌≤◌, ℕ, map, get_or}
use Rattle.std.specs.List.{All}
use Rattle.sweep_lists.specs.declared.set.CoreSet.{CoreSet}
use Rattle.sweep_lists.specs.Views.{set_view}
use Rattle.sweep_generation.proofs.start.reserve_sets.Given as goal

abbrev pub invariant-loop-k : goal.invariant-loop-k
invariant-loop-k l = record {
  same : map set_view l.sets ≡ map set_view l.initial.sets;
  done : (j : ℕ) (d : CoreSet) → j < l.k → l.room ≤ (get_or l.sets j d).cells.space;
  room : (n : ℕ) → All (λ (x : CoreSet). n ≤ x.cells.space) l.initial.sets → All (λ (x : CoreSet). n ≤ x.cells.space) l.sets;
}
