use Rattle.std.proofs.Common.{◌≡◌, drop, map}
use Rattle.sweep_laws.specs.NeedsOfMarkEnd.{first_unpopped}
use Rattle.sweep_lists.specs.Views.{set_view}
use Rattle.sweep_generation.proofs.tries_next.find_unpopped.Given as goal

abbrev pub invariant-loop-number : goal.invariant-loop-number
invariant-loop-number l = first_unpopped l.generation 0 (map set_view l.sets) ≡ first_unpopped l.generation l.number (map set_view (drop l.number l.sets))
