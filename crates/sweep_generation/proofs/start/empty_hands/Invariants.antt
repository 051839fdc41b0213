use Rattle.std.proofs.Common.{◌≡◌}
use Rattle.sweep_laws.specs.Start.{copies}
use Rattle.sweep_lists.specs.Bare.{bare_hand}
use Rattle.sweep_generation.proofs.start.empty_hands.Given as goal

abbrev pub invariant-loop : goal.invariant-loop
invariant-loop l = l.hands.items ≡ copies l.counter (bare_hand l.pages)
