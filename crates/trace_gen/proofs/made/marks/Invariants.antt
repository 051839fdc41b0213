use Rattle.std.proofs.Common.{◌≡◌, ◌∷◌}
use Rattle.trace_gen.specs.Made.{groups_from}
use Rattle.trace_gen.proofs.made.marks.Given as goal

abbrev pub invariant-loop-i : goal.invariant-loop-i
invariant-loop-i l = l.marks ≡ record { lo = 0; hi = 999 } ∷ groups_from l.first l.i
