use Rattle.std.proofs.Common.{◌≡◌, length}
use Rattle.sweep_laws.specs.NeedsOfMarkEnd.{wrong_mark}
use Rattle.sweep_generation.proofs.state.Core.wrong_mark.Given as goal

abbrev pub invariant-loop-mark : goal.invariant-loop-mark
invariant-loop-mark l = wrong_mark l.self l.marks ≡ wrong_mark l.self l.rest

abbrev pub decreases-loop-mark : goal.decreases-loop-mark
decreases-loop-mark l = length l.rest
