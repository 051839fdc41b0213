use Rattle.std.proofs.Common.{◌≤◌}
use Rattle.report_check.specs.Fitting.{AreHeld}
use Rattle.report_check.proofs.filling.are_held.Given as goal

-- the indices so far are held
abbrev pub invariant-loop-index : goal.invariant-loop-index
invariant-loop-index l = record { low : l.low ≤ l.index; held : AreHeld l.tops l.life l.low l.index l.cycle }
