use Rattle.std.proofs.Common.{◌<◌, ◌≤◌}
use Rattle.report_check.specs.Lasts.{AreSet}
use Rattle.report_check.proofs.Lost.{Range}
use Rattle.report_check.proofs.lasts.set_range.Given as goal

-- the entries so far are set
abbrev pub invariant-loop-place : goal.invariant-loop-place
invariant-loop-place l = record { set : AreSet (Range l.low l.place) l.value l.fn.numbers l.numbers; empty : l.high < l.low → l.place ≤ l.low }
