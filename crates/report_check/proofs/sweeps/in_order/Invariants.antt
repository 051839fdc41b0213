use Rattle.std.proofs.Common.{◌≤◌}
use Rattle.report_check.proofs.Righting.{InOrderTo}
use Rattle.report_check.proofs.sweeps.in_order.Given as goal

-- the sweeps so far stand in order
abbrev pub invariant-loop-place : goal.invariant-loop-place
invariant-loop-place l = record { some : 1 ≤ l.place; order : InOrderTo l.sweeps l.place }
