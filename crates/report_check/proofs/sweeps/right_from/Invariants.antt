use Rattle.report_check.specs.SaidSweeps.{AreSaidRight}
use Rattle.report_check.proofs.sweeps.right_from.Given as goal

-- the sweeps so far are of the cycle and right
abbrev pub invariant-loop-place : goal.invariant-loop-place
invariant-loop-place l = AreSaidRight l.ledger l.sweeps l.from l.place l.cycle
