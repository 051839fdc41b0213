use Rattle.report_check.proofs.Summed.{IsAt}
use Rattle.report_check.proofs.totals.first_misfit.Given as goal

-- the totals so far are right, and their classes are at most the newest
abbrev pub invariant-loop-place : goal.invariant-loop-place
invariant-loop-place l = IsAt l.right l.printed l.place l.newest
