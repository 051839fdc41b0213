use Rattle.report_check.proofs.Summed.{IsAbsent}
use Rattle.report_check.proofs.totals.has.Given as goal

-- the total isn't one of those so far
abbrev pub invariant-loop-other : goal.invariant-loop-other
invariant-loop-other l = IsAbsent l.totals l.total l.other-index
