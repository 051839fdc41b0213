use Rattle.report_check.proofs.Summed.{ArePrinted}
use Rattle.report_check.proofs.totals.has_all.Given as goal

-- the totals so far are printed
abbrev pub invariant-loop-total : goal.invariant-loop-total
invariant-loop-total l = ArePrinted l.printed l.totals l.total-index
