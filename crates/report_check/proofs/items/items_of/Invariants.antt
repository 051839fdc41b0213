use Rattle.report_check.proofs.Answered.{AreDone}
use Rattle.report_check.proofs.items.items_of.Given as goal

-- the objects so far have their answers
abbrev pub invariant-loop-request : goal.invariant-loop-request
invariant-loop-request l = AreDone l.trace l.report l.request-items l.answers l.items l.request-index
