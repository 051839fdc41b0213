use Rattle.std.proofs.Common.{◌≤◌, ◌+◌, ◌-◌, length}
use Rattle.trace_reader.specs.Kept.{Passes}
use Rattle.trace_reader.proofs.Walk.{Walking}
use Rattle.trace_reader.proofs.live.walk.Given as goal

abbrev pub invariant-loop-id : goal.invariant-loop-id
invariant-loop-id l = l.span.lo ≤ l.span.hi → Passes l.kept l.passed l.span.lo → Walking l.kept l.first l.objects l.span l.at l.id

abbrev pub decreases-loop-id : goal.decreases-loop-id
decreases-loop-id l = (length l.kept - l.at) + (l.span.hi + 1 - l.id)
