use Rattle.std.proofs.Common.{◌≤◌, ◌<◌}
use Rattle.report_check.specs.Seats.{AllKept}
use Rattle.report_check.proofs.places.first_lost_in.Given as goal

-- the items so far are kept
abbrev pub invariant-loop-number : goal.invariant-loop-number
invariant-loop-number l = AllKept l.lives (λ i. (l.low ≤ i) × (i < l.number)) l.items l.bound
