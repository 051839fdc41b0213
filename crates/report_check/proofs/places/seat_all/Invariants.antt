use Rattle.report_check.specs.Seats.{AreSeatedIn}
use Rattle.report_check.proofs.places.seat_all.Given as goal

-- the items so far have their seats
abbrev pub invariant-loop-number : goal.invariant-loop-number
invariant-loop-number l = AreSeatedIn l.lives l.fn.items l.items l.first l.number l.bound l.bound
