use Rattle.report_check.proofs.Riding.{AreRidingTo}
use Rattle.report_check.proofs.tiny.riders.judge_riding.Given as goal

-- the riders so far stand where they ride
abbrev pub invariant-loop-rider : goal.invariant-loop-rider
invariant-loop-rider l = AreRidingTo l.answers l.riders l.rider-index
