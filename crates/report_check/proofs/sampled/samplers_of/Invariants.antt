use Rattle.report_check.proofs.Flagging.{AreFirst}
use Rattle.report_check.proofs.sampled.samplers_of.Given as goal

-- the countdowns of the processors so far
abbrev pub invariant-loop-proc : goal.invariant-loop-proc
invariant-loop-proc l = AreFirst l.header l.proc l.samplers.items
