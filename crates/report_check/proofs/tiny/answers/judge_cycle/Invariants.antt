use Rattle.std.proofs.Common.{◌≡◌, ◌+◌}
use Rattle.report_check.specs.Answered.{AreAnsweredTo}
use Rattle.report_check.proofs.tiny.answers.judge_cycle.Given as goal

-- the answers so far are right
abbrev pub invariant-loop-event : goal.invariant-loop-event
invariant-loop-event l = record {
  number : l.number ≡ l.first + l.event-index;
  answered : AreAnsweredTo l.trace l.report l.number;
}
