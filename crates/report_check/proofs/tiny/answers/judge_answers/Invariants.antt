use Rattle.std.proofs.Common.{◌≡◌}
use Rattle.cycle_history.specs.Before.{objects_before}
use Rattle.report_check.specs.Answered.{AreAnsweredTo}
use Rattle.report_check.proofs.tiny.answers.judge_answers.Given as goal

-- the answers of the cycles so far are right
abbrev pub invariant-loop-cycle : goal.invariant-loop-cycle
invariant-loop-cycle l = record {
  first : l.first ≡ objects_before l.trace l.cycle;
  answered : AreAnsweredTo l.trace l.report l.first;
}
