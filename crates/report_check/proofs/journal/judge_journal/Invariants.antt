use Rattle.std.proofs.Common.{◌≡◌}
use Rattle.report_check.proofs.Journals.{AreReplayed}
use Rattle.report_check.proofs.journal.judge_journal.Given as goal

-- the lines so far are replayed, and the journal is legal up to each of them
abbrev pub invariant-loop-line : goal.invariant-loop-line
invariant-loop-line l = record { number : l.number ≡ l.line-index; lines : AreReplayed l.trace l.report l.line-items l.replay l.line-index }
