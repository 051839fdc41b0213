use Rattle.report_check.proofs.Showing.{match-due}
use Rattle.report_check.proofs.profile.is_shown.Goals as goal

pub returns-else-not-due : goal.returns-else-not-due
returns-else-not-due c lines are = match-due _ c.has_line.result c.args.due c.if-not-due.false (c.has_line.ensures lines are)
