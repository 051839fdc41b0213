use Rattle.report_check.proofs.PlainLines.{plain-breaks}
use Rattle.report_check.proofs.laws.a_plain_journal_breaks_the_same_lines.Goals as goal

pub returns : goal.returns
returns c = plain-breaks
