use Rattle.report_check.proofs.PlainLines.{version-1-breaks}
use Rattle.report_check.proofs.laws.version_1_breaks_the_same_lines.Goals as goal

pub returns : goal.returns
returns c = version-1-breaks
