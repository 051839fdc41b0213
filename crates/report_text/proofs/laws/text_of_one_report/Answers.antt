use Rattle.report_text.proofs.Unique.{one_report}
use Rattle.report_text.proofs.laws.text_of_one_report.Goals as goal

pub returns : goal.returns
returns c = one_report
