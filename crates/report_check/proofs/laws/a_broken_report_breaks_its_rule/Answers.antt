use Rattle.report_check.proofs.Exact.{first-broken}
use Rattle.report_check.proofs.laws.a_broken_report_breaks_its_rule.Goals as goal

pub returns : goal.returns
returns c = first-broken
