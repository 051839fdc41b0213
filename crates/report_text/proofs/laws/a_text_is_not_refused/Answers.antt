use Rattle.report_text.proofs.Refused.{not_refused_law}
use Rattle.report_text.proofs.laws.a_text_is_not_refused.Goals as goal

pub returns : goal.returns
returns c = not_refused_law
