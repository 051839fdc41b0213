use Rattle.report_text.proofs.Refused.{one_refusal}
use Rattle.report_text.proofs.laws.bytes_have_one_refusal.Goals as goal

pub returns : goal.returns
returns c = one_refusal
