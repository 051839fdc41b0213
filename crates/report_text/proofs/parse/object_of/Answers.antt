use Rattle.report_text.proofs.Forms.{object_answer}
use Rattle.report_text.proofs.parse.object_of.Goals as goal

pub returns-in_err-answer_of : goal.returns-in_err-answer_of
returns-in_err-answer_of c = rw c.from_residual-in_err-answer_of.ensures (object_answer _ _ _ _ c.in_ok-after.ensures c.in_ok-number.ensures c.in_err-answer_of.ensures)
