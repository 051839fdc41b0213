use Rattle.report_text.proofs.Forms.{journal_change}
use Rattle.report_text.proofs.parse.journal_of.Goals as goal

pub returns-in_err-change_of : goal.returns-in_err-change_of
returns-in_err-change_of c = rw c.from_residual-in_err-change_of.ensures (journal_change _ _ _ _ c.in_ok-after.ensures c.in_ok-number.ensures c.in_err-change_of.ensures)
