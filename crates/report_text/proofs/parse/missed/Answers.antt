use Rattle.report_text.proofs.Forms.{missed_class}
use Rattle.report_text.proofs.parse.missed.Goals as goal

pub returns-in_err-byte_last : goal.returns-in_err-byte_last
returns-in_err-byte_last c = rw c.from_residual-in_err-byte_last.ensures (missed_class _ _ _ _ c.in_ok-after.ensures c.in_ok-pages.ensures c.in_err-byte_last.ensures)
